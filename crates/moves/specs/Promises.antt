-- What the functions that make moves ask for and promise.
use Rattle.std.specs.Prelude.{◌≡◌, Bool, true, false, not, ◌&&◌, ◌⊎◌, List, ℕ, suc, ◌+◌, ◌*◌, ◌/◌, ◌≤◌, ◌<◌, eqb, ℤ, set, length}
use Rattle.std.specs.Prelude as answer
use Rattle.std.proofs.Math.Option.{Option}
use Rattle.language.specs.Kinds.{assign, let_in, if_then_else, while, emit, local}
use Rattle.language.specs.Syntax.{Proc, nil}
use Rattle.language.specs.Steps.{present, move}
use Rattle.language.specs.Calls.{Line, line_if, called_at, most_steps}
use Rattle.program.specs.Program.{most_names, node_count, kind_at, a_at, seen_by}
use Rattle.program.specs.Forms.{itself}
use Rattle.residual.specs.Residual.{own}
use Rattle.residual.specs.Nodes.{Valued, At, in_front, residual_of}
use Rattle.moves.specs.declared.counts.Counts.{Counts}
use Rattle.moves.specs.declared.counts.Moved.{Moved}
use Rattle.moves.specs.Moves.{Running, log_after, lines_after, has_room, Live, Silent, Comes}

-- what is counted after a move, with so many lines, and after n instant changes
abbrev pub after_move : Counts → ℕ → Counts
after_move at lines = record { steps = suc at.steps; instants = at.instants; lines = lines }

abbrev pub after_changes : Counts → ℕ → Counts
after_changes at n = record { steps = at.steps + n; instants = at.instants + n; lines = at.lines }

-- what has been counted is within the limits
pub record Counted (limit : ℕ) (log : List ℕ) (at : Counts) : Type 0 where
  pub time : at.steps ≤ limit
  pub most : limit ≤ most_steps
  pub instants : at.instants ≤ at.steps
  pub space : 4 * at.lines ≤ length log

-- the line of a move that gives x this value, if it needs one
abbrev pub line_of : Bool → Counts → ℕ → ℤ → Option Line
line_of needed at = line_if needed at.steps at.instants

-- what is asked for a line
pub record CanNote (log : List ℕ) (at : Counts) (x : ℕ) : Type 0 where
  pub few : x < most_names
  pub time : at.steps < most_steps
  pub instants : at.instants ≤ at.steps
  pub space : 4 * at.lines ≤ length log

-- a line is written if there is room for it: so many lines there are then
pub record Noted (room : ℕ) (l : Option Line) (n : ℕ) (log : List ℕ) (lines : ℕ) (after : List ℕ) : Type 0 where
  pub fits : has_room room l n ≡ true
  pub written : after ≡ log_after l n log
  pub counted : lines ≡ lines_after l n

pub record Unnoted (room : ℕ) (l : Option Line) (n : ℕ) (log after : List ℕ) : Type 0 where
  pub full : has_room room l n ≡ false
  pub same : after ≡ log

abbrev pub Notes : ℕ → Option Line → ℕ → List ℕ → answer.Option ℕ → List ℕ → Type 0
Notes room l n log answer.None after = Unnoted room l n log after
Notes room l n log (answer.Some lines) after = Noted room l n log lines after

-- What a function of the run asks: a program that can be run with its values, node k with its bytes, and counts within
-- the limits.
pub record CanMove
    (words : List ℕ) (k : ℕ) (st : List ℕ) (values : List ℤ) (log : List ℕ) (limit : ℕ) (at : Counts) : Type 0 where
  pub valued : Valued words values
  pub node : At words k st
  pub counted : Counted limit log at

-- and its own move is next
pub record CanMoveItself
    (words : List ℕ) (k : ℕ) (st : List ℕ) (values : List ℤ) (log : List ℕ) (limit : ℕ) (at : Counts) : Type 0 where
  pub can : CanMove words k st values log limit at
  pub form : (in_front words k st).form ≡ itself

-- a process with the values, the log and what has been counted, as the definitions see it; node k with its bytes
abbrev pub running_with : Proc ℕ → List ℤ → List ℕ → Counts → Running ℕ
running_with p values log at =
    record {
      process = p;
      values = values;
      log = log;
      steps = at.steps;
      instants = at.instants;
      lines = at.lines;
    }

abbrev pub node_at : List ℕ → ℕ → List ℕ → List ℤ → List ℕ → Counts → Running ℕ
node_at words k st values log at = running_with (residual_of words k st) values log at

-- What it leaves: node k has made moves, to these bytes, values and log.
abbrev pub Makes :
    List ℕ → ℕ → ℕ → List ℕ → List ℤ → List ℕ → Counts → List ℕ → List ℤ → List ℕ → Moved → Type 0
Makes words limit k st values log at st' values' log' m =
    Comes (seen_by words) limit (length log / 4) (node_at words k st values log at) (node_at words k st' values' log') m

-- node k is of this kind, and as it is written
pub record Unmoved (words : List ℕ) (k : ℕ) (st : List ℕ) (values : List ℤ) (n : ℕ) : Type 0 where
  pub valued : Valued words values
  pub node : At words k st
  pub kind : kind_at words k ≡ n
  pub clear : own st ≡ 0

-- its move calls for no line, and leaves these bytes and values
abbrev pub MovesSilently : List ℕ → ℕ → List ℕ → List ℤ → List ℕ → List ℤ → Type 0
MovesSilently words k st values st' values' = Silent (residual_of words k st) values (residual_of words k st') values'

-- let, if, while and local are such
abbrev pub IsSilent : ℕ → Type 0
IsSilent kind = (kind ≡ let_in) ⊎ ((kind ≡ if_then_else) ⊎ ((kind ≡ while) ⊎ (kind ≡ local)))

-- assignments and emissions may call for one
abbrev pub IsWriter : ℕ → Type 0
IsWriter kind = (kind ≡ assign) ⊎ (kind ≡ emit)

-- Whether the move of a node of kind n that writes x needs a line: the reader sees x, and it is no emission that finds
-- its signal present.
abbrev pub needs_line : (ℕ → Bool) → ℕ → List ℤ → ℕ → Bool
needs_line seen n s x = seen x && not (eqb n emit && present s x)

-- a move of a node of kind n that gives x this value and leaves nil: an assignment or an emission
pub record Writes (n : ℕ) (p : Proc ℕ) (s : List ℤ) (x : ℕ) (v : ℤ) : Type 0 where
  pub live : Live p s
  pub process : (move p s).process ≡ nil
  pub values : (move p s).values ≡ set s x v
  pub line :
      (seen : ℕ → Bool) (steps instants : ℕ) →
      called_at seen (present s) steps instants (move p s).output ≡ line_if (needs_line seen n s x) steps instants x v

-- node k is an assignment or an emission
pub record WriterAt (words : List ℕ) (k : ℕ) (values : List ℤ) (n : ℕ) : Type 0 where
  pub valued : Valued words values
  pub known : k < node_count words
  pub kind : kind_at words k ≡ n
  pub writer : IsWriter n

-- what node k, an assignment or an emission whose move is next, gives its name
abbrev pub Written : List ℕ → ℕ → List ℤ → ℤ → Type 0
Written words k values v =
    (st : List ℕ) → 1 ≤ length st → own st ≡ 0 → Writes (kind_at words k) (residual_of words k st) values (a_at words k) v
