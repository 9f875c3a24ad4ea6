-- Moves within an instant, one after the other, with the lines that they write.
use Rattle.std.specs.Prelude.{◌≡◌, Bool, true, false, List, ℕ, suc, ◌+◌, ◌*◌, ◌<◌, ltb, ℤ, set}
use Rattle.std.proofs.Math.Option.{Option, none, some}
use Rattle.std.specs.Int.{w32}
use Rattle.std.proofs.Common.{of_z}
use Rattle.language.specs.Syntax.{Names, Proc, is_nil}
use Rattle.language.specs.Steps.{leaves, suspended, move, change, Inputs, instant_start}
use Rattle.language.specs.Calls.{Line, System, called_for}
use Rattle.moves.specs.declared.counts.Counts.{Counts}
use Rattle.moves.specs.declared.counts.Reason.{Reason}
use Rattle.moves.specs.declared.counts.Reason.TheVariants.{Nil, Suspended, Spent, Full}
use Rattle.moves.specs.declared.counts.Moved.{Moved}
use Rattle.moves.specs.declared.counts.Moved.TheVariants.{Again, Rests}

-- a script that runs, and its log: what is left of it, the values, the words of the log, and what has been counted
pub record Running (L : Type 0) : Type 0 where
  pub process : Proc L
  pub values : List ℤ
  pub log : List ℕ
  pub steps : ℕ
  pub instants : ℕ
  pub lines : ℕ

-- 'Four words make a line: step, instant, name, value as two's complement.' From word `at` on, and as line n of a log.
abbrev pub put_words : List ℕ → ℕ → ℕ → ℕ → ℕ → ℕ → List ℕ
put_words log at step instant name value =
    set (set (set (set log at step) (at + 1) instant) (at + 2) name) (at + 3) value

abbrev pub put_line : Line → ℕ → List ℕ → List ℕ
put_line l n log = put_words log (4 * n) l.step l.instant l.name (of_z w32 l.value)

-- the log, and the number of its lines, after a step that calls for this line
abbrev pub log_after : Option Line → ℕ → List ℕ → List ℕ
log_after none n log = log
log_after (some l) n log = put_line l n log

abbrev pub lines_after : Option Line → ℕ → ℕ
lines_after none n = n
lines_after (some l) n = suc n

-- there is room for the line that a step calls for: a log has room for so many lines
abbrev pub has_room : ℕ → Option Line → ℕ → Bool
has_room room none n = true
has_room room (some l) n = ltb n room

module _ {L : Type 0} where
  abbrev pub system : Running L → System L
  system at =
      record { process = at.process; values = at.values; steps = at.steps; instants = at.instants }

  -- the same with this process
  abbrev pub with_process : Proc L → Running L → Running L
  with_process p at =
      record {
        process = p;
        values = at.values;
        log = at.log;
        steps = at.steps;
        instants = at.instants;
        lines = at.lines;
      }

-- after an instant change, which is a step, and writes no line
abbrev pub changed : {L : Type 0} → Names L → Inputs → Running L → Running L
changed names inputs at =
    record {
      process = change at.process at.values;
      values = instant_start names (inputs (suc at.instants)) at.values;
      log = at.log;
      steps = suc at.steps;
      instants = suc at.instants;
      lines = at.lines;
    }

module _ {L : Type 0} (seen : ℕ → Bool) where
  -- the line that the next move calls for
  abbrev pub next_line : Running L → Option Line
  next_line at = called_for seen (system at) (move at.process at.values).output

  -- after the next move
  unfoldable pub moved : Running L → Running L
  moved at =
      record {
        process = (move at.process at.values).process;
        values = (move at.process at.values).values;
        log = log_after (next_line at) at.lines at.log;
        steps = suc at.steps;
        instants = at.instants;
        lines = lines_after (next_line at) at.lines;
      }

-- neither nil nor suspended
pub record Live {L : Type 0} (p : Proc L) (s : List ℤ) : Type 0 where
  pub some : is_nil p ≡ false
  pub moving : suspended p s ≡ false

-- a move that writes nothing for a reader to see
abbrev pub Silent : {L : Type 0} → Proc L → List ℤ → Proc L → List ℤ → Type 0
Silent p s p' s' = Live p s × (move p s ≡ leaves p' s')

module _ {L : Type 0} (seen : ℕ → Bool) (limit room : ℕ) where
  -- 'Before each step: finished if the script is nil; else spent if the limit is reached; else log full if this step
  -- needs a line and no four words are left.' A move that none of these forbids.
  pub record Ready (at : Running L) : Type 0 where
    pub live : Live at.process at.values
    pub time : at.steps < limit
    pub space : has_room room (next_line seen at) at.lines ≡ true

  -- any number of moves
  pub data MovePath : Running L → Running L → Type 0 where
    stays : {at : Running L} → MovePath at at
    moves : {at to : Running L} → Ready at → MovePath (moved seen at) to → MovePath at to

  -- the limit is reached; the line of the next move has no room
  pub record IsSpent (at : Running L) : Type 0 where
    pub live : Live at.process at.values
    pub time : at.steps ≡ limit

  pub record IsFull (at : Running L) : Type 0 where
    pub live : Live at.process at.values
    pub time : at.steps < limit
    pub space : has_room room (next_line seen at) at.lines ≡ false

  -- what each reason for which there is no further move says
  abbrev pub Ends : Running L → Reason → Type 0
  Ends at Nil = is_nil at.process ≡ true
  Ends at Suspended = suspended at.process at.values ≡ true
  Ends at Spent = IsSpent at
  Ends at Full = IsFull at

  -- moves have been made, at least one
  pub record Goes (at to : Running L) : Type 0 where
    pub path : MovePath at to
    pub some : at.steps < to.steps

  -- moves have been made, as many as there are
  pub record Stops (at to : Running L) (why : Reason) : Type 0 where
    pub path : MovePath at to
    pub ends : Ends to why

  -- what has become of `at`, by what is counted then
  abbrev pub Comes : Running L → (Counts → Running L) → Moved → Type 0
  Comes at to (Again c) = Goes at (to c)
  Comes at to (Rests why c) = Stops at (to c) why
