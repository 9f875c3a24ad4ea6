-- What the functions that run a node ask for and promise.
use Rattle.std.specs.Prelude.{◌≡◌, Bool, true, cond, List, ℕ, ◌-◌, ◌≤◌, ◌<◌, eqb, leb, ltb, ℤ, set, length}
use Rattle.language.specs.Calls.{most_steps}
use Rattle.language.specs.Syntax.{Proc, is_nil}
use Rattle.language.specs.Steps.{present, suspended}
use Rattle.program.specs.Program.{kind_at, a_at}
use Rattle.program.specs.declared.forms.Front.{Front}
use Rattle.program.specs.Forms.{over, itself, before, watched, guarded, beside, part_in}
use Rattle.residual.specs.Residual.{own}
use Rattle.residual.specs.Nodes.{NodeIn, in_front, residual_of}
use Rattle.moves.specs.declared.counts.Counts.{Counts}
use Rattle.moves.specs.declared.counts.Reason.{Reason}
use Rattle.moves.specs.declared.counts.Reason.TheVariants.{Nil, Suspended, Spent, Full}
use Rattle.moves.specs.declared.counts.Moved.{Moved}
use Rattle.moves.specs.declared.counts.Moved.TheVariants as moved
use Rattle.moves.specs.declared.counts.Rested.{Rested}
use Rattle.moves.specs.Moves.{Live, Silent}
use Rattle.moves.specs.Promises.{after_move, IsWriter, CanMove, Makes}
use Rattle.advance.specs.declared.next.Next.{Next}
use Rattle.advance.specs.declared.next.Next.TheVariants.{Rests, Inside, Part}
use Rattle.advance.specs.declared.Turned.{Turned}
use Rattle.advance.specs.declared.Turned.TheVariants as turn

-- what is left of the part in front of node k
abbrev pub front_left : List ℕ → ℕ → List ℕ → Proc ℕ
front_left words k st = residual_of words (in_front words k st).child (part_in (in_front words k st) st)

-- the node itself as its own part
abbrev pub itself_of : ℕ → ℕ → Front
itself_of k len = record { form = itself; child = k; from = 0; to = len }

-- what comes next at node k, which has so many bytes and no part in front
abbrev pub own_next : ℕ → ℕ → ℕ → Next
own_next form k len =
    cond (eqb form itself) (Part (record { form = form; child = k; from = 0; to = len }) true) (Rests Nil)

-- a process makes no move, whatever the limit and the log are
abbrev pub Stands : Proc ℕ → List ℤ → Reason → Type 0
Stands p s Nil = is_nil p ≡ true
Stands p s Suspended = suspended p s ≡ true
Stands p s Spent = ⊥
Stands p s Full = ⊥

-- what is left of node k is what is left of its part in front
pub record Alone (words : List ℕ) (k : ℕ) (st : List ℕ) (f : Front) : Type 0 where
  pub front : f ≡ in_front words k st
  pub part : itself < f.form
  pub alone : f.form < before

-- its part in front, which may be one assignment or emission; a when around it is open
pub record Ahead (words : List ℕ) (k : ℕ) (st : List ℕ) (values : List ℤ) (f : Front) (moving : Bool) : Type 0 where
  pub front : f ≡ in_front words k st
  pub part : itself < f.form
  pub shown : f.form ≡ guarded → present values (a_at words k) ≡ true
  pub writer : moving ≡ true → IsWriter (kind_at words f.child)
  pub written : moving ≡ true → own (part_in f st) ≡ 0

-- its own move, or its part in front
pub data Leads (words : List ℕ) (k : ℕ) (st : List ℕ) (values : List ℤ) (f : Front) (moving : Bool) : Type 0 where
  own_move :
      f ≡ itself_of k (length st) → moving ≡ true → (in_front words k st).form ≡ itself → Leads words k st values f moving
  part_ahead : Ahead words k st values f moving → Leads words k st values f moving

-- what comes next at node k
abbrev pub Follows : List ℕ → ℕ → List ℕ → List ℤ → Next → Type 0
Follows words k st values (Rests why) = Stands (residual_of words k st) values why
Follows words k st values (Inside f) = Alone words k st f
Follows words k st values (Part f moving) = Leads words k st values f moving

-- the own byte of a node with a part in front that is neither alone, nor under a watching or a when
abbrev pub Byte : ℕ → ℕ → Type 0
Byte form tag = (form ≡ watched → ⊥) → (form ≡ guarded → ⊥) → tag ≤ 1

-- a node's own byte when a nil part in front of it is dropped
abbrev pub byte_dropped : ℕ → ℕ → ℕ
byte_dropped form tag = cond (eqb form before) (1 - tag) (cond (ltb form beside) over (3 - tag))

-- a move around a part
pub record CanMoveAround (st : List ℕ) (limit : ℕ) : Type 0 where
  pub some : 1 ≤ length st
  pub most : limit ≤ most_steps

pub record MovesAround (st : List ℕ) (limit : ℕ) (at : Counts) (byte : ℕ) (st' : List ℕ) (m : Moved) : Type 0 where
  pub moved : m ≡ cond (leb limit at.steps) (moved.Rests Spent at) (moved.Again (after_move at at.lines))
  pub bytes : st' ≡ cond (leb limit at.steps) st (set st 0 byte)

-- a part makes no further move for this reason, as far as that is seen on it
abbrev pub PartEnds : Proc ℕ → List ℤ → Reason → Type 0
PartEnds p s Nil = is_nil p ≡ true
PartEnds p s Suspended = suspended p s ≡ true
PartEnds p s Spent = Unit {0}
PartEnds p s Full = Unit {0}

-- the part in front of node k, which has this form, makes no further move for this reason
pub record PartRests
    (words : List ℕ) (k : ℕ) (st : List ℕ) (values : List ℤ) (limit form : ℕ) (why : Reason) (at : Counts)
    : Type 0 where
  pub time : at.steps ≤ limit
  pub form_is : form ≡ (in_front words k st).form
  pub shown : form ≡ guarded → present values (a_at words k) ≡ true
  pub ends : PartEnds (front_left words k st) values why

abbrev pub PartCame : List ℕ → ℕ → List ℕ → List ℤ → ℕ → ℕ → Moved → Type 0
PartCame words k st values limit form (moved.Again c) = Unit {0}
PartCame words k st values limit form (moved.Rests why c) = PartRests words k st values limit form why c

pub record CanLeave
    (words : List ℕ) (k : ℕ) (st : List ℕ) (values : List ℤ) (limit form : ℕ) (part : Moved) : Type 0 where
  pub node : NodeIn words k st values
  pub most : limit ≤ most_steps
  pub came : before ≤ form → PartCame words k st values limit form part

-- a process makes no further move for the reason of its part: a nil part is dropped
abbrev pub EndsWith : Proc ℕ → List ℤ → Reason → Type 0
EndsWith p s Nil = ⊥
EndsWith p s Suspended = suspended p s ≡ true
EndsWith p s Spent = Unit {0}
EndsWith p s Full = Unit {0}

-- A process whose part in front makes no further move: it rests for that reason, or the limit is reached, or it moves.
pub data Settles (limit : ℕ) (p : Proc ℕ) (s : List ℤ) (p' : Proc ℕ) (why : Reason) (at : Counts) (m : Moved) : Type 0 where
  rests_on : m ≡ moved.Rests why at → p' ≡ p → EndsWith p s why → Settles limit p s p' why at m
  at_limit : m ≡ moved.Rests Spent at → p' ≡ p → Live p s → at.steps ≡ limit → Settles limit p s p' why at m
  makes_move :
      m ≡ moved.Again (after_move at at.lines) → at.steps < limit → Silent p s p' s → Settles limit p s p' why at m

abbrev pub LeftBy : List ℕ → ℕ → List ℕ → List ℤ → ℕ → List ℕ → Moved → Moved → Type 0
LeftBy words k st values limit st' m (moved.Again c) = (m ≡ moved.Again c) × (st' ≡ st)
LeftBy words k st values limit st' m (moved.Rests why c) =
    Settles limit (residual_of words k st) values (residual_of words k st') why c m

pub record Leaves
    (words : List ℕ) (k : ℕ) (st : List ℕ) (values : List ℤ) (limit form : ℕ) (part : Moved) (st' : List ℕ) (m : Moved)
    : Type 0 where
  pub same : form < before → m ≡ part
  pub still : form < before → st' ≡ st
  pub framed : before ≤ form → LeftBy words k st values limit st' m part

-- one move of a part is asked for only where its own move is next
pub record CanMovePart
    (words : List ℕ) (k : ℕ) (st : List ℕ) (values : List ℤ) (log : List ℕ) (limit : ℕ) (at : Counts) (moving : Bool)
    : Type 0 where
  pub can : CanMove words k st values log limit at
  pub form : moving ≡ true → (in_front words k st).form ≡ itself

-- the part of node k stands alone in its place, and nothing is made
pub record StandsAlone
    (words : List ℕ) (k : ℕ) (st : List ℕ) (values : List ℤ) (log st' : List ℕ) (values' : List ℤ) (log' : List ℕ)
    (f : Front) : Type 0 where
  pub alone : Alone words k st f
  pub same_values : values' ≡ values
  pub same_bytes : st' ≡ st
  pub same_log : log' ≡ log

-- a turn of node k
abbrev pub TurnMade :
    List ℕ → ℕ → ℕ → List ℕ → List ℤ → List ℕ → Counts → List ℕ → List ℤ → List ℕ → Turned → Type 0
TurnMade words limit k st values log at st' values' log' (turn.Inside f) =
    StandsAlone words k st values log st' values' log' f
TurnMade words limit k st values log at st' values' log' (turn.Made m) =
    Makes words limit k st values log at st' values' log' m

-- node k has made moves, as far as it goes
abbrev pub Advances :
    List ℕ → ℕ → ℕ → List ℕ → List ℤ → List ℕ → Counts → List ℕ → List ℤ → List ℕ → Rested → Type 0
Advances words limit k st values log at st' values' log' r =
    Makes words limit k st values log at st' values' log' (moved.Rests r.why r.at)
