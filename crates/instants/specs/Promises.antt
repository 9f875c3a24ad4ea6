-- What the functions about suspension and instants promise.
use Rattle.std.specs.Prelude.{◌≡◌, Bool, true, cond, ◌&&◌, List, ℕ, ◌≤◌, ◌<◌, ℤ, pos, length}
use Rattle.prelude.specs.Search.{any}
use Rattle.prelude.specs.Table.{table}
use Rattle.language.specs.Syntax.{Names}
use Rattle.language.specs.Steps.{held, present, suspended, change, no_signal, instant_start}
use Rattle.inputs.specs.Lists.{pair_count, signal_at}
use Rattle.program.specs.Program.{names_of}
use Rattle.program.specs.Forms.{beside, part_in}
use Rattle.residual.specs.Nodes.{NodeIn, in_front, in_rear, residual_of}

-- a node that has come to this form
pub record RearAsked (words : List ℕ) (k : ℕ) (st : List ℕ) (values : List ℤ) (n : ℕ) : Type 0 where
  pub at : NodeIn words k st values
  pub form : n ≡ (in_front words k st).form

-- Of a node with this form nothing behind the part in front could move in its place.
pub record RearWaits (words : List ℕ) (k : ℕ) (st : List ℕ) (values : List ℤ) (form : ℕ) (waits : Bool) : Type 0 where
  pub none : form < beside → waits ≡ true
  pub other :
      beside ≤ form → waits ≡ suspended (residual_of words (in_rear words k st).child (part_in (in_rear words k st) st)) values

-- a signal that is present, and whether there is one
abbrev pub is_present_signal : Names ℕ → List ℤ → ℕ → Bool
is_present_signal names values x = names.is_signal x && present values x

abbrev pub some_signal_present : Names ℕ → List ℤ → Bool
some_signal_present names values = any (is_present_signal names values) (length values)

-- the values without those of the names for which f holds
abbrev pub cleared_by : (ℕ → Bool) → List ℤ → List ℤ
cleared_by f values = table (λ x. cond (f x) (pos 0) (held values x)) (length values)

-- what the end of an instant makes of node k, and of the values: no signal is present yet
pub record NextInstant (words : List ℕ) (k : ℕ) (st st' : List ℕ) (vs vs' : List ℤ) : Type 0 where
  pub process : residual_of words k st' ≡ change (residual_of words k st) vs
  pub values : vs' ≡ instant_start (names_of words) no_signal vs

-- pairs of a list, and a value for each signal that they name
pub record CanSet (list : List ℕ) (from to : ℕ) (values : List ℤ) : Type 0 where
  pub order : from ≤ to
  pub within : to ≤ pair_count list
  pub valued : (k : ℕ) → k < pair_count list → signal_at list k < length values

-- the signals of these pairs are present, and the other names as they were
pub record MadePresent (list : List ℕ) (from to : ℕ) (before after : List ℤ) : Type 0 where
  pub same : length after ≡ length before
  pub named : (k : ℕ) → from ≤ k → k < to → held after (signal_at list k) ≡ pos 1
  pub others : (x : ℕ) → ((k : ℕ) → from ≤ k → k < to → signal_at list k ≡ x → ⊥) → held after x ≡ held before x
