-- What stands around the part of a process that is in front, and what a part must leave alone for it to stay open.
use Rattle.std.specs.Prelude.{◌≡◌, true, List, ℕ, ℤ}
use Rattle.language.specs.Syntax.{Proc, sequence, watching, when, parallel}
use Rattle.language.specs.Shapes.{leaves_alone}
use Rattle.language.specs.Steps.{present}

pub data Frame (L : Type 0) : Type 0 where
  alone : Frame L
  before_the : Proc L → Frame L
  watched_by : ℕ → Frame L
  guarded_by : ℕ → Frame L
  beside_the : Proc L → Frame L

module _ {L : Type 0} where
  -- the process with this part in front
  abbrev pub around : Frame L → Proc L → Proc L
  around alone p = p
  around (before_the q) p = sequence p q
  around (watched_by a) p = watching a p
  around (guarded_by a) p = when a p
  around (beside_the q) p = parallel p q

  -- The moves of p are those of the process: a when is open and stays open.
  abbrev pub Open : Frame L → Proc L → List ℤ → Type 0
  Open alone p s = Unit {0}
  Open (before_the q) p s = Unit {0}
  Open (watched_by a) p s = Unit {0}
  Open (guarded_by a) p s = (present s a ≡ true) × (leaves_alone a p ≡ true)
  Open (beside_the q) p s = Unit {0}
