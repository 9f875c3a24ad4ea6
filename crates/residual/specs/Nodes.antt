-- A node of a program with its bytes and the values: what the functions of a run ask for.
use Rattle.std.specs.Prelude.{◌≡◌, List, ℕ, ◌-◌, ◌<◌, ℤ, length}
use Rattle.language.specs.Syntax.{Proc}
use Rattle.language.specs.NodeCounts.{size}
use Rattle.program.specs.Program.{node_count, process_of}
use Rattle.program.specs.declared.forms.Front.{Front}
use Rattle.program.specs.Forms.{front_of}
pub use Rattle.program.specs.Runnable.{Valued}
use Rattle.residual.specs.Residual.{own, residual}

-- node k with its bytes
pub record At (words : List ℕ) (k : ℕ) (st : List ℕ) : Type 0 where
  pub known : k < node_count words
  pub whole : length st ≡ size (process_of words k)

-- with the values: what a question about a node asks
pub record NodeIn (words : List ℕ) (k : ℕ) (st : List ℕ) (values : List ℤ) : Type 0 where
  pub valued : Valued words values
  pub node : At words k st

-- the part of node k in front, by its bytes, and of a parallel the other part
abbrev pub in_front : List ℕ → ℕ → List ℕ → Front
in_front words k st = front_of words k (own st) (length st)

abbrev pub in_rear : List ℕ → ℕ → List ℕ → Front
in_rear words k st = front_of words k (1 - own st) (length st)

-- what is left of node k
abbrev pub residual_of : List ℕ → ℕ → List ℕ → Proc ℕ
residual_of words k st = residual (process_of words k) st
