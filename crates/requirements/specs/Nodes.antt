-- The tests, writes and flows of a node by the number of its kind, from what it brings itself and what its children
-- have: of one level i that may be tested, and one level j that may be written.
-- proofs/ByKind.antt shows that these are `tests`, `writes` and `needs_flow`; no part of what is promised.
use Rattle.std.specs.Prelude.{Bool, false, not, cond, ◌&&◌, ◌||◌, ℕ, eqb}
use Rattle.language.specs.Syntax.{Names, Proc, nil, assign, let_in, if_then_else, while, sequence, emit, local, watching, when, parallel}
use Rattle.language.specs.RequiredFlows.{is_level, reads}
use Rattle.language.specs.Kinds as kind
use Rattle.language.specs.KindGroups.{has_value, has_test, has_write}

module _ (names : Names ℕ) where
  -- the register levels of a node's expression, or the level of the signal that it tests
  unfoldable pub own_reads : Proc ℕ → ℕ → Bool
  own_reads nil i = false
  own_reads (assign x e) i = reads names e i
  own_reads (let_in x δ e p) i = reads names e i
  own_reads (if_then_else e p q) i = reads names e i
  own_reads (while e p) i = reads names e i
  own_reads (sequence p q) i = false
  own_reads (emit a) i = false
  own_reads (local a δ p) i = false
  own_reads (watching a p) i = is_level names a i
  own_reads (when a p) i = is_level names a i
  own_reads (parallel p q) i = false

  -- the level of the name to which a value or an emission goes
  unfoldable pub own_name : Proc ℕ → ℕ → Bool
  own_name nil j = false
  own_name (assign x e) j = is_level names x j
  own_name (let_in x δ e p) j = is_level names x j
  own_name (if_then_else e p q) j = false
  own_name (while e p) j = false
  own_name (sequence p q) j = false
  own_name (emit a) j = is_level names a j
  own_name (local a δ p) j = false
  own_name (watching a p) j = false
  own_name (when a p) j = false
  own_name (parallel p q) j = false

-- tested: what the children test, and what the node reads, if it tests that
abbrev pub tested_by : ℕ → Bool → Bool → Bool
tested_by k read tested = cond (has_test k) (read || tested) tested

-- written: the node's name, if it assigns or emits, else what the children write
abbrev pub written_by : ℕ → Bool → Bool → Bool
written_by k name written = cond (has_write k) name written

-- the node needs flows from what it reads, a while also from all that its body tests, ..
abbrev pub source_by : ℕ → Bool → Bool → Bool
source_by k read tested = cond (eqb k kind.while) (read || tested) read

-- .. to its name, if a value goes into that, else to what the children write
abbrev pub target_by : ℕ → Bool → Bool → Bool
target_by k name written = cond (has_value k) name written

-- a sequence needs flows from what its first child tests to what its second writes, a parallel both ways; an if needs
-- none between its two
abbrev pub pair_by : ℕ → Bool → Bool → Bool → Bool → Bool
pair_by k tested₁ written₁ tested₂ written₂ =
    cond (eqb k kind.if_then_else) false
    ((tested₁ && written₂) || (not (eqb k kind.sequence) && (tested₂ && written₁)))
