-- Tests, writes and flows by kind are `tests`, `writes`, `needs_flow` and `must_flow` of a process, from what its children
-- have.
use mathlib.Core.Path.{◌≡◌, refl, ◌∙◌}
use mathlib.Core.Bool.{Bool, false, ◌&&◌, ◌||◌, or-false}
use mathlib.Core.List.{List, [], ◌∷◌}
use Prim.Native.Nat.{ℕ}
use Rattle.language.specs.Syntax.{Names, Proc, nil, assign, let_in, if_then_else, while, sequence, emit, local, watching, when, parallel}
use Rattle.language.specs.RequiredFlows.{tests, writes, needs_flow, must_flow}
use Rattle.language.specs.KindGroups.{kind_of, children_of}
use Rattle.requirements.specs.Nodes.{own_reads, own_name, tested_by, written_by, source_by, target_by, pair_by}

-- some child has it
abbrev pub any_of : (Proc ℕ → Bool) → List (Proc ℕ) → Bool
any_of f [] = false
any_of f (p ∷ []) = f p
any_of f (p ∷ (q ∷ r)) = f p || f q

module _ (names : Names ℕ) where
  abbrev pub tests_of : List (Proc ℕ) → ℕ → Bool
  tests_of ps i = any_of (λ p. tests names p i) ps

  abbrev pub writes_of : List (Proc ℕ) → ℕ → Bool
  writes_of ps j = any_of (λ p. writes names p j) ps

  abbrev pub must_of : List (Proc ℕ) → ℕ → ℕ → Bool
  must_of ps i j = any_of (λ p. must_flow names p i j) ps

  -- what a process of this kind needs between two children
  abbrev pub pair_of : ℕ → List (Proc ℕ) → ℕ → ℕ → Bool
  pair_of k [] i j = false
  pair_of k (p ∷ []) i j = false
  pair_of k (p ∷ (q ∷ r)) i j = pair_by k (tests names p i) (writes names p j) (tests names q i) (writes names q j)

  pub tests_by_kind :
      (p : Proc ℕ) (i : ℕ) → tested_by (kind_of p) (own_reads names p i) (tests_of (children_of p) i) ≡ tests names p i
  unfolding kind_of children_of own_reads tests
  tests_by_kind nil i = refl
  tests_by_kind (assign x e) i = refl
  tests_by_kind (let_in x δ e p) i = refl
  tests_by_kind (if_then_else e p q) i = refl
  tests_by_kind (while e p) i = refl
  tests_by_kind (sequence p q) i = refl
  tests_by_kind (emit a) i = refl
  tests_by_kind (local a δ p) i = refl
  tests_by_kind (watching a p) i = refl
  tests_by_kind (when a p) i = refl
  tests_by_kind (parallel p q) i = refl

  pub writes_by_kind :
      (p : Proc ℕ) (j : ℕ) → written_by (kind_of p) (own_name names p j) (writes_of (children_of p) j) ≡ writes names p j
  unfolding kind_of children_of own_name writes
  writes_by_kind nil j = refl
  writes_by_kind (assign x e) j = refl
  writes_by_kind (let_in x δ e p) j = refl
  writes_by_kind (if_then_else e p q) j = refl
  writes_by_kind (while e p) j = refl
  writes_by_kind (sequence p q) j = refl
  writes_by_kind (emit a) j = refl
  writes_by_kind (local a δ p) j = refl
  writes_by_kind (watching a p) j = refl
  writes_by_kind (when a p) j = refl
  writes_by_kind (parallel p q) j = refl

  pub need_by_kind :
      (p : Proc ℕ) (i j : ℕ) →
      (pair_of (kind_of p) (children_of p) i j
      || (source_by (kind_of p) (own_reads names p i) (tests_of (children_of p) i)
      && target_by (kind_of p) (own_name names p j) (writes_of (children_of p) j)))
      ≡ needs_flow names p i j
  unfolding kind_of children_of own_reads own_name needs_flow
  need_by_kind nil i j = refl
  need_by_kind (assign x e) i j = refl
  need_by_kind (let_in x δ e p) i j = refl
  need_by_kind (if_then_else e p q) i j = refl
  need_by_kind (while e p) i j = refl
  need_by_kind (sequence p q) i j = or-false _ ∙ or-false _
  need_by_kind (emit a) i j = refl
  need_by_kind (local a δ p) i j = refl
  need_by_kind (watching a p) i j = refl
  need_by_kind (when a p) i j = refl
  need_by_kind (parallel p q) i j = or-false _

  pub must_by_kind : (p : Proc ℕ) (i j : ℕ) → (needs_flow names p i j || must_of (children_of p) i j) ≡ must_flow names p i j
  unfolding children_of must_flow
  must_by_kind nil i j = or-false _
  must_by_kind (assign x e) i j = or-false _
  must_by_kind (let_in x δ e p) i j = refl
  must_by_kind (if_then_else e p q) i j = refl
  must_by_kind (while e p) i j = refl
  must_by_kind (sequence p q) i j = refl
  must_by_kind (emit a) i j = or-false _
  must_by_kind (local a δ p) i j = refl
  must_by_kind (watching a p) i j = refl
  must_by_kind (when a p) i j = refl
  must_by_kind (parallel p q) i j = refl
