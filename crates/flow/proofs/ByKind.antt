-- 01's list by kind is `write_level`, `test_level` and `need` of a process, from what its children have.
use mathlib.Core.Path.{◌≡◌, refl, ap, ◌∙◌}
use mathlib.Core.Bool.{Bool, true, ◌&&◌, and-true}
use mathlib.Core.List.{List, [], ◌∷◌}
use Prim.Native.Nat.{ℕ}
use Rattle.lattice.specs.Lattice.{Lattice}
use Rattle.language.specs.Syntax.{Names, Proc, nil, assign, let_in, if_then_else, while, sequence, emit, local, watching, when, parallel}
use Rattle.language.specs.Levels.{write_level, test_level, need, needs}
use Rattle.flow.specs.declared.nodes.Flow.{Flow}
use Rattle.language.specs.KindGroups.{kind_of, children_of}
use Rattle.flow.specs.Nodes.{own_of, write_from, test_from, own_need, pair_need}

module _ (𝓛 : Lattice ℕ) (names : Names ℕ) where
  -- the levels of a process; of a failing node it says nothing
  abbrev pub levels : Proc ℕ → Flow
  levels p = record { write = write_level 𝓛 names p; test = test_level 𝓛 names p; failing = 0 }

  -- the levels of the children together
  abbrev pub together : List (Proc ℕ) → Flow
  together [] = record { write = 𝓛.top; test = 𝓛.bottom; failing = 0 }
  together (p ∷ []) = levels p
  together (p ∷ (q ∷ r)) =
      record {
        write = 𝓛.meet (write_level 𝓛 names p) (write_level 𝓛 names q);
        test = 𝓛.join (test_level 𝓛 names p) (test_level 𝓛 names q);
        failing = 0;
      }

  -- what a process of this kind needs of two children
  abbrev pub pair_holds : ℕ → List (Proc ℕ) → Bool
  pair_holds k [] = true
  pair_holds k (p ∷ []) = true
  pair_holds k (p ∷ (q ∷ r)) = pair_need 𝓛 k (levels p) (levels q)

  pub write_by_kind :
      (p : Proc ℕ) → write_from (kind_of p) (own_of 𝓛 names p) (together (children_of p)) ≡ write_level 𝓛 names p
  unfolding kind_of children_of own_of write_level test_level
  write_by_kind nil = refl
  write_by_kind (assign x e) = refl
  write_by_kind (let_in x δ e p) = refl
  write_by_kind (if_then_else e p q) = refl
  write_by_kind (while e p) = refl
  write_by_kind (sequence p q) = refl
  write_by_kind (emit a) = refl
  write_by_kind (local a δ p) = refl
  write_by_kind (watching a p) = refl
  write_by_kind (when a p) = refl
  write_by_kind (parallel p q) = refl

  pub test_by_kind :
      (p : Proc ℕ) → test_from 𝓛 (kind_of p) (own_of 𝓛 names p) (together (children_of p)) ≡ test_level 𝓛 names p
  unfolding kind_of children_of own_of write_level test_level
  test_by_kind nil = refl
  test_by_kind (assign x e) = refl
  test_by_kind (let_in x δ e p) = refl
  test_by_kind (if_then_else e p q) = refl
  test_by_kind (while e p) = refl
  test_by_kind (sequence p q) = refl
  test_by_kind (emit a) = refl
  test_by_kind (local a δ p) = refl
  test_by_kind (watching a p) = refl
  test_by_kind (when a p) = refl
  test_by_kind (parallel p q) = refl

  pub need_by_kind :
      (p : Proc ℕ) →
      (pair_holds (kind_of p) (children_of p)
      && own_need 𝓛 (kind_of p) (own_of 𝓛 names p) (write_level 𝓛 names p) (test_level 𝓛 names p))
      ≡ need 𝓛 names p
  unfolding kind_of children_of own_of write_level test_level need
  need_by_kind nil = refl
  need_by_kind (assign x e) = refl
  need_by_kind (let_in x δ e p) = refl
  need_by_kind (if_then_else e p q) = refl
  need_by_kind (while e p) = refl
  need_by_kind (sequence p q) = and-true _ ∙ and-true _
  need_by_kind (emit a) = refl
  need_by_kind (local a δ p) = refl
  need_by_kind (watching a p) = refl
  need_by_kind (when a p) = refl
  need_by_kind (parallel p q) = and-true _

  -- the needs of the children
  abbrev pub needs_of : List (Proc ℕ) → Bool
  needs_of [] = true
  needs_of (p ∷ ps) = needs 𝓛 names p && needs_of ps

  pub needs_by_kind : (p : Proc ℕ) → (need 𝓛 names p && needs_of (children_of p)) ≡ needs 𝓛 names p
  unfolding children_of needs
  needs_by_kind nil = and-true _
  needs_by_kind (assign x e) = and-true _
  needs_by_kind (let_in x δ e p) = ap (λ b. need 𝓛 names (let_in x δ e p) && b) (and-true _)
  needs_by_kind (if_then_else e p q) =
      ap (λ b. need 𝓛 names (if_then_else e p q) && (needs 𝓛 names p && b)) (and-true _)
  needs_by_kind (while e p) = ap (λ b. need 𝓛 names (while e p) && b) (and-true _)
  needs_by_kind (sequence p q) = ap (λ b. need 𝓛 names (sequence p q) && (needs 𝓛 names p && b)) (and-true _)
  needs_by_kind (emit a) = and-true _
  needs_by_kind (local a δ p) = ap (λ b. need 𝓛 names (local a δ p) && b) (and-true _)
  needs_by_kind (watching a p) = ap (λ b. need 𝓛 names (watching a p) && b) (and-true _)
  needs_by_kind (when a p) = ap (λ b. need 𝓛 names (when a p) && b) (and-true _)
  needs_by_kind (parallel p q) = ap (λ b. need 𝓛 names (parallel p q) && (needs 𝓛 names p && b)) (and-true _)
