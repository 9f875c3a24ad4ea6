-- A set of levels that is closed under the operations of a lattice has W and T, if it has the levels of the names.
use Prim.Native.Nat.{ℕ}
use mathlib.Core.Path.{◌≡◌, subst}
use mathlib.Core.Bool.{Bool, true}
use mathlib.Core.Logic.{inl, inr}
use lib.Dec.{eqb}
use borrow.Author.Tests.{eqb-true}
use Rattle.prelude.proofs.Bools.{or_cases}
use Rattle.lattice.specs.Lattice.{Lattice}
use Rattle.language.specs.Syntax.{Names, Exp, constant, register, binary, negated, here, left, right, under, Proc, nil, assign, let_in, if_then_else, while, sequence, emit, local, watching, when, parallel}
use Rattle.language.specs.NameKinds.{Kind, var, sig}
use Rattle.language.specs.Scope.{with_name, ReadsIn, Scoped, Declared}
use Rattle.language.specs.Levels.{exp_level, write_level, test_level}
use Rattle.language.proofs.NameKinds.{same_self}

module _ {L : Type 0} (𝓛 : Lattice L) (P : L → Type 0) where
  -- P holds of top and bottom, and of the joins and meets of levels of which it holds
  pub record Closed : Type 0 where
    pub join : (a b : L) → P a → P b → P (𝓛.join a b)
    pub meet : (a b : L) → P a → P b → P (𝓛.meet a b)
    pub top : P 𝓛.top
    pub bottom : P 𝓛.bottom

-- P holds of the levels of the names in a scope, and of those that a process declares
module _ {L : Type 0} (P : L → Type 0) (names : Names L) where
  abbrev pub HoldsIn : (ℕ → Bool) → Type 0
  HoldsIn scope = (x : ℕ) → scope x ≡ true → P (names.level x)

  abbrev pub HoldsOfDeclared : Proc L → Type 0
  HoldsOfDeclared p = (k : Kind) (x : ℕ) → Declared k x p → P (names.level x)

  pub holds_with : (scope : ℕ → Bool) (x : ℕ) → P (names.level x) → HoldsIn scope → HoldsIn (with_name scope x)
  holds_with scope x h all y g =
      or_cases (eqb x y) (scope y) g (λ e. subst (λ z. P (names.level z)) (eqb-true x y e) h) (λ e. all y e)

module _ {L : Type 0} (𝓛 : Lattice L) (P : L → Type 0) (closed : Closed 𝓛 P) (names : Names L) where
  exp_level_lem : (scope : ℕ → Bool) → HoldsIn P names scope → (e : Exp) → ReadsIn names scope e → P (exp_level 𝓛 names e)
  unfolding exp_level
  exp_level_lem scope all (constant v) u = closed.bottom
  exp_level_lem scope all (register x) u = all x (u x here).0
  exp_level_lem scope all (binary o a b) u =
      closed.join _ _ (exp_level_lem scope all a (λ x i. u x (left i))) (exp_level_lem scope all b (λ x i. u x (right i)))
  exp_level_lem scope all (negated a) u = exp_level_lem scope all a (λ x i. u x (under i))

  -- P holds of both levels of a pair
  abbrev Pair : L → L → Type 0
  Pair w t = P w × P t

  both : {w t w' t' : L} → Pair w t → Pair w' t' → Pair (𝓛.meet w w') (𝓛.join t t')
  both h g = (closed.meet _ _ h.0 g.0, closed.join _ _ h.1 g.1)

  tested : {δ w t : L} → P δ → Pair w t → Pair w (𝓛.join δ t)
  tested d h = (h.0, closed.join _ _ d h.1)

  pub levels_in :
      (p : Proc L) (scope : ℕ → Bool) → HoldsIn P names scope → HoldsOfDeclared P names p → Scoped names scope p →
      Pair (write_level 𝓛 names p) (test_level 𝓛 names p)
  unfolding write_level test_level
  levels_in nil scope all new u = (closed.top, closed.bottom)
  levels_in (assign x e) scope all new u = (all x u.0.0, closed.bottom)
  levels_in (let_in x δ e p) scope all new u =
      levels_in p _ (holds_with P names scope x (new var x (inl (same_self var x))) all) (λ k y d. new k y (inr d)) u.2
  levels_in (if_then_else e p q) scope all new u =
      tested (exp_level_lem scope all e u.0)
      (both (levels_in p scope all (λ k y d. new k y (inl d)) u.1) (levels_in q scope all (λ k y d. new k y (inr d)) u.2))
  levels_in (while e p) scope all new u = tested (exp_level_lem scope all e u.0) (levels_in p scope all new u.1)
  levels_in (sequence p q) scope all new u =
      both (levels_in p scope all (λ k y d. new k y (inl d)) u.0) (levels_in q scope all (λ k y d. new k y (inr d)) u.1)
  levels_in (emit a) scope all new u = (all a u.0, closed.bottom)
  levels_in (local a δ p) scope all new u =
      levels_in p _ (holds_with P names scope a (new sig a (inl (same_self sig a))) all) (λ k y d. new k y (inr d)) u.1
  levels_in (watching a p) scope all new u = tested (all a u.0.0) (levels_in p scope all new u.1)
  levels_in (when a p) scope all new u = tested (all a u.0.0) (levels_in p scope all new u.1)
  levels_in (parallel p q) scope all new u =
      both (levels_in p scope all (λ k y d. new k y (inl d)) u.0) (levels_in q scope all (λ k y d. new k y (inr d)) u.1)
