-- The levels that a process tests and writes, and those of the flows that it needs, are levels of its names.
use Prim.Native.Nat.{ℕ}
use mathlib.Core.Path.{◌≡◌, subst}
use mathlib.Core.Bool.{Bool, true, false, ◌&&◌, ◌||◌, false≢true}
use mathlib.Core.Logic.{inl, inr}
use lib.Dec.{eqb}
use borrow.Author.Tests.{eqb-true}
use Rattle.prelude.proofs.Bools.{and_left, and_right, or_cases}
use Rattle.language.specs.Syntax.{Names, Exp, constant, register, binary, negated, here, left, right, under, Proc, nil, assign, let_in, if_then_else, while, sequence, emit, local, watching, when, parallel}
use Rattle.language.specs.NameKinds.{var, sig}
use Rattle.language.specs.Scope.{ReadsIn, Scoped}
use Rattle.language.specs.RequiredFlows.{reads, tests, writes, needs_flow, must_flow}
use Rattle.language.proofs.NameKinds.{same_self}
use Rattle.language.proofs.LevelRanges.{HoldsIn, HoldsOfDeclared, holds_with}

module _ (P : ℕ → Type 0) where
  -- P holds of every level of a set, of both levels of every flow
  abbrev In : (ℕ → Bool) → Type 0
  In f = (i : ℕ) → f i ≡ true → P i

  abbrev PairsIn : (ℕ → ℕ → Bool) → Type 0
  PairsIn f = (i j : ℕ) → f i j ≡ true → P i × P j

  none : In (λ _. false)
  none i e = absurd (false≢true e)

  either : (f g : ℕ → Bool) → In f → In g → In (λ i. f i || g i)
  either f g h k i e = or_cases (f i) (g i) e (h i) (k i)

  no_pairs : PairsIn (λ _ _. false)
  no_pairs i j e = absurd (false≢true e)

  pairs : (f g : ℕ → Bool) → In f → In g → PairsIn (λ i j. f i && g j)
  pairs f g h k i j e = (h i (and_left (f i) (g j) e), k j (and_right (f i) (g j) e))

  either_pairs : (f g : ℕ → ℕ → Bool) → PairsIn f → PairsIn g → PairsIn (λ i j. f i j || g i j)
  either_pairs f g h k i j e = or_cases (f i j) (g i j) e (h i j) (k i j)

module _ (P : ℕ → Type 0) (names : Names ℕ) where
  level_in_lem : (x : ℕ) → P (names.level x) → In P (eqb (names.level x))
  level_in_lem x h i e = subst P (eqb-true (names.level x) i e) h

  reads_in : (scope : ℕ → Bool) → HoldsIn P names scope → (e : Exp) → ReadsIn names scope e → In P (reads names e)
  unfolding reads
  reads_in scope all (constant v) u = none P
  reads_in scope all (register x) u = level_in_lem x (all x (u x here).0)
  reads_in scope all (binary o a b) u =
      either P (reads names a) (reads names b) (reads_in scope all a (λ x i. u x (left i)))
      (reads_in scope all b (λ x i. u x (right i)))
  reads_in scope all (negated a) u = reads_in scope all a (λ x i. u x (under i))

  pub record Inside (p : Proc ℕ) : Type 0 where
    pub tested : In P (tests names p)
    pub written : In P (writes names p)
    pub flows : PairsIn P (must_flow names p)

  -- two parts of a process together
  module _ (p q : Proc ℕ) (h : Inside p) (k : Inside q) where
    tests_both : In P (λ i. tests names p i || tests names q i)
    tests_both = either P (tests names p) (tests names q) h.tested k.tested

    writes_both : In P (λ j. writes names p j || writes names q j)
    writes_both = either P (writes names p) (writes names q) h.written k.written

    flows_both : PairsIn P (λ i j. must_flow names p i j || must_flow names q i j)
    flows_both = either_pairs P (must_flow names p) (must_flow names q) h.flows k.flows

  -- a process that waits for a signal
  module _ (a : ℕ) (p : Proc ℕ) (own : P (names.level a)) (h : Inside p) where
    wait_tests : In P (λ i. eqb (names.level a) i || tests names p i)
    wait_tests = either P (eqb (names.level a)) (tests names p) (level_in_lem a own) h.tested

    wait_flows : PairsIn P (λ i j. (eqb (names.level a) i && writes names p j) || must_flow names p i j)
    wait_flows =
        either_pairs P (λ i j. eqb (names.level a) i && writes names p j) (must_flow names p)
        (pairs P (eqb (names.level a)) (writes names p) (level_in_lem a own) h.written)
        h.flows

  pub flows_in :
      (p : Proc ℕ) (scope : ℕ → Bool) → HoldsIn P names scope → HoldsOfDeclared P names p → Scoped names scope p → Inside p
  unfolding tests writes needs_flow must_flow
  flows_in nil scope all new u = record { tested = none P; written = none P; flows = no_pairs P }
  flows_in (assign x e) scope all new u =
      let own = level_in_lem x (all x u.0.0) in
      record {
        tested = none P;
        written = own;
        flows = pairs P (reads names e) (eqb (names.level x)) (reads_in scope all e u.1) own;
      }
  flows_in (let_in x δ e p) scope all new u =
      let at = new var x (inl (same_self var x)) in
      let h = flows_in p _ (holds_with P names scope x at all) (λ k y d. new k y (inr d)) u.2 in
      record {
        tested = h.tested;
        written = h.written;
        flows =
            either_pairs P (needs_flow names (let_in x δ e p)) (must_flow names p)
            (pairs P (reads names e) (eqb (names.level x)) (reads_in scope all e u.1) (level_in_lem x at))
            h.flows;
      }
  flows_in (if_then_else e p q) scope all new u =
      let h = flows_in p scope all (λ k y d. new k y (inl d)) u.1 in
      let k = flows_in q scope all (λ k y d. new k y (inr d)) u.2 in
      let own = reads_in scope all e u.0 in
      record {
        tested = either P (reads names e) (λ i. tests names p i || tests names q i) own (tests_both p q h k);
        written = writes_both p q h k;
        flows =
            either_pairs P (needs_flow names (if_then_else e p q)) (λ i j. must_flow names p i j || must_flow names q i j)
            (pairs P (reads names e) (λ j. writes names p j || writes names q j) own (writes_both p q h k))
            (flows_both p q h k);
      }
  flows_in (while e p) scope all new u =
      let h = flows_in p scope all new u.1 in
      let own = either P (reads names e) (tests names p) (reads_in scope all e u.0) h.tested in
      record {
        tested = own;
        written = h.written;
        flows =
            either_pairs P (needs_flow names (while e p)) (must_flow names p)
            (pairs P (λ i. reads names e i || tests names p i) (writes names p) own h.written)
            h.flows;
      }
  flows_in (sequence p q) scope all new u =
      let h = flows_in p scope all (λ k y d. new k y (inl d)) u.0 in
      let k = flows_in q scope all (λ k y d. new k y (inr d)) u.1 in
      record {
        tested = tests_both p q h k;
        written = writes_both p q h k;
        flows =
            either_pairs P (needs_flow names (sequence p q)) (λ i j. must_flow names p i j || must_flow names q i j)
            (pairs P (tests names p) (writes names q) h.tested k.written)
            (flows_both p q h k);
      }
  flows_in (emit a) scope all new u =
      record { tested = none P; written = level_in_lem a (all a u.0); flows = no_pairs P }
  flows_in (local a δ p) scope all new u =
      let h =
      flows_in p _ (holds_with P names scope a (new sig a (inl (same_self sig a))) all) (λ k y d. new k y (inr d)) u.1 in
      record { tested = h.tested; written = h.written; flows = h.flows }
  flows_in (watching a p) scope all new u =
      let h = flows_in p scope all new u.1 in
      let own = all a u.0.0 in
      record { tested = wait_tests a p own h; written = h.written; flows = wait_flows a p own h }
  flows_in (when a p) scope all new u =
      let h = flows_in p scope all new u.1 in
      let own = all a u.0.0 in
      record { tested = wait_tests a p own h; written = h.written; flows = wait_flows a p own h }
  flows_in (parallel p q) scope all new u =
      let h = flows_in p scope all (λ k y d. new k y (inl d)) u.0 in
      let k = flows_in q scope all (λ k y d. new k y (inr d)) u.1 in
      record {
        tested = tests_both p q h k;
        written = writes_both p q h k;
        flows =
            either_pairs P (needs_flow names (parallel p q)) (λ i j. must_flow names p i j || must_flow names q i j)
            (either_pairs P (λ i j. tests names p i && writes names q j) (λ i j. tests names q i && writes names p j)
            (pairs P (tests names p) (writes names q) h.tested k.written)
            (pairs P (tests names q) (writes names p) k.tested h.written))
            (flows_both p q h k);
      }
