-- The needs of a process hold exactly when no flow that it needs is absent from the order: D and T are least upper
-- levels of what they join, W is the greatest lower level of what it meets.
use mathlib.Core.Path.{◌≡◌, refl, sym, ◌∙◌, subst}
use mathlib.Core.Bool.{Bool, true, false, ◌&&◌, ◌||◌, true≢false, false≢true}
use Prim.Native.Nat.{ℕ}
use lib.Dec.{eqb}
use borrow.Author.Tests.{eqb-true, eq-eqb}
use Rattle.prelude.proofs.Bools.{fails, and_cases, and_intro, and_left, and_right, or_first, or-true, or_cases}
use Rattle.order.specs.Order.{Relation, converse}
use Rattle.lattice.specs.Lattice.{Lattice, Laws}
use Rattle.language.specs.Syntax.{Names, Exp, constant, register, binary, negated, Proc, nil, assign, let_in, if_then_else, while, sequence, emit, local, watching, when, parallel}
use Rattle.language.specs.Levels.{exp_level, write_level, test_level, need, needs}
use Rattle.language.specs.RequiredFlows.{reads, tests, writes, needs_flow, must_flow}
use Rattle.language.proofs.Orders.{via}

module _ (𝓛 : Lattice ℕ) where
  -- a need holds only if these flows are in the order; where it does not hold, one of them is absent
  pub record Agrees (holds : Bool) (flow : ℕ → ℕ → Bool) : Type 0 where
    pub allowed : holds ≡ true → (i j : ℕ) → flow i j ≡ true → 𝓛.leq i j ≡ true
    pub absent : holds ≡ false → (i : ℕ) × (j : ℕ) × (flow i j ≡ true) × (𝓛.leq i j ≡ false)

  nothing : Agrees true (λ i j. false)
  nothing = record { allowed = λ h i j e. absurd (false≢true e); absent = λ h. absurd (true≢false h) }

  two : {a b : Bool} {f g : ℕ → ℕ → Bool} → Agrees a f → Agrees b g → Agrees (a && b) (λ i j. f i j || g i j)
  two {a} {b} {f} {g} h k =
      record {
        allowed =
            λ e i j.
            (λ t. or_cases (f i j) (g i j) t (h.allowed (and_left a b e) i j) (k.allowed (and_right a b e) i j));
        absent =
            λ e.
            and_cases a b e
            (λ z. let w = h.absent z in (w.0, w.1, or_first (f w.0 w.1) (g w.0 w.1) w.2, w.3))
            (λ z. let w = k.absent z in (w.0, w.1, or-true (f w.0 w.1) (g w.0 w.1) w.2, w.3));
      }

-- the least upper levels of a relation: joins in the order, meets in the order upside down
record Uppers (R : Relation) (none : ℕ) (both : ℕ → ℕ → ℕ) : Type 0 where
  reflexive : (a : ℕ) → R a a ≡ true
  transitive : (a b c : ℕ) → R a b ≡ true → R b c ≡ true → R a c ≡ true
  lowest : (a : ℕ) → R none a ≡ true
  left : (a b : ℕ) → R a (both a b) ≡ true
  right : (a b : ℕ) → R b (both a b) ≡ true
  least : (a b c : ℕ) → R a c ≡ true → R b c ≡ true → R (both a b) c ≡ true

-- u is the least upper level of the levels in a set: where it is not at or below c, one of them is not
record Upper (R : Relation) (set : ℕ → Bool) (u : ℕ) : Type 0 where
  above : (i : ℕ) → set i ≡ true → R i u ≡ true
  least : (c : ℕ) → R u c ≡ false → (i : ℕ) × (set i ≡ true) × (R i c ≡ false)

module _ {R : Relation} {none : ℕ} {both : ℕ → ℕ → ℕ} (uppers : Uppers R none both) where
  of_none : Upper R (λ _. false) none
  of_none =
      record {
        above = λ i e. absurd (false≢true e);
        least = λ c h. absurd (true≢false (sym (uppers.lowest c) ∙ h));
      }

  of_one : (a : ℕ) → Upper R (eqb a) a
  of_one a =
      record {
        above = λ i e. subst (λ x. R x a ≡ true) (eqb-true a i e) (uppers.reflexive a);
        least = λ c h. (a, eq-eqb a a refl, h);
      }

  of_both : {f g : ℕ → Bool} {a b : ℕ} → Upper R f a → Upper R g b → Upper R (λ i. f i || g i) (both a b)
  of_both {f} {g} {a} {b} h k =
      record {
        above =
            λ i e.
            or_cases (f i) (g i) e (λ u. uppers.transitive i a (both a b) (h.above i u) (uppers.left a b))
            (λ u. uppers.transitive i b (both a b) (k.above i u) (uppers.right a b));
        least =
            λ c e.
            and_cases (R a c) (R b c)
            (fails _ (λ t. true≢false (sym (uppers.least a b c (and_left _ _ t) (and_right (R a c) _ t)) ∙ e)))
            (λ z. let w = h.least c z in (w.0, or_first (f w.0) (g w.0) w.1, w.2))
            (λ z. let w = k.least c z in (w.0, or-true (f w.0) (g w.0) w.1, w.2));
      }

module _ (𝓛 : Lattice ℕ) (laws : Laws 𝓛) where
  joins : Uppers 𝓛.leq 𝓛.bottom 𝓛.join
  joins =
      record {
        reflexive = laws.reflexive;
        transitive = laws.transitive;
        lowest = laws.above_bottom;
        left = laws.join_left;
        right = laws.join_right;
        least = laws.join_least;
      }

  meets : Uppers (converse 𝓛.leq) 𝓛.top 𝓛.meet
  meets =
      record {
        reflexive = laws.reflexive;
        transitive = λ a b c h k. laws.transitive c b a k h;
        lowest = laws.below_top;
        left = laws.meet_left;
        right = laws.meet_right;
        least = laws.meet_greatest;
      }

  -- the greatest lower level of the levels in a set
  abbrev Lower : (ℕ → Bool) → ℕ → Type 0
  Lower set w = Upper (converse 𝓛.leq) set w

  -- the one law: u is at or below w exactly when every level of the one set is at or below every level of the other
  every : {f g : ℕ → Bool} {u w : ℕ} → Upper 𝓛.leq f u → Lower g w → Agrees 𝓛 (𝓛.leq u w) (λ i j. f i && g j)
  every {f} {g} {u} {w} h k =
      record {
        allowed =
            λ e i j t.
            via 𝓛 laws (via 𝓛 laws (h.above i (and_left (f i) (g j) t)) e) (k.above j (and_right (f i) (g j) t));
        absent =
            λ e.
            let a = h.least w e in
            let b = k.least a.0 a.2 in
            (a.0, b.0, and_intro (f a.0) (g b.0) a.1 b.1, b.2);
      }

  module _ (names : Names ℕ) where
    reads_upper : (e : Exp) → Upper 𝓛.leq (reads names e) (exp_level 𝓛 names e)
    unfolding reads exp_level
    reads_upper (constant v) = of_none joins
    reads_upper (register x) = of_one joins (names.level x)
    reads_upper (binary o a b) = of_both joins (reads_upper a) (reads_upper b)
    reads_upper (negated a) = reads_upper a

    tests_upper : (p : Proc ℕ) → Upper 𝓛.leq (tests names p) (test_level 𝓛 names p)
    unfolding tests test_level
    tests_upper nil = of_none joins
    tests_upper (assign x e) = of_none joins
    tests_upper (let_in x δ e p) = tests_upper p
    tests_upper (if_then_else e p q) = of_both joins (reads_upper e) (of_both joins (tests_upper p) (tests_upper q))
    tests_upper (while e p) = of_both joins (reads_upper e) (tests_upper p)
    tests_upper (sequence p q) = of_both joins (tests_upper p) (tests_upper q)
    tests_upper (emit a) = of_none joins
    tests_upper (local a δ p) = tests_upper p
    tests_upper (watching a p) = of_both joins (of_one joins (names.level a)) (tests_upper p)
    tests_upper (when a p) = of_both joins (of_one joins (names.level a)) (tests_upper p)
    tests_upper (parallel p q) = of_both joins (tests_upper p) (tests_upper q)

    writes_lower : (p : Proc ℕ) → Lower (writes names p) (write_level 𝓛 names p)
    unfolding writes write_level
    writes_lower nil = of_none meets
    writes_lower (assign x e) = of_one meets (names.level x)
    writes_lower (let_in x δ e p) = writes_lower p
    writes_lower (if_then_else e p q) = of_both meets (writes_lower p) (writes_lower q)
    writes_lower (while e p) = writes_lower p
    writes_lower (sequence p q) = of_both meets (writes_lower p) (writes_lower q)
    writes_lower (emit a) = of_one meets (names.level a)
    writes_lower (local a δ p) = writes_lower p
    writes_lower (watching a p) = writes_lower p
    writes_lower (when a p) = writes_lower p
    writes_lower (parallel p q) = of_both meets (writes_lower p) (writes_lower q)

    -- a node's own need
    need_agrees : (p : Proc ℕ) → Agrees 𝓛 (need 𝓛 names p) (needs_flow names p)
    unfolding need needs_flow
    need_agrees nil = nothing 𝓛
    need_agrees (assign x e) = every (reads_upper e) (of_one meets (names.level x))
    need_agrees (let_in x δ e p) = every (reads_upper e) (of_one meets (names.level x))
    need_agrees (if_then_else e p q) = every (reads_upper e) (of_both meets (writes_lower p) (writes_lower q))
    need_agrees (while e p) = every (of_both joins (reads_upper e) (tests_upper p)) (writes_lower p)
    need_agrees (sequence p q) = every (tests_upper p) (writes_lower q)
    need_agrees (emit a) = nothing 𝓛
    need_agrees (local a δ p) = nothing 𝓛
    need_agrees (watching a p) = every (of_one joins (names.level a)) (writes_lower p)
    need_agrees (when a p) = every (of_one joins (names.level a)) (writes_lower p)
    need_agrees (parallel p q) = two 𝓛 (every (tests_upper p) (writes_lower q)) (every (tests_upper q) (writes_lower p))

    -- the needs of all nodes
    pub needs_agrees : (p : Proc ℕ) → Agrees 𝓛 (needs 𝓛 names p) (must_flow names p)
    unfolding needs must_flow
    needs_agrees nil = need_agrees nil
    needs_agrees (assign x e) = need_agrees (assign x e)
    needs_agrees (let_in x δ e p) = two 𝓛 (need_agrees (let_in x δ e p)) (needs_agrees p)
    needs_agrees (if_then_else e p q) = two 𝓛 (need_agrees (if_then_else e p q)) (two 𝓛 (needs_agrees p) (needs_agrees q))
    needs_agrees (while e p) = two 𝓛 (need_agrees (while e p)) (needs_agrees p)
    needs_agrees (sequence p q) = two 𝓛 (need_agrees (sequence p q)) (two 𝓛 (needs_agrees p) (needs_agrees q))
    needs_agrees (emit a) = need_agrees (emit a)
    needs_agrees (local a δ p) = two 𝓛 (need_agrees (local a δ p)) (needs_agrees p)
    needs_agrees (watching a p) = two 𝓛 (need_agrees (watching a p)) (needs_agrees p)
    needs_agrees (when a p) = two 𝓛 (need_agrees (when a p)) (needs_agrees p)
    needs_agrees (parallel p q) = two 𝓛 (need_agrees (parallel p q)) (two 𝓛 (needs_agrees p) (needs_agrees q))
