-- 01's list of levels and needs agrees with Figure 5.
use Prim.Native.Nat.{ℕ}
use mathlib.Core.Path.{◌≡◌, refl, sym, ap, subst, ◌∙◌}
use mathlib.Core.Bool.{Bool, true, false, not, ◌&&◌, true≢false}
use mathlib.Core.Option.{some}
use native.Mathlib.Omega.{arith}
use lib.Dec.{eqb}
use borrow.Author.Tests.{eqb-true}
use Rattle.prelude.proofs.Bools.{by_cases, and_intro, or_cases}
use Rattle.lattice.specs.Lattice.{Lattice, Laws}
use Rattle.language.specs.Syntax.{Names, Exp, constant, register, binary, negated, Occurs, here, left, right, under, Proc, nil, assign, let_in, if_then_else, while, sequence, emit, local, watching, when, parallel}
use Rattle.language.specs.Scope.{with_name, ReadsIn, Scoped}
use Rattle.language.specs.Levels.{exp_level, write_level, test_level, need}
use Rattle.language.specs.NameKinds.{Kind, var, sig, same, put, is_of}
use Rattle.language.specs.Typing.{Environment, environment, Below, HasLevel, EXPR, Typed, NIL, ASSIGN, LET, SEQ, COND, WHILE, EMIT, LOCAL, WATCH, WHEN, PAR, SUB}
use Rattle.language.proofs.NameKinds.{same_number, same_self, one_kind}
use Rattle.language.proofs.Orders.{via, joins, meets}
use Rattle.language.proofs.Needs.{Needs, parallel_needs}

module _ {L : Type 0} (names : Names L) where
  -- x is a name of this kind
  abbrev Of : Kind → ℕ → Type 0
  Of k x = is_of k (names.is_signal x) ≡ true

  -- Γ gives every name in the scope its level
  abbrev pub Covers : Environment L → (ℕ → Bool) → Type 0
  Covers Γ scope = (k : Kind) (x : ℕ) → scope x ≡ true → Of k x → Γ k x ≡ some (names.level x)

  -- where Γ gives a level, it is the name's
  abbrev pub Agrees : Environment L → Type 0
  Agrees Γ = (k : Kind) (x : ℕ) (θ : L) → Γ k x ≡ some θ → θ ≡ names.level x

  covers_put :
      (Γ : Environment L) (scope : ℕ → Bool) (k : Kind) (x : ℕ) (δ : L) → δ ≡ names.level x → Of k x → Covers Γ scope →
      Covers (put Γ k x (some δ)) (with_name scope x)
  covers_put Γ scope k x δ e o c j y h i =
      by_cases
      (λ u. u ≡ some (names.level y))
      (same k x j y)
      (λ g. ap some (e ∙ ap names.level (same_number k x j y g)))
      (λ g. or_cases (eqb x y) (scope y) h (λ q. absurd (elsewhere g (eqb-true x y q))) (λ q. c j y q i))
    where
      elsewhere : same k x j y ≡ false → x ≡ y → ⊥
      elsewhere g q =
          let o' : Of k y = rw (← q) o in
          let z : k ≡ j = one_kind k j (names.is_signal y) o' i in
          true≢false (sym (rw (z, q) (same_self j y)) ∙ g)

  agrees_put :
      (Γ : Environment L) (k : Kind) (x : ℕ) (δ : L) → δ ≡ names.level x → Agrees Γ → Agrees (put Γ k x (some δ))
  agrees_put Γ k x δ e w j y θ =
      by_cases
      (λ u. u ≡ some θ → θ ≡ names.level y)
      (same k x j y)
      (λ g q. let z : θ ≡ δ = cc in z ∙ e ∙ ap names.level (same_number k x j y g))
      (λ g q. w j y θ q)

module _ {L : Type 0} (𝓛 : Lattice L) (laws : Laws 𝓛) (names : Names L) where
  occurs_below : {x : ℕ} {e : Exp} → Occurs x e → Below 𝓛 (names.level x) (exp_level 𝓛 names e)
  unfolding exp_level
  occurs_below here = laws.reflexive _
  occurs_below (left o) = via 𝓛 laws (occurs_below o) (laws.join_left _ _)
  occurs_below (right o) = via 𝓛 laws (occurs_below o) (laws.join_right _ _)
  occurs_below (under o) = occurs_below o

  -- every register of an expression is at or below what its level is at or below
  pub reads_below :
      (e : Exp) (δ : L) → Below 𝓛 (exp_level 𝓛 names e) δ → (x : ℕ) → Occurs x e → Below 𝓛 (names.level x) δ
  reads_below e δ h x o = via 𝓛 laws (occurs_below o) h

  level_least : (e : Exp) (δ : L) → ((x : ℕ) → Occurs x e → Below 𝓛 (names.level x) δ) → Below 𝓛 (exp_level 𝓛 names e) δ
  unfolding exp_level
  level_least (constant v) δ h = laws.above_bottom δ
  level_least (register x) δ h = h x here
  level_least (binary o a b) δ h =
      laws.join_least _ _ _ (level_least a δ (λ x i. h x (left i))) (level_least b δ (λ x i. h x (right i)))
  level_least (negated a) δ h = level_least a δ (λ x i. h x (under i))

  -- rule EXPR and the level of an expression
  has_level :
      (Γ : Environment L) (scope : ℕ → Bool) (e : Exp) (δ : L) → Covers names Γ scope → ReadsIn names scope e →
      Below 𝓛 (exp_level 𝓛 names e) δ → HasLevel 𝓛 Γ e δ
  has_level Γ scope e δ c r h =
      EXPR (λ x o. (names.level x, c var x (r x o).0 (ap not (r x o).1), reads_below e δ h x o))

  level_of_lem : (Γ : Environment L) (e : Exp) (δ : L) → Agrees names Γ → HasLevel 𝓛 Γ e δ → Below 𝓛 (exp_level 𝓛 names e) δ
  level_of_lem Γ e δ w (EXPR f) =
      level_least
      e
      δ
      (λ x o. subst (λ θ. Below 𝓛 θ δ) (w var x _ (f x o).1) (f x o).2)

  -- Where the needs hold, the pair of the list is derivable.
  pub derives :
      (p : Proc L) (Γ : Environment L) (scope : ℕ → Bool) → Covers names Γ scope → Scoped names scope p →
      Needs 𝓛 names p →
      Typed 𝓛 Γ p (write_level 𝓛 names p) (test_level 𝓛 names p)
  unfolding write_level test_level need
  derives nil Γ scope c u h = NIL
  derives (assign x e) Γ scope c u h =
      ASSIGN (has_level Γ scope e _ c u.1 h) (c var x u.0.0 (ap not u.0.1))
  derives (let_in x δ e p) Γ scope c u h =
      let d = u.0 in
      LET
      (has_level Γ scope e δ c u.1 (subst (Below 𝓛 _) (sym d.carried) h.0))
      (derives p _ _ (covers_put names Γ scope var x δ d.carried (ap not d.kinded) c) u.2 h.1)
  derives (if_then_else e p q) Γ scope c u h =
      COND
      (has_level Γ scope e _ c u.0 (laws.reflexive _))
      (SUB (derives p Γ scope c u.1 h.1) (laws.meet_left _ _) (laws.join_left _ _))
      (SUB (derives q Γ scope c u.2 h.2) (laws.meet_right _ _) (laws.join_right _ _))
      h.0
  derives (while e p) Γ scope c u h =
      WHILE (has_level Γ scope e _ c u.0 (laws.reflexive _)) (derives p Γ scope c u.1 h.1) h.0
  derives (sequence p q) Γ scope c u h =
      SEQ (derives p Γ scope c u.0 h.1) (derives q Γ scope c u.1 h.2) h.0
  derives (emit a) Γ scope c u h = EMIT (c sig a u.0 u.1)
  derives (local a δ p) Γ scope c u h =
      let d = u.0 in
      LOCAL (derives p _ _ (covers_put names Γ scope sig a δ d.carried d.kinded c) u.1 h.1)
  derives (watching a p) Γ scope c u h =
      WATCH (c sig a u.0.0 u.0.1) (derives p Γ scope c u.1 h.1) h.0
  derives (when a p) Γ scope c u h =
      WHEN (c sig a u.0.0 u.0.1) (derives p Γ scope c u.1 h.1) h.0
  derives (parallel p q) Γ scope c u h =
      PAR
      (derives p Γ scope c u.0 h.1)
      (derives q Γ scope c u.1 h.2)
      (parallel_needs 𝓛 names p q h.0).0
      (parallel_needs 𝓛 names p q h.0).1

  -- Where a pair is derivable, the needs hold, and the pair of the list is at least as tight.
  pub derived :
      {Γ : Environment L} {p : Proc L} {θ σ : L} → Typed 𝓛 Γ p θ σ → (scope : ℕ → Bool) → Agrees names Γ →
      Scoped names scope p →
      Needs 𝓛 names p × Below 𝓛 θ (write_level 𝓛 names p) × Below 𝓛 (test_level 𝓛 names p) σ
  unfolding write_level test_level need
  derived NIL scope w u = (refl, laws.below_top _, laws.above_bottom _)
  derived {Γ} (ASSIGN {x = x} {e = e} {θ = θ} h g) scope w u =
      let q = w var x _ g in (
        subst (Below 𝓛 _) q (level_of_lem Γ e θ w h),
        subst (Below 𝓛 θ) q (laws.reflexive θ),
        laws.above_bottom _,
      )
  derived {Γ} (LET {x = x} {e = e} {δ = δ} h d) scope w u =
      let q = u.0.carried in
      let c = derived d _ (agrees_put names Γ var x δ q w) u.2 in
      ((subst (Below 𝓛 _) q (level_of_lem Γ e δ w h), c.0), c.1, c.2)
  derived (SEQ d d' h) scope w u =
      let c = derived d scope w u.0 in
      let c' = derived d' scope w u.1 in (
        (via 𝓛 laws c.2 (via 𝓛 laws h c'.1), c.0, c'.0),
        meets 𝓛 laws c.1 c'.1,
        joins 𝓛 laws c.2 c'.2,
      )
  derived {Γ} (COND {e = e} h d d' k) scope w u =
      let c = derived d scope w u.1 in
      let c' = derived d' scope w u.2 in
      let m = laws.meet_greatest _ _ _ c.1 c'.1 in
      let l = level_of_lem Γ e _ w h in (
        (via 𝓛 laws l (via 𝓛 laws k m), c.0, c'.0),
        m,
        joins 𝓛 laws l (laws.join_least _ _ _ c.2 c'.2),
      )
  derived {Γ} (WHILE {e = e} h d k) scope w u =
      let c = derived d scope w u.1 in
      let j = joins 𝓛 laws (level_of_lem Γ e _ w h) c.2 in
      ((via 𝓛 laws j (via 𝓛 laws k c.1), c.0), c.1, j)
  derived (EMIT {a = a} {θ = θ} g) scope w u =
      (refl, subst (Below 𝓛 θ) (w sig a _ g) (laws.reflexive θ), laws.above_bottom _)
  derived {Γ} (LOCAL {a = a} {δ = δ} d) scope w u =
      let c = derived d _ (agrees_put names Γ sig a δ u.0.carried w) u.1 in
      ((refl, c.0), c.1, c.2)
  derived (WATCH {a = a} {δ = δ} {θ = θ} {σ = σ} g d k) scope w u =
      let c = derived d scope w u.1 in
      let l = subst (λ z. Below 𝓛 z δ) (w sig a _ g) (laws.reflexive δ) in
      ((via 𝓛 laws l (via 𝓛 laws k c.1), c.0), c.1, joins 𝓛 laws l c.2)
  derived (WHEN {a = a} {δ = δ} {θ = θ} {σ = σ} g d k) scope w u =
      let c = derived d scope w u.1 in
      let l = subst (λ z. Below 𝓛 z δ) (w sig a _ g) (laws.reflexive δ) in
      ((via 𝓛 laws l (via 𝓛 laws k c.1), c.0), c.1, joins 𝓛 laws l c.2)
  derived (PAR d d' h h') scope w u =
      let c = derived d scope w u.0 in
      let c' = derived d' scope w u.1 in (
        (
          and_intro _ _ (via 𝓛 laws c.2 (via 𝓛 laws h c'.1)) (via 𝓛 laws c'.2 (via 𝓛 laws h' c.1)),
          c.0,
          c'.0,
        ),
        meets 𝓛 laws c.1 c'.1,
        joins 𝓛 laws c.2 c'.2,
      )
  derived (SUB d h k) scope w u =
      let c = derived d scope w u in (c.0, via 𝓛 laws h c.1, via 𝓛 laws c.2 k)

module _ {L : Type 0} (names : Names L) (scope : ℕ → Bool) where
  pub environment_covers : Covers names (environment names scope) scope
  environment_covers k x h o = rw (h, o)

  pub environment_agrees : Agrees names (environment names scope)
  environment_agrees k x θ =
      by_cases
      (λ u. u ≡ some θ → θ ≡ names.level x)
      (scope x && is_of k (names.is_signal x))
      (λ h q. cc)
      (λ h q. let z : ◌≡◌ {A = ℕ} 0 1 = cc in absurd (omega arith))
