-- Figure 1 as a test, by the signals that are present: it is 01's suspension, and the report's predicate.
use Prim.Native.Nat.{ℕ}
use mathlib.Core.Path.{◌≡◌, refl, sym, ap, ap₂, ◌∙◌}
use mathlib.Core.Bool.{Bool, true, false, not, ◌&&◌, ◌||◌, or-true, false≢true}
use mathlib.Core.List.{List}
use mathlib.Core.Logic.{◌⊎◌, inl, inr}
use lib.IntN.{ℤ}
use Rattle.prelude.proofs.Bools.{fails, and_left, and_right}
use Rattle.language.specs.Syntax.{Proc, nil, assign, let_in, if_then_else, while, sequence, emit, local, watching, when, parallel}
use Rattle.language.specs.Steps.{present, suspended}
use Rattle.language.specs.Suspension.{Suspended, WHEN-SUS₁, WHEN-SUS₂, WATCH-SUS, SEQ-SUS, PAR-SUS}

either_true : (a b : Bool) → (not a || b) ≡ true → (a ≡ false) ⊎ (b ≡ true)
either_true true b h = inr h
either_true false b h = inl refl

module _ {L : Type 0} where
  unfoldable pub waits : (ℕ → Bool) → Proc L → Bool
  waits E nil = false
  waits E (assign x e) = false
  waits E (let_in x δ e p) = false
  waits E (if_then_else e p q) = false
  waits E (while e p) = false
  waits E (sequence p q) = waits E p
  waits E (emit a) = false
  waits E (local a δ p) = false
  waits E (watching a p) = waits E p
  waits E (when a p) = not (E a) || waits E p
  waits E (parallel p q) = waits E p && waits E q

  suspended_waits : (p : Proc L) (s : List ℤ) → suspended p s ≡ waits (present s) p
  unfolding suspended waits
  suspended_waits nil s = refl
  suspended_waits (assign x e) s = refl
  suspended_waits (let_in x δ e p) s = refl
  suspended_waits (if_then_else e p q) s = refl
  suspended_waits (while e p) s = refl
  suspended_waits (sequence p q) s = suspended_waits p s
  suspended_waits (emit a) s = refl
  suspended_waits (local a δ p) s = refl
  suspended_waits (watching a p) s = suspended_waits p s
  suspended_waits (when a p) s = ap (λ b. not (present s a) || b) (suspended_waits p s)
  suspended_waits (parallel p q) s = ap₂ (λ a b. a && b) (suspended_waits p s) (suspended_waits q s)

  pub waits_of : {E : ℕ → Bool} {p : Proc L} → Suspended E p → waits E p ≡ true
  unfolding waits
  waits_of (WHEN-SUS₁ h) = rw h
  waits_of {E} (WHEN-SUS₂ {a = a} d) = rw (waits_of d) (or-true (not (E a)))
  waits_of (WATCH-SUS d) = waits_of d
  waits_of (SEQ-SUS d) = waits_of d
  waits_of (PAR-SUS d d') = rw (waits_of d, waits_of d') refl

  waits_is : (E : ℕ → Bool) (p : Proc L) → waits E p ≡ true → Suspended E p
  unfolding waits
  waits_is E nil h = absurd (false≢true h)
  waits_is E (assign x e) h = absurd (false≢true h)
  waits_is E (let_in x δ e p) h = absurd (false≢true h)
  waits_is E (if_then_else e p q) h = absurd (false≢true h)
  waits_is E (while e p) h = absurd (false≢true h)
  waits_is E (sequence p q) h = SEQ-SUS (waits_is E p h)
  waits_is E (emit a) h = absurd (false≢true h)
  waits_is E (local a δ p) h = absurd (false≢true h)
  waits_is E (watching a p) h = WATCH-SUS (waits_is E p h)
  waits_is E (when a p) h = go (either_true (E a) (waits E p) h) (waits_is E p)
    where
      go : (E a ≡ false) ⊎ (waits E p ≡ true) → (waits E p ≡ true → Suspended E p) → Suspended E (when a p)
      go (inl e) ih = WHEN-SUS₁ e
      go (inr e) ih = WHEN-SUS₂ (ih e)
  waits_is E (parallel p q) h =
      PAR-SUS
      (waits_is E p (and_left (waits E p) (waits E q) h))
      (waits_is E q (and_right (waits E p) (waits E q) h))

  pub waits_not : (E : ℕ → Bool) (p : Proc L) → (Suspended E p → ⊥) → waits E p ≡ false
  waits_not E p n = fails (waits E p) (λ h. n (waits_is E p h))

  pub suspended_of : (s : List ℤ) {p : Proc L} → Suspended (present s) p → suspended p s ≡ true
  suspended_of s {p} d = suspended_waits p s ∙ waits_of d

  pub suspended_is : (p : Proc L) (s : List ℤ) → suspended p s ≡ true → Suspended (present s) p
  suspended_is p s h = waits_is (present s) p (sym (suspended_waits p s) ∙ h)
