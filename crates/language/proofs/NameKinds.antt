-- Names by kind: laws of `same` and `put`.
use Prim.Native.Nat.{ℕ}
use mathlib.Core.Path.{◌≡◌, refl, sym, ap, ◌∙◌}
use mathlib.Core.Bool.{Bool, true, false, not, true≢false, false≢true}
use mathlib.Core.Logic.{◌⊎◌, inl, inr}
use borrow.Author.Tests.{eq-eqb, eqb-true}
use Rattle.prelude.proofs.Bools.{fails, by_cases}
use Rattle.language.specs.NameKinds.{Kind, var, sig, same, put, is_of}

pub same_kind : (k : Kind) (x : ℕ) (j : Kind) (y : ℕ) → same k x j y ≡ true → k ≡ j
unfolding same
same_kind var x var y h = refl
same_kind var x sig y h = absurd (false≢true h)
same_kind sig x var y h = absurd (false≢true h)
same_kind sig x sig y h = refl

pub same_number : (k : Kind) (x : ℕ) (j : Kind) (y : ℕ) → same k x j y ≡ true → x ≡ y
unfolding same
same_number var x var y h = eqb-true x y h
same_number var x sig y h = absurd (false≢true h)
same_number sig x var y h = absurd (false≢true h)
same_number sig x sig y h = eqb-true x y h

pub same_self : (k : Kind) (x : ℕ) → same k x k x ≡ true
unfolding same
same_self var x = eq-eqb x x refl
same_self sig x = eq-eqb x x refl

-- a name of a kind under which another is
pub same_at : (k : Kind) (x : ℕ) (j : Kind) (y z : ℕ) → same k x j y ≡ true → same k z j z ≡ true
same_at k x j y z h = rw (← same_kind k x j y h) (same_self k z)

pub other : (k : Kind) (x : ℕ) (j : Kind) (y : ℕ) → (k ≡ j → x ≡ y → ⊥) → same k x j y ≡ false
other k x j y n = fails (same k x j y) (λ h. n (same_kind k x j y h) (same_number k x j y h))

pub put_true :
    (f : Kind → ℕ → Bool) (k : Kind) (x : ℕ) (j : Kind) (y : ℕ) → f j y ≡ true → put f k x true j y ≡ true
put_true f k x j y h = by_cases (λ z. z ≡ true) (same k x j y) (λ e. refl) (λ e. h)

-- a name has one kind
pub one_kind : (k j : Kind) (b : Bool) → is_of k b ≡ true → is_of j b ≡ true → k ≡ j
one_kind var var b h g = refl
one_kind var sig b h g = absurd (true≢false (sym h ∙ ap not g))
one_kind sig var b h g = absurd (true≢false (sym g ∙ ap not h))
one_kind sig sig b h g = refl

pub either : (b : Bool) → (b ≡ true) ⊎ (b ≡ false)
either true = inl refl
either false = inr refl
