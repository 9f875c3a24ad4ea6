-- Quotients with signs: the nearest whole number is the rounded quotient of the magnitudes, with the sign of the quotient.
use mathlib.Core.Path.{◌≡◌, refl, sym, ap, ◌∙◌, subst}
use mathlib.Core.Bool.{false, true≢false}
use Prim.Native.Nat.{ℕ, zero, suc, ◌+◌, ◌*◌, ◌%◌, ◌<◌}
use native.Mathlib.Nat.{zero-mul, suc-mul}
use native.Mathlib.Omega.{arith}
use lib.IntN.{ℤ, pos, negsuc, neg_ℤ, nat_abs, ◌-ℤ◌, ◌*ℤ◌}
use Rattle.values.specs.Values.{is_zero, IsNearest, signed, OneIsNearest}
use Rattle.values.proofs.Signed.{apart, natural_difference, negated_size}
use Rattle.values.proofs.Rounding.{Rounds, rounds, rounds_once}

-- how far x of the sign of a is from a
positive : (m x : ℕ) → nat_abs (pos m -ℤ pos x) ≡ apart m x
positive m zero = omega arith
positive m (suc x) = natural_difference m (suc x)

negative : (m x : ℕ) → nat_abs (negsuc m -ℤ neg_ℤ (pos x)) ≡ apart (suc m) x
negative m zero = omega (arith, natural_difference 0 (suc m))
negative m (suc x) = omega (arith, natural_difference (suc x) (suc m))

offset : (a b : ℤ) (k : ℕ) → nat_abs (a -ℤ signed a b k *ℤ b) ≡ apart (nat_abs a) (k * nat_abs b)
offset (pos m) (pos n) k = positive m (k * n)
offset (pos m) (negsuc n) zero = rw (zero-mul (suc n)) (positive m 0)
offset (pos m) (negsuc n) (suc k) = positive m (suc k * suc n)
offset (negsuc m) (pos n) zero = rw (zero-mul n) (negative m 0)
offset (negsuc m) (pos n) (suc k) = negative m (suc k * n)
offset (negsuc m) (negsuc n) k = negative m (k * suc n)

-- and how far x of the other sign
above_zero : (m x : ℕ) → nat_abs (pos m -ℤ neg_ℤ (pos x)) ≡ m + x
above_zero m zero = omega arith
above_zero m (suc x) = omega arith

below_zero : (m x : ℕ) → nat_abs (negsuc m -ℤ pos x) ≡ suc m + x
below_zero m zero = omega (arith, natural_difference 0 (suc m))
below_zero m (suc x) = omega arith

far : (a b : ℤ) (k : ℕ) → nat_abs (a -ℤ neg_ℤ (signed a b (suc k)) *ℤ b) ≡ nat_abs a + suc k * nat_abs b
far (pos m) (pos n) k = above_zero m (suc k * n)
far (pos m) (negsuc n) k = above_zero m (suc k * suc n)
far (negsuc m) (pos n) k = below_zero m (suc k * n)
far (negsuc m) (negsuc n) k = below_zero m (suc k * suc n)

signed_size : (a b : ℤ) (k : ℕ) → nat_abs (signed a b k) ≡ k
signed_size (pos m) (pos n) k = refl
signed_size (pos m) (negsuc n) k = negated_size (pos k)
signed_size (negsuc m) (pos n) k = negated_size (pos k)
signed_size (negsuc m) (negsuc n) k = refl

size_above : (b : ℤ) → is_zero b ≡ false → 0 < nat_abs b
size_above (pos zero) t = absurd (true≢false t)
size_above (pos (suc n)) t = omega arith
size_above (negsuc n) t = omega arith

module _ (a b : ℤ) where
  signed_nearest : {k : ℕ} → Rounds (nat_abs a) (nat_abs b) k → IsNearest a b (signed a b k)
  signed_nearest {k} r =
      record {
        near = omega (arith, offset a b k, r.near);
        even = λ e. ap (λ (x : ℕ). x % 2) (signed_size a b k) ∙ r.even (omega (arith, offset a b k));
      }

  nearest_signed : {k : ℕ} → IsNearest a b (signed a b k) → Rounds (nat_abs a) (nat_abs b) k
  nearest_signed {k} r =
      record {
        near = omega (arith, offset a b k, r.near);
        even = λ e. ap (λ (x : ℕ). x % 2) (sym (signed_size a b k)) ∙ r.even (omega (arith, offset a b k));
      }

  -- one of the other sign is off by more than b
  not_opposite : is_zero b ≡ false → (k : ℕ) → IsNearest a b (neg_ℤ (signed a b (suc k))) → ⊥
  not_opposite t k r = omega (arith, far a b k, r.near, size_above b t, suc-mul k (nat_abs b))

has_sign : (a b q : ℤ) → is_zero b ≡ false → IsNearest a b q → q ≡ signed a b (nat_abs q)
has_sign (pos m) (pos n) (pos k) t r = refl
has_sign (pos m) (pos n) (negsuc k) t r = absurd (not_opposite (pos m) (pos n) t k r)
has_sign (pos m) (negsuc n) (pos zero) t r = refl
has_sign (pos m) (negsuc n) (pos (suc k)) t r = absurd (not_opposite (pos m) (negsuc n) t k r)
has_sign (pos m) (negsuc n) (negsuc k) t r = refl
has_sign (negsuc m) (pos n) (pos zero) t r = refl
has_sign (negsuc m) (pos n) (pos (suc k)) t r = absurd (not_opposite (negsuc m) (pos n) t k r)
has_sign (negsuc m) (pos n) (negsuc k) t r = refl
has_sign (negsuc m) (negsuc n) (pos k) t r = refl
has_sign (negsuc m) (negsuc n) (negsuc k) t r = absurd (not_opposite (negsuc m) (negsuc n) t k r)

pub one_is_nearest : OneIsNearest
one_is_nearest =
    record {
      is = λ a b t. signed_nearest a b (rounds (nat_abs a) (size_above b t));
      only = λ a b q t r.
          let above = size_above b t in
          let e = has_sign a b q t r in
          let round = nearest_signed a b (subst (IsNearest a b) e r) in
          e ∙ ap (signed a b) (rounds_once above round (rounds (nat_abs a) above));
    }
