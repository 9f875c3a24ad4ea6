-- 01, 'Script file', last paragraph: values, and the results of operators.
use Rattle.std.specs.Prelude.{◌≡◌, Bool, true, false, cond, not, ℕ, zero, suc, ◌*◌, ◌/◌, ◌%◌, ◌≤◌, eqb, ltb, ℤ, pos, negsuc, neg_ℤ, nat_abs, ◌+ℤ◌, ◌-ℤ◌, ◌*ℤ◌}
use Rattle.std.specs.Int.Signed.{lt_z}

-- 'Values are signed, 32 bits': −2147483648 and 2147483647
abbrev pub least_value : ℤ
least_value = negsuc 2147483647

abbrev pub greatest_value : ℤ
greatest_value = pos 2147483647

-- 'Results are exact, then clamped'
unfoldable pub clamped : ℤ → ℤ
clamped z = cond (lt_z z least_value) least_value (cond (lt_z greatest_value z) greatest_value z)

abbrev pub sum : ℤ → ℤ → ℤ
sum a b = clamped (a +ℤ b)

abbrev pub difference : ℤ → ℤ → ℤ
difference a b = clamped (a -ℤ b)

abbrev pub product : ℤ → ℤ → ℤ
product a b = clamped (a *ℤ b)

abbrev pub is_zero : ℤ → Bool
is_zero (pos zero) = true
is_zero (pos (suc n)) = false
is_zero (negsuc n) = false

-- 02 (b), 'the nearest whole number, a tie to the even one': q and a / b are at most a half apart, and q is even where they
-- are a half apart; both sides times 2 b, so that all numbers are whole
pub record IsNearest (a b q : ℤ) : Type 0 where
  pub near : 2 * nat_abs (a -ℤ q *ℤ b) ≤ nat_abs b
  pub even : 2 * nat_abs (a -ℤ q *ℤ b) ≡ nat_abs b → nat_abs q % 2 ≡ 0

-- Of natural numbers it is m / n, cut, or one more: the nearer of the two, and in a tie the even one.
unfoldable pub rounded : ℕ → ℕ → ℕ
rounded m n =
    cond (ltb (2 * (m % n)) n) (m / n)
    (cond (ltb n (2 * (m % n))) (suc (m / n))
    (cond (eqb (m / n % 2) 0) (m / n) (suc (m / n))))

-- a natural number with the sign of a / b
abbrev pub signed : ℤ → ℤ → ℕ → ℤ
signed (pos m) (pos n) k = pos k
signed (pos m) (negsuc n) k = neg_ℤ (pos k)
signed (negsuc m) (pos n) k = neg_ℤ (pos k)
signed (negsuc m) (negsuc n) k = pos k

abbrev pub nearest : ℤ → ℤ → ℤ
nearest a b = signed a b (rounded (nat_abs a) (nat_abs b))

-- If b is not 0, there is one number that is nearest, and it is this one.
pub record OneIsNearest : Type 0 where
  pub is : (a b : ℤ) → is_zero b ≡ false → IsNearest a b (nearest a b)
  pub only : (a b q : ℤ) → is_zero b ≡ false → IsNearest a b q → q ≡ nearest a b

-- '5 / 0 remains 0, and clamping comes after'
unfoldable pub quotient : ℤ → ℤ → ℤ
quotient a b = cond (is_zero b) (pos 0) (clamped (nearest a b))

-- 'A test holds if nonzero'
abbrev pub holds : ℤ → Bool
holds z = not (is_zero z)

-- 'Less, equal and not give 1 or 0'
abbrev pub truth : Bool → ℤ
truth b = cond b (pos 1) (pos 0)

abbrev pub same_value : ℤ → ℤ → Bool
same_value (pos m) (pos n) = eqb m n
same_value (pos m) (negsuc n) = false
same_value (negsuc m) (pos n) = false
same_value (negsuc m) (negsuc n) = eqb m n

abbrev pub less_than : ℤ → ℤ → ℤ
less_than a b = truth (lt_z a b)

abbrev pub equal_to : ℤ → ℤ → ℤ
equal_to a b = truth (same_value a b)

abbrev pub negation : ℤ → ℤ
negation a = truth (is_zero a)
