-- Values of 32 bits as the machine reads them back, how far whole numbers are from 0 and from each other, and equal values.
use mathlib.Core.Path.{◌≡◌, refl, ap}
use mathlib.Core.Bool.{true, false≢true}
use Prim.Native.Nat.{ℕ, zero, suc, ◌+◌, ◌-◌}
use native.Mathlib.Omega.{arith}
use lib.Dec.{ltb}
use lib.IntN.{ℤ, pos, negsuc, neg_ℤ, nat_abs, sub_ℕ}
use mir.Syntax.{Width}
use mir.Val.{to_z, of_z}
use borrow.Author.Tests.{ltb-true, ltb-false, eqb-true}
use Rattle.prelude.proofs.Bools.{by_cases}
use Rattle.values.specs.Values.{same_value}

-- a signed local holds bits: what is read back from them
abbrev pub read_back : Width → ℤ → ℤ
read_back w z = to_z w (of_z w z)

-- how far two natural numbers are apart: the size of their difference
abbrev pub apart : ℕ → ℕ → ℕ
apart a b = (a - b) + (b - a)

pub natural_difference : (a b : ℕ) → nat_abs (sub_ℕ a b) ≡ apart a b
natural_difference a b =
    by_cases (λ (z : ℤ). nat_abs z ≡ apart a b) (ltb a b)
    (λ t. omega (arith, ltb-true a b t))
    (λ t. omega (arith, ltb-false a b t))

pub negated_size : (z : ℤ) → nat_abs (neg_ℤ z) ≡ nat_abs z
negated_size (pos zero) = refl
negated_size (pos (suc n)) = refl
negated_size (negsuc n) = refl

pub same_is : (a b : ℤ) → same_value a b ≡ true → a ≡ b
same_is (pos m) (pos n) e = ap pos (eqb-true m n e)
same_is (pos m) (negsuc n) e = absurd (false≢true e)
same_is (negsuc m) (pos n) e = absurd (false≢true e)
same_is (negsuc m) (negsuc n) e = ap negsuc (eqb-true m n e)
