-- Quotients of natural numbers to the nearest whole number, a tie to the even one: `rounded` gives one, and there is no other.
use mathlib.Core.Path.{◌≡◌, subst}
use Prim.Native.Nat.{ℕ, suc, ◌+◌, ◌*◌, ◌/◌, ◌%◌, ◌≤◌, ◌<◌}
use native.Mathlib.Nat.{suc-mul, mul-le-mul_right, div-add-mod', mod-lt}
use native.Mathlib.Omega.{arith}
use native.Mathlib.Decide.{ℕ_discrete}
use lib.Dec.{eqb, ltb}
use borrow.Author.Tests.{ltb-true, ltb-false, eqb-true, eqb-false}
use Rattle.prelude.proofs.Bools.{by_cases}
use Rattle.values.specs.Values.{rounded}
use Rattle.values.proofs.Signed.{apart}

-- `IsNearest`, of natural numbers
pub record Rounds (m n k : ℕ) : Type 0 where
  pub near : 2 * apart m (k * n) ≤ n
  pub even : 2 * apart m (k * n) ≡ n → k % 2 ≡ 0

module _ (m n : ℕ) where
  abbrev cut : ℕ
  cut = m / n

  abbrev twice : ℕ
  twice = 2 * (m % n)

  -- It is one more if more than half of n is left, or half and `cut` is odd.
  by_remainder :
      (P : ℕ → Type 0) → (n < twice + cut % 2 → P (suc cut)) → (twice + cut % 2 ≤ n → P cut) → P (rounded m n)
  unfolding rounded
  by_remainder P up down =
      by_cases P (ltb twice n) (λ t. down (omega (arith, ltb-true twice n t))) (λ s.
      by_cases P (ltb n twice) (λ t. up (omega (arith, ltb-true n twice t))) (λ t.
      by_cases P (eqb (cut % 2) 0)
      (λ u. down (omega (arith, ltb-false n twice t, eqb-true (cut % 2) 0 u)))
      (λ u. up (omega (arith, ltb-false twice n s, eqb-false (cut % 2) 0 u)))))

module _ (m : ℕ) {n : ℕ} (above : 0 < n) where
  next_apart : apart m (suc (m / n) * n) + m % n ≡ n
  next_apart = omega (arith, div-add-mod' m n, mod-lt m above, suc-mul (m / n) n)

  cut_apart : apart m (m / n * n) ≡ m % n
  cut_apart = omega (arith, div-add-mod' m n)

  pub rounds : Rounds m n (rounded m n)
  rounds =
      by_remainder m n (Rounds m n)
      (λ h. record { near = omega (arith, next_apart); even = λ e. omega (arith, next_apart) })
      (λ h. record { near = omega (arith, cut_apart); even = λ e. omega (arith, cut_apart) })

-- two that are one apart are both off by half of n, and one of them is odd
module _ {m n : ℕ} (above : 0 < n) where
  no_next : {k : ℕ} → Rounds m n k → Rounds m n (suc k) → ⊥
  no_next {k} a b =
      let off : 2 * apart m (k * n) ≡ n = omega (arith, suc-mul k n, a.near, b.near) in
      let off_next : 2 * apart m (suc k * n) ≡ n = omega (arith, suc-mul k n, a.near, b.near) in
      omega (arith, a.even off, b.even off_next)

  no_further : {k l : ℕ} → Rounds m n k → Rounds m n l → suc k < l → ⊥
  no_further {k} {l} a b h =
      omega (arith, suc-mul k n, suc-mul (suc k) n, mul-le-mul_right n h, a.near, b.near)

  not_below : {k l : ℕ} → Rounds m n k → Rounds m n l → k < l → ⊥
  not_below {k} {l} a b h =
      elim (ℕ_discrete l (suc k)) [
        | yes e ↦ no_next a (subst (Rounds m n) e b)
        | no e ↦ no_further a b (omega arith)
      ]

  pub rounds_once : {k l : ℕ} → Rounds m n k → Rounds m n l → k ≡ l
  rounds_once {k} {l} a b = omega (arith, not_below a b, not_below b a)
