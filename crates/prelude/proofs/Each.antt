-- Numbers below n, one by one: for a table of n rows.
use mathlib.Core.Path.{◌≡◌, refl, sym, subst}
use mathlib.Core.Logic.{⊎_elim}
use Prim.Native.Nat.{ℕ, zero, suc, ◌≤◌, ◌<◌}
use native.Mathlib.Decide.{dec_lt}
use native.Mathlib.Nat.{le_of_suc-le-suc, not-suc-le-zero, eq-or-lt_of_le}
use native.Mathlib.Omega.{arith}

-- P 0, .., P (n - 1), as pairs nested to the left
abbrev Each : (ℕ → Type 0) → ℕ → Type 0
Each P zero = Unit {0}
Each P (suc n) = Each P n × P n

each : (P : ℕ → Type 0) (n : ℕ) → Each P n → (k : ℕ) → k < n → P k
each P zero t k h = absurd (not-suc-le-zero h)
each P (suc n) t k h =
    ⊎_elim (λ e. subst P (sym e) t.1) (λ l. each P n t.0 k l) (eq-or-lt_of_le (le_of_suc-le-suc h))

-- the same as a list
infixr 5 ◌then◌
pub data Rows : (ℕ → Type 0) → ℕ → Type 1 where
  done : {P : ℕ → Type 0} → Rows P zero
  ◌then◌ : {P : ℕ → Type 0} {n : ℕ} → P zero → Rows (λ k. P (suc k)) n → Rows P (suc n)

pub row_of_lem : {P : ℕ → Type 0} {n : ℕ} → Rows P n → (k : ℕ) → k < n → P k
row_of_lem done k h = absurd (not-suc-le-zero h)
row_of_lem (p then ps) zero h = p
row_of_lem (p then ps) (suc k) h = row_of_lem ps k (le_of_suc-le-suc h)

-- a number that is none of the first n
pub past_all : (n k : ℕ) → Each (λ m. k ≡ m → ⊥) n → n ≤ k
past_all n k others =
    elim (dec_lt k n) [
      | yes h ↦ absurd (each (λ m. k ≡ m → ⊥) n others k h refl)
      | no h ↦ omega arith
    ]
