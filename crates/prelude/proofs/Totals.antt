-- Totals over the numbers below n, and one by places turned into one by values.
use mathlib.Core.Path.{◌≡◌, refl, sym, ap, ap₂, ◌∙◌}
use mathlib.Core.Bool.{Bool, true, false, cond}
use mathlib.Core.Logic.{⊎_elim}
use Prim.Native.Nat.{ℕ, zero, suc, ◌+◌, ◌*◌, ◌≤◌, ◌<◌}
use native.Mathlib.Nat.{le_of_suc-le-suc, le_antisymm, eq-or-lt_of_le, suc-mul, add-mul, zero-mul, zero-add, add-zero, add-le-add}
use native.Mathlib.Decide.{dec_lt, ℕ_discrete}
use native.Mathlib.Omega.{arith}
use lib.Dec.{eqb, ltb}
use borrow.Author.Tests.{lt-ltb, le-ltb, eq-eqb, ne_eqb}
use Rattle.prelude.specs.Search.{count, total}

pub total_none : (f : ℕ → ℕ) → total f 0 ≡ 0
unfolding total
total_none f = refl

pub total_more : (f : ℕ → ℕ) (n : ℕ) → total f (suc n) ≡ total f n + f n
unfolding total
total_more f n = refl

pub total_same : (f g : ℕ → ℕ) (n : ℕ) → ((k : ℕ) → k < n → f k ≡ g k) → total f n ≡ total g n
unfolding total
total_same f g zero e = refl
total_same f g (suc n) e = ap₂ (λ a b. a + b) (total_same f g n (λ k h. e k (omega arith))) (e n (omega arith))

pub total_below : (f g : ℕ → ℕ) (n : ℕ) → ((k : ℕ) → k < n → f k ≤ g k) → total f n ≤ total g n
unfolding total
total_below f g zero e = omega arith
total_below f g (suc n) e = add-le-add (total_below f g n (λ k h. e k (omega arith))) (e n (omega arith))

pub total_both : (f g : ℕ → ℕ) (n : ℕ) → total (λ k. f k + g k) n ≡ total f n + total g n
unfolding total
total_both f g zero = refl
total_both f g (suc n) = omega (arith, total_both f g n)

pub total_nothing : (f : ℕ → ℕ) (n : ℕ) → ((k : ℕ) → k < n → f k ≡ 0) → total f n ≡ 0
unfolding total
total_nothing f zero e = refl
total_nothing f (suc n) e = omega (arith, total_nothing f n (λ k h. e k (omega arith)), e n (omega arith))

-- a total holds each of its terms
pub total_holds : (f : ℕ → ℕ) (n k : ℕ) → k < n → f k ≤ total f n
unfolding total
total_holds f zero k h = absurd (omega arith)
total_holds f (suc n) k h =
    ⊎_elim (λ e. rw e (omega arith)) (λ l. omega (arith, total_holds f n k l)) (eq-or-lt_of_le (le_of_suc-le-suc h))

pub total_found : (f : ℕ → ℕ) (n : ℕ) → 0 < total f n → (k : ℕ) × (k < n) × (0 < f k)
unfolding total
total_found f zero h = absurd (omega arith)
total_found f (suc n) h =
    elim (dec_lt 0 (f n)) [
      | yes l ↦ (n, omega arith, l)
      | no l ↦ let r = total_found f n (omega arith) in (r.0, omega (arith, r.1), r.2)
    ]

-- a total of 1 has one term
pub total_one : (f : ℕ → ℕ) (n i k : ℕ) → total f n ≡ 1 → i < n → k < n → 0 < f i → 0 < f k → i ≡ k
unfolding total
total_one f zero i k e hi hk pi pk = absurd (omega arith)
total_one f (suc n) i k e hi hk pi pk =
    ⊎_elim
    (λ a.
    ⊎_elim (λ b. a ∙ sym b) (λ b. absurd (omega (arith, e, pk, rw a at pi, total_holds f n k b)))
    (eq-or-lt_of_le (le_of_suc-le-suc hk)))
    (λ a.
    ⊎_elim (λ b. absurd (omega (arith, e, pi, rw b at pk, total_holds f n i a)))
    (λ b. total_one f n i k (omega (arith, e, pi, total_holds f n i a)) a b pi pk)
    (eq-or-lt_of_le (le_of_suc-le-suc hk)))
    (eq-or-lt_of_le (le_of_suc-le-suc hi))

pub total_longer : (f : ℕ → ℕ) (m n : ℕ) → m ≤ n → total f m ≤ total f n
unfolding total
total_longer f m zero h = rw (le_antisymm h (omega arith)) (omega arith)
total_longer f m (suc n) h =
    ⊎_elim (λ e. rw e (omega arith)) (λ l. omega (arith, total_longer f m n (le_of_suc-le-suc l))) (eq-or-lt_of_le h)

-- one place
total_at : (w : ℕ → ℕ) (u n : ℕ) → total (λ q. cond (eqb u q) (w q) 0) n ≡ cond (ltb u n) (w u) 0
unfolding total
total_at w u zero = sym (ap (λ b. cond b (w u) 0) (le-ltb u 0 (omega arith)))
total_at w u (suc n) =
    elim (dec_lt u n) [
      | yes l ↦
          rw (total_at w u n, lt-ltb u n l, lt-ltb u (suc n) (omega arith), ne_eqb u n (λ e. omega arith)) (omega arith)
      | no l ↦
          elim (ℕ_discrete u n) [
            | yes e ↦
                rw (total_at w u n, le-ltb u n (omega arith), lt-ltb u (suc n) (omega arith), eq-eqb u n e)
                (zero-add (w n) ∙ ap w (sym e))
            | no ne ↦ rw (total_at w u n, le-ltb u n (omega arith), le-ltb u (suc n) (omega arith), ne_eqb u n ne) refl
          ]
    ]

-- what the values at the places below m weigh, by how often each value below n comes
pub total_by_value :
    (u w : ℕ → ℕ) (m n : ℕ) →
    total (λ i. cond (ltb (u i) n) (w (u i)) 0) m ≡ total (λ q. count (λ i. eqb (u i) q) m * w q) n
unfolding total count
total_by_value u w zero n = sym (total_nothing (λ q. 0 * w q) n (λ q h. zero-mul (w q)))
total_by_value u w (suc m) n =
    let times : ℕ → ℕ = λ q. count (λ i. eqb (u i) q) m in
    ap₂ (λ a b. a + b) (total_by_value u w m n) (sym (total_at w (u m) n))
    ∙ sym (total_both (λ q. times q * w q) (λ q. cond (eqb (u m) q) (w q) 0) n)
    ∙ total_same _ _ n (λ q h. once_more (eqb (u m) q) (times q) (w q))
  where
    once_more : (b : Bool) (c v : ℕ) → c * v + cond b v 0 ≡ cond b (suc c) c * v
    once_more true c v = sym (suc-mul c v)
    once_more false c v = add-zero (c * v)

-- sums of sums, each value weighed once
pub total_exchanged :
    (g : ℕ → ℕ → ℕ) (w : ℕ → ℕ) (m n : ℕ) →
    total (λ p. total (λ q. g p q * w q) n) m ≡ total (λ q. total (λ p. g p q) m * w q) n
unfolding total
total_exchanged g w zero n = sym (total_nothing (λ q. 0 * w q) n (λ q h. zero-mul (w q)))
total_exchanged g w (suc m) n =
    ap (λ a. a + total (λ q. g m q * w q) n) (total_exchanged g w m n)
    ∙ sym (total_both (λ q. total (λ p. g p q) m * w q) (λ q. g m q * w q) n)
    ∙ total_same _ _ n (λ q h. sym (add-mul (total (λ p. g p q) m) (g m q) (w q)))
