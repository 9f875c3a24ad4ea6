-- The numbers of the pairs: they count the pairs before, each pair has its own, and there are n(n - 1)/2 of them.
use mathlib.Core.Path.{◌≡◌, sym, ap, ◌∙◌}
use mathlib.Core.Logic.{◌⊎◌, inl, inr}
use Prim.Native.Nat.{ℕ, zero, suc, ◌+◌, ◌*◌, ◌-◌, ◌≤◌, ◌<◌}
use native.Mathlib.Nat.{mul-suc, suc-mul, zero-mul, le_refl, mul-le-mul}
use native.Mathlib.Decide.{dec_lt}
use native.Mathlib.Omega.{arith}
use Rattle.prelude.specs.Search.{total, lesser}
use Rattle.prelude.proofs.Searches.{lesser_left, lesser_right}
use Rattle.prelude.proofs.Totals.{total_none, total_more, total_longer}
use Rattle.book.specs.LevelBook.{most_levels}
use Rattle.pairs.specs.Sweeping.{level_pairs, pair_number}

-- the number of the pairs in which a level is the smaller one
abbrev row : ℕ → ℕ → ℕ
row n a = n - suc a

-- those of the levels below i, twice, with what the levels from i on leave
rows_before : (n i : ℕ) → i ≤ n → 2 * total (row n) i + (n - i) * (n - suc i) ≡ n * (n - 1)
rows_before n zero h = omega (arith, total_none (row n), ap (λ k. k * (n - 1)) {x = n - 0} {y = n} (omega arith))
rows_before n (suc i) h =
    let m : ℕ = n - suc i in
    let this : (n - i) * m ≡ suc m * m = ap (λ k. k * m) {x = n - i} {y = suc m} (omega arith) in
    let next : m * (n - suc (suc i)) ≡ m * (m - 1) = ap (λ k. m * k) {x = n - suc (suc i)} {y = m - 1} (omega arith) in
    omega (arith, rows_before n i (omega arith), this, next, total_more (row n) i, suc-mul m m, one_less m)
  where
    one_less : (m : ℕ) → m * (m - 1) + m ≡ m * m
    one_less zero = omega arith
    one_less (suc q) = ap (λ k. suc q * k + suc q) {x = suc q - 1} {y = q} (omega arith) ∙ sym (mul-suc (suc q) q)

module _ (n : ℕ) where
  -- all pairs
  pub all_pairs : total (row n) n ≡ level_pairs n
  all_pairs =
      let e : (n - n) * (n - suc n) ≡ 0 = ap (λ k. k * (n - suc n)) {x = n - n} {y = 0} (omega arith) ∙ zero-mul _ in
      omega (arith, rows_before n n (le_refl n), e)

  pub first_number : pair_number n 0 1 ≡ 0
  unfolding pair_number
  first_number = omega (arith, total_none (row n))

  -- the next pair of a level has the next number
  pub next_number : (i j : ℕ) → i < j → pair_number n i (j + 1) ≡ pair_number n i j + 1
  unfolding pair_number
  next_number i j h = omega arith

  -- behind the last pair of a level comes the first of the next level
  pub next_row : (i : ℕ) → pair_number n i n ≡ pair_number n (i + 1) (i + 1 + 1)
  unfolding pair_number
  next_row i = omega (arith, total_more (row n) i, ap (total (row n)) {x = suc i} {y = i + 1} (omega arith))

  pub level_end : (i j : ℕ) → i < j → j < n → pair_number n i j ≤ pair_number n (i + 1) (i + 1 + 1)
  unfolding pair_number
  level_end i j h l = omega (arith, next_row i)

  pub last_row : pair_number n n (n + 1) ≡ level_pairs n
  unfolding pair_number
  last_row = omega (arith, all_pairs)

  -- no level's pairs begin past the last pair
  pub row_within : (i : ℕ) → i ≤ n → pair_number n i (i + 1) ≤ level_pairs n
  unfolding pair_number
  row_within i h = omega (arith, all_pairs, total_longer (row n) i n h)

  pub earlier_row : (a b i j : ℕ) → a < b → b < n → a < i → pair_number n a b < pair_number n i j
  unfolding pair_number
  earlier_row a b i j h l u = omega (arith, total_more (row n) a, total_longer (row n) (suc a) i u)

  pub earlier_here : (i b j : ℕ) → i < b → b < j → pair_number n i b < pair_number n i j
  unfolding pair_number
  earlier_here i b j h l = omega arith

  pub number_within : (i j : ℕ) → i < j → j < n → pair_number n i j < level_pairs n
  number_within i j h l = omega (arith, earlier_row i j n (n + 1) h l (omega arith), last_row)

  -- there are no more pairs than places
  pub pairs_fit : n ≤ most_levels → level_pairs n ≤ most_levels * most_levels
  pairs_fit few =
      let fewer : n - 1 ≤ most_levels = omega arith in
      omega (arith, mul-le-mul few fewer)

  -- a number is that of one pair
  pub one_number :
      (a b i j : ℕ) → a < b → b < n → i < j → j < n → pair_number n a b ≡ pair_number n i j → (a ≡ i) × (b ≡ j)
  unfolding pair_number
  one_number a b i j h l u v e =
      elim (dec_lt a i) [
        | yes p ↦ absurd (omega (arith, e, earlier_row a b i j h l p))
        | no p ↦
            elim (dec_lt i a) [
              | yes q ↦ absurd (omega (arith, e, earlier_row i j a b u v q))
              | no q ↦
                  let x : a ≡ i = omega arith in
                  (x, omega (arith, e, x, ap (total (row n)) x))
            ]
      ]

-- t is the lesser of k and the number p of pairs
module _ (k p t : ℕ) (e : t ≡ lesser k p) where
  pub before_both : (t ≤ k) × ((t ≤ p) × ((k ≤ t) ⊎ (p ≤ t)))
  before_both =
      elim (dec_lt p k) [
        | yes l ↦ let same = e ∙ lesser_right k p (omega arith) in (omega arith, (omega arith, inr (omega arith)))
        | no l ↦ let same = e ∙ lesser_left k p (omega arith) in (omega arith, (omega arith, inl (omega arith)))
      ]

  pub before_here : t < k → t ≡ p
  before_here h =
      elim (dec_lt p k) [
        | yes l ↦ e ∙ lesser_right k p (omega arith)
        | no l ↦ absurd (omega (arith, e ∙ lesser_left k p (omega arith)))
      ]

  pub before_next : t < k → t + 1 ≡ lesser k (p + 1)
  before_next h = let same = before_here h in omega (arith, same, lesser_right k (p + 1) (omega (arith, same)))

  -- where k of them are taken up, there are no fewer when there are more pairs
  pub before_more : k ≤ t → (q : ℕ) → p ≤ q → t ≡ lesser k q
  before_more h q l =
      elim (dec_lt p k) [
        | yes u ↦ absurd (omega (arith, e ∙ lesser_right k p (omega arith)))
        | no u ↦ e ∙ lesser_left k p (omega arith) ∙ sym (lesser_left k q (omega arith))
      ]
