-- How often a test holds: what one number more adds; that it is one number, and which; and a table that counts how
-- often a function has each value.
use mathlib.Core.Path.{◌≡◌, refl, sym, ap, ◌∙◌}
use mathlib.Core.Bool.{Bool, true, false, cond, true≢false}
use mathlib.Core.Logic.{⊎_elim}
use mathlib.Core.List.{List}
use Prim.Native.Nat.{ℕ, zero, suc, ◌+◌, ◌≤◌, ◌<◌, zero-le}
use native.Mathlib.Nat.{add-zero, le_of_suc-le-suc, not-suc-le-zero, eq-or-lt_of_le, le_antisymm}
use native.Mathlib.Numerals.{add-one}
use native.Mathlib.Omega.{arith}
use native.Mathlib.Decide.{ℕ_discrete}
use lib.Dec.{eqb}
use lib.ListN.{get_or, length, set}
use lib.Seq.{get_or-set_same, get_or-set_other}
use borrow.Author.Tests.{eq-eqb, ne_eqb}
use Rattle.prelude.proofs.Bools.{by_cases}
use Rattle.prelude.specs.Search.{count}

module _ (f : ℕ → Bool) where
  pub count_within : (n : ℕ) → count f n ≤ n
  unfolding count
  count_within zero = zero-le
  count_within (suc n) =
      by_cases (λ k. k ≤ suc n) (f n) (λ e. omega (arith, count_within n)) (λ e. omega (arith, count_within n))

  pub count_hit : (n : ℕ) → f n ≡ true → count f (n + 1) ≡ count f n + 1
  unfolding count
  count_hit n e = rw (add-one n, e, add-one (count f n))

  pub count_miss : (n : ℕ) → f n ≡ false → count f (n + 1) ≡ count f n
  unfolding count
  count_miss n e = rw (add-one, e)

  -- one number more, whether the test holds there or not
  pub count_more : (n : ℕ) → count f (n + 1) ≡ count f n + cond (f n) 1 0
  count_more n =
      by_cases (λ m. count f (n + 1) ≡ count f n + m) (f n) (count_hit n) (λ e. count_miss n e ∙ sym (add-zero (count f n)))

  pub count_every : (n : ℕ) → ((k : ℕ) → f k ≡ true) → count f n ≡ n
  unfolding count
  count_every zero h = refl
  count_every (suc n) h = rw (h n, count_every n h)

  pub count_found : (n : ℕ) → 0 < count f n → (i : ℕ) × (i < n) × (f i ≡ true)
  unfolding count
  count_found zero h = absurd (not-suc-le-zero h)
  count_found (suc n) h =
      by_cases
      (λ m. 0 < m → (i : ℕ) × (i < suc n) × (f i ≡ true))
      (f n)
      (λ e l. (n, omega arith, e))
      (λ e l. let r = count_found n l in (r.0, omega (arith, r.1), r.2))
      h

  pub count-some : (n i : ℕ) → i < n → f i ≡ true → 0 < count f n
  unfolding count
  count-some zero i h e = absurd (not-suc-le-zero h)
  count-some (suc n) i h e =
      by_cases (λ m. 0 < m) (f n) (λ t. omega arith)
      (λ t. ⊎_elim (λ q. absurd (true≢false (sym e ∙ rw q t))) (λ l. count-some n i l e) (eq-or-lt_of_le (le_of_suc-le-suc h)))

  pub count_one : (n i k : ℕ) → count f n ≡ 1 → i < n → k < n → f i ≡ true → f k ≡ true → i ≡ k
  unfolding count
  count_one zero i k c hi hk ei ek = absurd (not-suc-le-zero hi)
  count_one (suc n) i k c hi hk ei ek =
      by_cases (λ m. m ≡ 1 → i ≡ k) (f n)
      (λ t q. last i hi ei q ∙ sym (last k hk ek q))
      (λ t q. count_one n i k q (before i hi ei t) (before k hk ek t) ei ek)
      c
    where
      last : (j : ℕ) → j < suc n → f j ≡ true → suc (count f n) ≡ 1 → j ≡ n
      last j h e q =
          ⊎_elim (λ r. r) (λ l. absurd (omega (arith, q, count-some n j l e))) (eq-or-lt_of_le (le_of_suc-le-suc h))

      before : (j : ℕ) → j < suc n → f j ≡ true → f n ≡ false → j < n
      before j h e t =
          ⊎_elim (λ r. absurd (true≢false (sym e ∙ rw r t))) (λ l. l) (eq-or-lt_of_le (le_of_suc-le-suc h))

  pub count_none : (n : ℕ) → ((k : ℕ) → k < n → f k ≡ false) → count f n ≡ 0
  unfolding count
  count_none zero none = refl
  count_none (suc n) none = rw (none n (omega arith)) (count_none n (λ k h. none k (omega arith)))

  -- a longer search finds no less
  pub count_longer : (m n : ℕ) → m ≤ n → count f m ≤ count f n
  unfolding count
  count_longer m zero h = rw (le_antisymm h (omega arith)) (omega arith)
  count_longer m (suc n) h =
      ⊎_elim (λ e. rw e (omega arith))
      (λ l.
      by_cases (λ c. count f m ≤ c) (f n) (λ t. omega (arith, count_longer m n (le_of_suc-le-suc l)))
      (λ t. count_longer m n (le_of_suc-le-suc l)))
      (eq-or-lt_of_le h)

-- a table that has for each v below m how often u is v below i, upon what it had before
abbrev pub Tally : (ℕ → ℕ) → (ℕ → ℕ) → ℕ → ℕ → List ℕ → Type 0
Tally before u m i t = (v : ℕ) → v < m → get_or t v 0 ≡ before v + count (λ k. eqb (u k) v) i

module _ (before u : ℕ → ℕ) (m : ℕ) where
  -- a loop that fills it: one value more below m, one that is not
  pub tally_hit :
      (t : List ℕ) (i v : ℕ) → length t ≡ m → v < m → v ≡ u i → Tally before u m i t →
      Tally before u m (i + 1) (set t v (get_or t v 0 + 1))
  tally_hit t i v n l e keeps w h =
      elim (ℕ_discrete w v) [
        | yes same ↦
            rw same
            (get_or-set_same t v _ 0 (omega arith)
            ∙ omega (arith, keeps v l, count_hit (λ k. eqb (u k) v) i (eq-eqb _ _ (sym e))))
        | no other ↦
            get_or-set_other t v w _ 0 other ∙ keeps w h
            ∙ sym (ap (λ n. before w + n) (count_miss (λ k. eqb (u k) w) i (ne_eqb _ _ (λ same. other (sym same ∙ sym e)))))
      ]

  pub tally_miss : (t : List ℕ) (i : ℕ) → m ≤ u i → Tally before u m i t → Tally before u m (i + 1) t
  tally_miss t i l keeps w h =
      keeps w h ∙ sym (ap (λ n. before w + n) (count_miss (λ k. eqb (u k) w) i (ne_eqb (u i) w (λ same. omega arith))))
