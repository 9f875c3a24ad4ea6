-- Sets as numbers: what two sets share and have together, and the set that a test makes.
use mathlib.Core.Path.{◌≡◌, refl, sym, ap, ◌∙◌, subst}
use mathlib.Core.Bool.{Bool, true, false, cond, not, ◌&&◌, ◌||◌, or_comm, true≢false, false≢true}
use Prim.Native.Nat.{ℕ, zero, suc, ◌+◌, ◌*◌, ◌-◌, ◌/◌, ◌%◌, ◌^◌, ◌≤◌, ◌<◌, min, max}
use native.Mathlib.Nat.{zero-div, div-one, suc-mul, zero-lt-suc, pow-suc, zero-min, min-le_left, zero-max, max-le, max-eq_left, le_of_suc-le-suc, lt_of_lt_of_le, mod-lt, mod-eq_of_lt, mod-one, div-eq_of_lt, div_self, mul-mod_left, mul-add-mod_self_right}
use native.Mathlib.Decide.{dec_lt, ℕ_discrete}
use native.Mathlib.Omega.{arith}
use lib.Dec.{eqb, ltb}
use lib.Count.{count_trailing_zeros, under}
use lib.Pow.{pow_pos, pow_mono, pow-lt, pow-add, shl-shr, ones_lt, ones_split, split, high, low, field, shr-shr, mod-mod-pow, mod-pow-add}
use lib.Bits.{bit_and, and_shr, and_step, bit_or, or_shr, or_step}
use borrow.Author.Tests.{ltb-false, eqb-true, eq-eqb, ne_eqb, not-true, not-false}
use Rattle.prelude.specs.Search.{first}
use Rattle.prelude.specs.Sets.{has, IsSet, outside, set_of}
use Rattle.prelude.proofs.Bools.{fails}
use Rattle.prelude.proofs.Searches.{first_is, first_none, first_holds, first_passed, first_within, first_at_end, any_none, none_of_any}

two_pos : 0 < 2
two_pos = zero-lt-suc 1

digit_lt : (a y : ℕ) → a / 2 ^ y % 2 < 2
digit_lt a y = mod-lt (a / 2 ^ y) two_pos

-- a digit of a conjunction
digit_and : (a b y : ℕ) → bit_and a b / 2 ^ y % 2 ≡ min (a / 2 ^ y % 2) (b / 2 ^ y % 2)
digit_and a b y =
    ap (λ n. n % 2) (and_shr a b y ∙ and_step (a / 2 ^ y) (b / 2 ^ y))
    ∙ mul-add-mod_self_right (bit_and (a / 2 ^ y / 2) (b / 2 ^ y / 2)) 2 (min (a / 2 ^ y % 2) (b / 2 ^ y % 2))
    ∙ mod-eq_of_lt (omega (arith, min-le_left (a / 2 ^ y % 2) (b / 2 ^ y % 2), digit_lt a y))

least_digit : (d e : ℕ) → d < 2 → e < 2 → eqb (min d e) 1 ≡ (eqb d 1 && eqb e 1)
least_digit zero e h k = ap (λ n. eqb n 1) (zero-min e)
least_digit (suc zero) zero h k = refl
least_digit (suc zero) (suc zero) h k = refl
least_digit (suc zero) (suc (suc e)) h k = absurd (omega arith)
least_digit (suc (suc d)) e h k = absurd (omega arith)

-- both sets have it
pub has_both : (a b y : ℕ) → has (bit_and a b) y ≡ (has a y && has b y)
has_both a b y = ap (λ n. eqb n 1) (digit_and a b y) ∙ least_digit _ _ (digit_lt a y) (digit_lt b y)

-- a digit of a disjunction
digit_or : (a b y : ℕ) → bit_or a b / 2 ^ y % 2 ≡ max (a / 2 ^ y % 2) (b / 2 ^ y % 2)
digit_or a b y =
    ap (λ n. n % 2) (or_shr a b y ∙ or_step (a / 2 ^ y) (b / 2 ^ y))
    ∙ mul-add-mod_self_right (bit_or (a / 2 ^ y / 2) (b / 2 ^ y / 2)) 2 (max (a / 2 ^ y % 2) (b / 2 ^ y % 2))
    ∙ mod-eq_of_lt (omega (arith, max-le {k = 1} (bit a) (bit b)))
  where
    bit : (n : ℕ) → n / 2 ^ y % 2 ≤ 1
    bit n = le_of_suc-le-suc (mod-lt (n / 2 ^ y) two_pos)

greatest_digit : (d e : ℕ) → d < 2 → e < 2 → eqb (max d e) 1 ≡ (eqb d 1 || eqb e 1)
greatest_digit zero e h k = ap (λ n. eqb n 1) (zero-max e)
greatest_digit (suc zero) e h k = ap (λ n. eqb n 1) (max-eq_left (le_of_suc-le-suc k))
greatest_digit (suc (suc d)) e h k = absurd (omega arith)

-- one of two sets has it
pub has_either : (a b y : ℕ) → has (bit_or a b) y ≡ (has a y || has b y)
has_either a b y = ap (λ n. eqb n 1) (digit_or a b y) ∙ greatest_digit _ _ (digit_lt a y) (digit_lt b y)

-- a digit of a power of two
digit_same : (x y : ℕ) → x ≡ y → 2 ^ x / 2 ^ y % 2 ≡ 1
digit_same x y e = rw (e, div_self (pow_pos y))

digit_other : (x y : ℕ) → (x ≡ y → ⊥) → 2 ^ x / 2 ^ y % 2 ≡ 0
digit_other x y h =
    elim (dec_lt x y) [
      | yes l ↦ ap (λ k. k % 2) (div-eq_of_lt (pow-lt l))
      | no l ↦
          elim (dec_lt y x) [
            | yes u ↦
                let k : ℕ = x - suc y in
                ap (λ n. 2 ^ n / 2 ^ y % 2) {x = x} {y = suc k + y} (omega arith)
                ∙ ap (λ n. n / 2 ^ y % 2) (pow-add 2 (suc k) y)
                ∙ ap (λ n. n % 2) (shl-shr (2 ^ suc k) y ∙ pow-suc 2 k)
                ∙ mul-mod_left (2 ^ k) 2
            | no u ↦ absurd (h (omega arith))
          ]
    ]

-- the set of one number
pub has_one : (x y : ℕ) → has (2 ^ x) y ≡ eqb x y
has_one x y =
    elim (ℕ_discrete x y) [
      | yes e ↦ ap (λ n. eqb n 1) (digit_same x y e) ∙ sym (eq-eqb x y e)
      | no e ↦ ap (λ n. eqb n 1) (digit_other x y e) ∙ sym (ne_eqb x y e)
    ]

-- the set with one number more
pub has_more : (set x y : ℕ) → has (bit_or set (2 ^ x)) y ≡ (eqb x y || has set y)
has_more set x y = has_either set (2 ^ x) y ∙ ap (λ b. has set y || b) (has_one x y) ∙ or_comm (has set y) (eqb x y)

same_digit : (d e : ℕ) → d < 2 → e < 2 → eqb d 1 ≡ eqb e 1 → d ≡ e
same_digit zero zero h k q = refl
same_digit zero (suc zero) h k q = absurd (false≢true q)
same_digit zero (suc (suc e)) h k q = absurd (omega arith)
same_digit (suc zero) zero h k q = absurd (true≢false q)
same_digit (suc zero) (suc zero) h k q = refl
same_digit (suc zero) (suc (suc e)) h k q = absurd (omega arith)
same_digit (suc (suc d)) e h k q = absurd (omega arith)

-- two numbers with the same digits below n, and back
same_below : (a b n : ℕ) → ((y : ℕ) → y < n → has a y ≡ has b y) → a % 2 ^ n ≡ b % 2 ^ n
same_below a b zero h = mod-one a ∙ sym (mod-one b)
same_below a b (suc n) h =
    split a
    ∙ ap (λ d. d * 2 ^ n + a % 2 ^ n) (same_digit _ _ (digit_lt a n) (digit_lt b n) (h n (omega arith)))
    ∙ ap (λ k. b / 2 ^ n % 2 * 2 ^ n + k) (same_below a b n (λ y l. h y (omega arith)))
    ∙ sym (split b)
  where
    split : (k : ℕ) → k % 2 ^ suc n ≡ k / 2 ^ n % 2 * 2 ^ n + k % 2 ^ n
    split k = ap (λ m. k % 2 ^ m) {x = suc n} {y = 1 + n} (omega arith) ∙ mod-pow-add k 1 n

digit_below : (a y n : ℕ) → y < n → a % 2 ^ n / 2 ^ y % 2 ≡ a / 2 ^ y % 2
digit_below a y n l =
    sym (field (a % 2 ^ n) 1 y)
    ∙ ap (λ k. k / 2 ^ y)
    (ap (λ k. a % 2 ^ k % 2 ^ (1 + y)) {x = n} {y = n - (1 + y) + (1 + y)} (omega arith) ∙ mod-mod-pow a (n - (1 + y)) (1 + y))
    ∙ field a 1 y

has_below : (a b n : ℕ) → a % 2 ^ n ≡ b % 2 ^ n → (y : ℕ) → y < n → has a y ≡ has b y
has_below a b n e y l =
    ap (λ k. eqb k 1) (sym (digit_below a y n l) ∙ ap (λ k. k / 2 ^ y % 2) e ∙ digit_below b y n l)

-- two sets of numbers below n that have the same ones are the same number
pub same_set : (a b n : ℕ) → a < 2 ^ n → b < 2 ^ n → ((y : ℕ) → y < n → has a y ≡ has b y) → a ≡ b
same_set a b n h k same = sym (mod-eq_of_lt h) ∙ same_below a b n same ∙ mod-eq_of_lt k

-- no digit from n on
pub none_beyond : (a n : ℕ) → ltb 0 (a / 2 ^ n) ≡ false → a < 2 ^ n
none_beyond a n h =
    let q : a / 2 ^ n ≡ 0 = omega (arith, ltb-false 0 (a / 2 ^ n) h) in
    let e : 0 * 2 ^ n + a % 2 ^ n ≡ a = ap (λ k. k * 2 ^ n + a % 2 ^ n) (sym q) ∙ split a n in
    omega (arith, mod-lt a (pow_pos n))

pub has_zero : (y : ℕ) → has 0 y ≡ false
has_zero y = ap (λ k. eqb (k % 2) 1) (zero-div (2 ^ y))

-- the set of all numbers below n
pub has_full : (n y : ℕ) → y < n → has (2 ^ n - 1) y ≡ true
has_full n y l =
    let d : ℕ = n - suc y in
    eq-eqb _ 1
    (ap (λ k. k % 2)
    (ap (λ k. (2 ^ k - 1) / 2 ^ y) {x = n} {y = suc d + y} (omega arith)
    ∙ ap (λ k. k / 2 ^ y) (ones_split (suc d) y)
    ∙ high (2 ^ suc d - 1) y (ones_lt y))
    ∙ omega (arith, pow-suc 2 d, pow_pos d))

-- of the numbers below n, some is in the one set and not in the other
pub some_outside :
    (a b n : ℕ) → not (eqb (bit_and a b % 2 ^ n) (a % 2 ^ n)) ≡ outside a b n
some_outside a b n =
    elim (ℕ_discrete (bit_and a b % 2 ^ n) (a % 2 ^ n)) [
      | yes e ↦
          ap not (eq-eqb _ _ e)
          ∙ sym (any_none _ n (λ y l. inside (has a y) (has b y) (sym (has_both a b y) ∙ has_below (bit_and a b) a n e y l)))
      | no e ↦
          ap not (ne_eqb _ _ e)
          ∙ sym (not-false _ (fails _ (λ h.
          e (same_below (bit_and a b) a n (λ y l.
          has_both a b y ∙ kept (has a y) (has b y) (none_of_any _ n (not-true _ h) y l))))))
    ]
  where
    inside : (p q : Bool) → (p && q) ≡ p → (p && not q) ≡ false
    inside true true e = refl
    inside true false e = absurd (false≢true e)
    inside false q e = refl

    kept : (p q : Bool) → (p && not q) ≡ false → (p && q) ≡ p
    kept true true e = refl
    kept true false e = absurd (true≢false e)
    kept false q e = refl

-- a set that is not empty: its smallest number, in it and below n
module _ (a n : ℕ) (h : a < 2 ^ n) (some : a ≡ 0 → ⊥) where
  pub smallest_below : first (has a) n < n
  smallest_below =
      elim (dec_lt (first (has a) n) n) [
        | yes l ↦ l
        | no l ↦
            absurd (some (same_set a 0 n h (pow_pos n) (λ y u.
            first_passed (has a) n y (omega (arith, first_within (has a) n)) ∙ sym (has_zero y))))
      ]

  pub smallest_same : (m : ℕ) → n ≤ m → first (has a) m ≡ first (has a) n
  smallest_same m l =
      let u = smallest_below in
      first_is (has a) m (first (has a) n) (omega arith) (first_holds (has a) n u) (first_passed (has a) n)

-- the zeros below the lowest digit end at the smallest number of the set
shifted : (a y : ℕ) → has (a / 2) y ≡ has a (suc y)
shifted a y =
    ap (λ k. eqb (k % 2) 1) (shr-shr a 1 y ∙ ap (λ k. a / 2 ^ k) {x = 1 + y} {y = suc y} (omega arith))

abbrev low_digit : (a : ℕ) → has a 0 ≡ eqb (a % 2) 1
low_digit a = ap (λ k. eqb (k % 2) 1) (div-one a)

pub trailing_is : (n a : ℕ) → count_trailing_zeros n a ≡ first (has a) n
unfolding count_trailing_zeros
trailing_is zero a = omega (arith, first_within (has a) 0)
trailing_is (suc n) a = go (a % 2) refl (digit_two a) (trailing_is n (a / 2))
  where
    digit_two : (k : ℕ) → k % 2 < 2
    digit_two k = mod-lt k two_pos

    none : (m : ℕ) → a % 2 ≡ 0 → ((k : ℕ) → k < m → has (a / 2) k ≡ false) → (k : ℕ) → k < suc m → has a k ≡ false
    none m e h zero l = low_digit a ∙ ap (λ d. eqb d 1) e
    none m e h (suc k) l = sym (shifted a k) ∙ h k (le_of_suc-le-suc l)

    go :
        (d : ℕ) → a % 2 ≡ d → d < 2 → count_trailing_zeros n (a / 2) ≡ first (has (a / 2)) n →
        under d (count_trailing_zeros n (a / 2)) ≡ first (has a) (suc n)
    go zero e l q =
        let f : ℕ = first (has (a / 2)) n in
        ap suc q
        ∙ elim (dec_lt f n) [
          | yes u ↦
              sym
              (first_is (has a) (suc n) (suc f) (omega arith) (sym (shifted a f) ∙ first_holds (has (a / 2)) n u)
              (none f e (first_passed (has (a / 2)) n)))
          | no u ↦
              let w : f ≡ n = omega (arith, first_within (has (a / 2)) n) in
              ap suc w ∙ sym (first_none (has a) (suc n) (none n e (first_at_end (has (a / 2)) n w)))
        ]
    go (suc zero) e l q =
        sym (first_is (has a) (suc n) 0 (omega arith) (low_digit a ∙ ap (λ d. eqb d 1) e) (λ k u. absurd (omega arith)))
    go (suc (suc d)) e l q = absurd (omega arith)

-- the set without one of its numbers
module _ (a x : ℕ) (own : has a x ≡ true) where
  -- above its digit at x, which is 1, and below
  record Parts : Type 0 where
    above : ℕ
    below : ℕ
    even : above % 2 ≡ 0
    small : below < 2 ^ x
    whole : a ≡ suc above * 2 ^ x + below

  parts : Parts
  parts = go (a / 2 ^ x) (eqb-true _ _ own) (split a x)
    where
      go : (q : ℕ) → q % 2 ≡ 1 → q * 2 ^ x + a % 2 ^ x ≡ a → Parts
      go zero e w = absurd (omega arith)
      go (suc p) e w =
          record { above = p; below = a % 2 ^ x; even = omega arith; small = mod-lt a (pow_pos x); whole = sym w }

  pub out_le : 2 ^ x ≤ a
  out_le = let w = parts in omega (arith, w.whole, suc-mul w.above (2 ^ x))

  rest : a - 2 ^ x ≡ parts.above * 2 ^ x + parts.below
  rest = let w = parts in omega (arith, w.whole, suc-mul w.above (2 ^ x))

  pub out_same : has (a - 2 ^ x) x ≡ false
  out_same =
      let w = parts in
      ap (λ k. eqb (k % 2) 1) (ap (λ k. k / 2 ^ x) rest ∙ high w.above x w.small) ∙ ap (λ d. eqb d 1) w.even

  -- a digit above x
  digit_above : (k d : ℕ) → k / 2 ^ (x + (1 + d)) ≡ k / 2 ^ x / 2 / 2 ^ d
  digit_above k d = sym (ap (λ n. n / 2 ^ d) (shr-shr k x 1) ∙ shr-shr k (x + 1) d ∙ ap (λ n. k / 2 ^ n) {x = x + 1 + d} {y = x + (1 + d)} (omega arith))

  out_above : (d : ℕ) → has (a - 2 ^ x) (x + (1 + d)) ≡ has a (x + (1 + d))
  out_above d =
      let w = parts in
      let half : w.above / 2 ≡ suc w.above / 2 = omega (arith, w.even) in
      ap (λ k. eqb (k % 2) 1)
      (digit_above (a - 2 ^ x) d
      ∙ ap (λ k. k / 2 / 2 ^ d) (ap (λ k. k / 2 ^ x) rest ∙ high w.above x w.small)
      ∙ ap (λ k. k / 2 ^ d) half
      ∙ ap (λ k. k / 2 / 2 ^ d) (sym (ap (λ k. k / 2 ^ x) w.whole ∙ high (suc w.above) x w.small))
      ∙ sym (digit_above a d))

  pub out_other : (y : ℕ) → (y ≡ x → ⊥) → has (a - 2 ^ x) y ≡ has a y
  out_other y e =
      let w = parts in
      elim (dec_lt y x) [
        | yes l ↦
            has_below (a - 2 ^ x) a x
            (ap (λ k. k % 2 ^ x) rest ∙ low w.above x w.small
            ∙ sym (ap (λ k. k % 2 ^ x) w.whole ∙ low (suc w.above) x w.small)) y l
        | no l ↦ subst (λ k. has (a - 2 ^ x) k ≡ has a k) {x = x + (1 + (y - suc x))} {y = y} (omega arith) (out_above (y - suc x))
      ]

  pub out_none : (y : ℕ) → has a y ≡ false → has (a - 2 ^ x) y ≡ false
  out_none y h =
      elim (ℕ_discrete y x) [
        | yes e ↦ ap (has (a - 2 ^ x)) e ∙ out_same
        | no e ↦ out_other y e ∙ h
      ]

module _ (f : ℕ → Bool) where
  pub set_none : set_of f 0 ≡ 0
  unfolding set_of
  set_none = refl

  -- a digit as a test, set at its place
  placed : (d k : ℕ) → d < 2 → cond (eqb d 1) k 0 ≡ d * k
  placed zero k h = omega arith
  placed (suc zero) k h = omega arith
  placed (suc (suc d)) k h = absurd (omega arith)

  pub set_more : (n d : ℕ) → d < 2 → eqb d 1 ≡ f n → set_of f n + d * 2 ^ n ≡ set_of f (n + 1)
  unfolding set_of
  set_more n d h e =
      ap (λ k. set_of f n + k) (sym (placed d (2 ^ n) h) ∙ ap (λ b. cond b (2 ^ n) 0) e)
      ∙ ap (set_of f) {x = suc n} {y = n + 1} (omega arith)

  abbrev digit : Bool → ℕ
  digit b = cond b 1 0

  step : (n : ℕ) → set_of f (suc n) ≡ digit (f n) * 2 ^ n + set_of f n
  unfolding set_of
  step n = go (f n)
    where
      go : (b : Bool) → set_of f n + cond b (2 ^ n) 0 ≡ digit b * 2 ^ n + set_of f n
      go true = omega arith
      go false = omega arith

  pub set_lt : (n : ℕ) → set_of f n < 2 ^ n
  set_lt zero = rw set_none (omega arith)
  set_lt (suc n) = go (f n) (set_lt n) (step n)
    where
      go : (b : Bool) → set_of f n < 2 ^ n → set_of f (suc n) ≡ digit b * 2 ^ n + set_of f n → set_of f (suc n) < 2 ^ suc n
      go true h e = omega (arith, pow-suc 2 n)
      go false h e = omega (arith, pow-suc 2 n)

  pub set_is : (n : ℕ) → IsSet n f (set_of f n)
  set_is zero y l = absurd (omega arith)
  set_is (suc n) y l =
      ap (λ k. has k y) (step n)
      ∙ elim (dec_lt y n) [
        | yes u ↦
            has_below (digit (f n) * 2 ^ n + set_of f n) (set_of f n) n
            (low (digit (f n)) n (set_lt n) ∙ sym (mod-eq_of_lt (set_lt n))) y u
            ∙ set_is n y u
        | no u ↦
            let e : n ≡ y = omega arith in
            subst (λ k. has (digit (f n) * 2 ^ n + set_of f n) k ≡ f k) e
            (ap (λ k. eqb (k % 2) 1) (high (digit (f n)) n (set_lt n)) ∙ back (f n))
      ]
    where
      back : (b : Bool) → eqb (digit b % 2) 1 ≡ b
      back true = refl
      back false = refl

-- two tests that agree make the same set
pub set_same : (f g : ℕ → Bool) (n : ℕ) → ((y : ℕ) → y < n → f y ≡ g y) → set_of f n ≡ set_of g n
set_same f g n same =
    same_set (set_of f n) (set_of g n) n (set_lt f n) (set_lt g n)
    (λ y l. set_is f n y l ∙ same y l ∙ sym (set_is g n y l))

-- the set of some numbers below n has no other
pub set_below : (f : ℕ → Bool) (n y : ℕ) → has (set_of f n) y ≡ true → y < n
set_below f n y h =
    elim (dec_lt y n) [
      | yes l ↦ l
      | no l ↦
          absurd
          (false≢true
          (sym (ap (λ k. eqb (k % 2) 1) (div-eq_of_lt (lt_of_lt_of_le (set_lt f n) (pow_mono (omega arith))))) ∙ h))
    ]
