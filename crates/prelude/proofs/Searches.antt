-- What a search finds, and how a loop shows it: the numbers passed fail the test, the one at hand holds or fails.
use mathlib.Core.Path.{◌≡◌, refl, sym, ap, ◌∙◌, subst}
use mathlib.Core.Bool.{Bool, true, false, cond, not, ◌&&◌, true≢false}
use Prim.Native.Nat.{ℕ, zero, suc, ◌+◌, ◌-◌, ◌≤◌, ◌<◌}
use native.Mathlib.Omega.{arith}
use native.Mathlib.Decide.{dec_lt}
use lib.Dec.{ltb, leb}
use borrow.Author.Count.{below_more}
use borrow.Author.Tests.{lt-ltb, le-ltb, ltb-true, ltb-false, le-leb, leb-true, leb-false, not-true, not-false}
use Rattle.prelude.proofs.Bools.{and_intro, and_left, and_right, same_truth, by_cases}
use Rattle.prelude.specs.Search.{first_from, first, any, all, lesser}

-- every number below n fails the test
abbrev pub NoneBelow : (ℕ → Bool) → ℕ → Type 0
NoneBelow f n = (k : ℕ) → k < n → f k ≡ false

pub past : {f : ℕ → Bool} {n i : ℕ} → n ≤ i → NoneBelow f i → NoneBelow f n
past h none k l = none k (omega arith)

-- r is the first number from i to i + m - 1 at which the test holds, or i + m
record Found (f : ℕ → Bool) (i m r : ℕ) : Type 0 where
  after : i ≤ r
  within : r ≤ i + m
  holds : r < i + m → f r ≡ true
  fails : (k : ℕ) → i ≤ k → k < r → f k ≡ false

found : (f : ℕ → Bool) (i m : ℕ) → Found f i m (first_from f i m)
unfolding first_from
found f i zero =
    record {
      after = omega arith;
      within = omega arith;
      holds = λ h. absurd (omega arith);
      fails = λ k a b. absurd (omega arith);
    }
found f i (suc m) = go (f i) refl (first_from f (suc i) m) (found f (suc i) m)
  where
    go : (b : Bool) → f i ≡ b → (r : ℕ) → Found f (suc i) m r → Found f i (suc m) (cond b i r)
    go true e r w =
        record { after = omega arith; within = omega arith; holds = λ h. e; fails = λ k a b. absurd (omega arith) }
    go false e r w =
        record {
          after = omega (arith, w.after);
          within = omega (arith, w.within);
          holds = λ h. w.holds (omega arith);
          fails =
              λ k a b.
              elim (dec_lt i k) [
                | yes l ↦ w.fails k l b
                | no l ↦ subst (λ z. f z ≡ false) (omega arith) e
              ];
        }

-- a search that goes down from n: r is the smallest number from q on at which the test holds, or n
abbrev pub SmallestFrom : (ℕ → Bool) → ℕ → ℕ → ℕ → Type 0
SmallestFrom f n q r = r ≡ first_from f q (n - q)

module _ (f : ℕ → Bool) (n : ℕ) where
  pub down_none : SmallestFrom f n n n
  unfolding first_from
  down_none = let none : n - n ≡ 0 = omega arith in sym (ap (first_from f n) none)

  module _ (q : ℕ) (some : 0 < q) (within : q ≤ n) where
    longer : n - (q - 1) ≡ suc (n - q)
    longer = omega arith

    pub down_hit : f (q - 1) ≡ true → SmallestFrom f n (q - 1) (q - 1)
    unfolding first_from
    down_hit e = rw (longer, e) refl

    pub down_miss : {r : ℕ} → f (q - 1) ≡ false → SmallestFrom f n q r → SmallestFrom f n (q - 1) r
    unfolding first_from
    down_miss e found =
        let next : q ≡ suc (q - 1) = omega arith in
        rw (longer, e) (found ∙ ap (λ i. first_from f i (n - q)) next)

  pub down_all : {q r : ℕ} → q ≡ 0 → SmallestFrom f n q r → r ≡ first f n
  unfolding first
  down_all e found =
      let whole : n - 0 ≡ n = omega arith in
      found ∙ ap (λ i. first_from f i (n - i)) e ∙ ap (first_from f 0) whole

module _ (f : ℕ → Bool) (n : ℕ) where
  pub first_within : first f n ≤ n
  unfolding first
  first_within = omega (arith, (found f 0 n).within)

  pub first_holds : first f n < n → f (first f n) ≡ true
  unfolding first
  first_holds h = (found f 0 n).holds (omega (arith, h))

  pub first_passed : NoneBelow f (first f n)
  unfolding first
  first_passed k h = (found f 0 n).fails k (omega arith) h

  -- a loop that found the test true at i, and false before
  pub first_is : (i : ℕ) → i < n → f i ≡ true → NoneBelow f i → first f n ≡ i
  first_is i h e none =
      elim (dec_lt (first f n) i) [
        | yes l ↦ absurd (true≢false (sym (first_holds (omega arith)) ∙ none (first f n) l))
        | no l ↦
            elim (dec_lt i (first f n)) [
              | yes u ↦ absurd (true≢false (sym e ∙ first_passed i u))
              | no u ↦ omega arith
            ]
      ]

  -- a loop that found the test false throughout
  pub first_none : NoneBelow f n → first f n ≡ n
  first_none none =
      elim (dec_lt (first f n) n) [
        | yes l ↦ absurd (true≢false (sym (first_holds l) ∙ none (first f n) l))
        | no l ↦ omega (arith, first_within)
      ]

  pub first_at_end : first f n ≡ n → NoneBelow f n
  first_at_end e k h = first_passed k (omega arith)

  pub first_found : (i : ℕ) → i < n → f i ≡ true → first f n < n
  first_found i h e =
      elim (dec_lt (first f n) n) [
        | yes l ↦ l
        | no l ↦ absurd (true≢false (sym e ∙ first_passed i (omega arith)))
      ]

  pub any_some : (i : ℕ) → i < n → f i ≡ true → any f n ≡ true
  unfolding any
  any_some i h e = lt-ltb (first f n) n (first_found i h e)

  pub any_none : NoneBelow f n → any f n ≡ false
  unfolding any
  any_none none = le-ltb (first f n) n (omega (arith, first_none none))

  pub none_of_any : any f n ≡ false → NoneBelow f n
  unfolding any
  none_of_any e = first_at_end (omega (arith, first_within, ltb-false (first f n) n e))

  pub some_of_any : any f n ≡ true → (i : ℕ) × (i < n) × (f i ≡ true)
  unfolding any
  some_of_any e = let h : first f n < n = ltb-true (first f n) n e in (first f n, h, first_holds h)

-- the test holds at every number below n
abbrev pub AllBelow : (ℕ → Bool) → ℕ → Type 0
AllBelow f n = (k : ℕ) → k < n → f k ≡ true

module _ (f : ℕ → Bool) (n : ℕ) where
  pub all_intro : AllBelow f n → all f n ≡ true
  unfolding all
  all_intro h = ap not (any_none (λ k. not (f k)) n (λ k l. ap not (h k l)))

  pub all_fails : (i : ℕ) → i < n → f i ≡ false → all f n ≡ false
  unfolding all
  all_fails i l e = ap not (any_some (λ k. not (f k)) n i l (ap not e))

  pub all_elim : all f n ≡ true → AllBelow f n
  unfolding all
  all_elim e k l = not-false (f k) (none_of_any (λ j. not (f j)) n (not-true _ e) k l)

-- one number more
pub all_more : (f : ℕ → Bool) (n : ℕ) → all f (n + 1) ≡ (all f n && f n)
all_more f n =
    same_truth (all f (n + 1)) (all f n && f n)
    (λ h.
    let w = all_elim f (n + 1) h in
    and_intro _ _ (all_intro f n (λ k l. w k (omega arith))) (w n (omega arith)))
    (λ h.
    all_intro f (n + 1)
    (below_more (λ k. f k ≡ true) n (all_elim f n (and_left (all f n) (f n) h)) (and_right (all f n) (f n) h)))

-- two tests that agree below n find the same
pub first_same : (f g : ℕ → Bool) (n : ℕ) → ((k : ℕ) → k < n → f k ≡ g k) → first f n ≡ first g n
first_same f g n same =
    elim (dec_lt (first g n) n) [
      | yes l ↦
          first_is f n (first g n) l (same _ l ∙ first_holds g n l) (λ k h. same k (omega arith) ∙ first_passed g n k h)
      | no l ↦
          let e : first g n ≡ n = omega (arith, first_within g n) in
          first_none f n (λ k h. same k h ∙ first_at_end g n e k h) ∙ sym e
    ]

pub any_same : (f g : ℕ → Bool) (n : ℕ) → ((k : ℕ) → k < n → f k ≡ g k) → any f n ≡ any g n
unfolding any
any_same f g n same = ap (λ k. ltb k n) (first_same f g n same)

-- the lesser of two numbers in order
pub lesser_left : (m n : ℕ) → m ≤ n → lesser m n ≡ m
lesser_left m n h = rw (le-leb m n h)

pub lesser_right : (m n : ℕ) → n ≤ m → lesser m n ≡ n
lesser_right m n h = by_cases (λ k. k ≡ n) (leb m n) (λ e. omega (arith, leb-true m n e)) (λ e. refl)

-- a search that ends sooner
pub first_sooner : (f : ℕ → Bool) (m n : ℕ) → n ≤ m → first f n ≡ lesser (first f m) n
first_sooner f m n h =
    by_cases
    (λ k. first f n ≡ k)
    (leb (first f m) n)
    (λ e.
    let l = leb-true (first f m) n e in
    elim (dec_lt (first f m) n) [
      | yes u ↦ first_is f n (first f m) u (first_holds f m (omega arith)) (first_passed f m)
      | no u ↦ first_none f n (λ k v. first_passed f m k (omega arith)) ∙ omega arith
    ])
    (λ e. first_none f n (λ k v. first_passed f m k (omega (arith, leb-false (first f m) n e))))
