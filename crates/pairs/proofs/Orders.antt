-- From tests to laws, for any relation R and any number n of levels.
use mathlib.Core.Path.{◌≡◌, sym, ap, ◌∙◌, subst}
use mathlib.Core.Bool.{true, not, ◌&&◌, true≢false}
use Prim.Native.Nat.{ℕ, ◌<◌}
use native.Mathlib.Decide.{dec_lt}
use native.Mathlib.Omega.{arith}
use borrow.Author.Tests.{not-true, not-false}
use Rattle.prelude.specs.Search.{any}
use Rattle.prelude.proofs.Bools.{fails, and_intro, and_left, and_right, and_swap}
use Rattle.prelude.proofs.Searches.{first_holds, first_is, first_same, any_none, any_same, none_of_any}
use Rattle.order.specs.Order.{Relation, converse, missed, is_least_upper, least_upper, greatest_lower, PartialOrder, LeastUppers}
use Rattle.order.proofs.Duals.{dual}

module _ (R : Relation) (n : ℕ) where
  -- k is a common upper level of i and j, and at or below each
  pub record IsLeastUpper (i j k : ℕ) : Type 0 where
    pub left : R i k ≡ true
    pub right : R j k ≡ true
    pub least : (m : ℕ) → m < n → R i m ≡ true → R j m ≡ true → R k m ≡ true

  pub test_sound : (i j k : ℕ) → is_least_upper R n i j k ≡ true → IsLeastUpper i j k
  test_sound i j k h =
      let rest = and_right (R i k) (R j k && not (any (missed R i j k) n)) h in
      let none = none_of_any (missed R i j k) n (not-true _ (and_right (R j k) (not (any (missed R i j k) n)) rest)) in
      record {
        left = and_left (R i k) (R j k && not (any (missed R i j k) n)) h;
        right = and_left (R j k) (not (any (missed R i j k) n)) rest;
        least =
            λ m l a b.
            not-false (R k m) (fails _ (λ e. true≢false (sym (and_intro _ _ a (and_intro _ _ b e)) ∙ none m l)));
      }

  pub test_complete : (i j k : ℕ) → IsLeastUpper i j k → is_least_upper R n i j k ≡ true
  test_complete i j k w =
      and_intro (R i k) _ w.left
      (and_intro (R j k) _ w.right
      (ap not
      (any_none (missed R i j k) n
      (λ m l.
      fails (missed R i j k m) (λ e.
      let rest = and_right (R i m) (R j m && not (R k m)) e in
      true≢false
      (sym (w.least m l (and_left (R i m) (R j m && not (R k m)) e) (and_left (R j m) (not (R k m)) rest))
      ∙ not-true (R k m) (and_right (R j m) (not (R k m)) rest)))))))

  found : (i j : ℕ) → least_upper R n i j < n → IsLeastUpper i j (least_upper R n i j)
  unfolding least_upper
  found i j h = test_sound i j (least_upper R n i j) (first_holds (is_least_upper R n i j) n h)

  pub least_swap : (i j : ℕ) → least_upper R n i j ≡ least_upper R n j i
  unfolding least_upper
  least_swap i j =
      first_same (is_least_upper R n i j) (is_least_upper R n j i) n (λ k l.
      and_swap (R i k) (R j k) (not (any (missed R i j k) n))
      ∙ ap (λ b. R j k && (R i k && not b)) (any_same (missed R i j k) (missed R j i k) n (λ m u. and_swap (R i m) (R j m) (not (R k m)))))

  -- of two levels in order the upper one is the least common upper level
  pub least_above : PartialOrder R n → (i j : ℕ) → i < n → j < n → R i j ≡ true → least_upper R n i j ≡ j
  unfolding least_upper
  least_above o i j hi hj h =
      let own = o.reflexive j hj in
      first_is (is_least_upper R n i j) n j hj
      (test_complete i j j (record { left = h; right = own; least = λ m l a b. b }))
      (λ k l.
      fails (is_least_upper R n i j k) (λ e.
      let w = test_sound i j k e in
      let q : j ≡ k = o.antisymmetric j k hj (omega arith) w.right (w.least j hj h own) in
      omega arith))

  module _ (o : PartialOrder R n) (exists : (i j : ℕ) → i < j → j < n → least_upper R n i j < n) where
    within : (i j : ℕ) → i < n → j < n → least_upper R n i j < n
    within i j a b =
        elim (dec_lt i j) [
          | yes u ↦ exists i j u b
          | no u ↦
              elim (dec_lt j i) [
                | yes v ↦ subst (λ k. k < n) (least_swap j i) (exists j i v a)
                | no v ↦
                    let e : j ≡ i = omega arith in
                    subst (λ k. least_upper R n i k < n) (sym e) (subst (λ k. k < n) (sym (least_above o i i a a (o.reflexive i a))) a)
              ]
        ]

    pub least_uppers : LeastUppers R n (least_upper R n)
    least_uppers =
        record {
          within = within;
          left = λ i j a b. (found i j (within i j a b)).left;
          right = λ i j a b. (found i j (within i j a b)).right;
          least = λ i j k a b c. (found i j (within i j a b)).least k c;
        }

-- two relations that agree on the levels have the same least common upper levels
pub least_same :
    (R S : Relation) (n : ℕ) → ((i j : ℕ) → i < n → j < n → R i j ≡ S i j) → (i j : ℕ) → i < n → j < n →
    least_upper R n i j ≡ least_upper S n i j
unfolding least_upper
least_same R S n same i j a b =
    first_same (is_least_upper R n i j) (is_least_upper S n i j) n (λ k l.
    rw (
      same i k a l,
      same j k b l,
      any_same (missed R i j k) (missed S i j k) n (λ m u. rw (same i m a u, same j m b u, same k m l u)),
    ))

-- the common levels of two levels in order: the upper one and the lower one
pub upper_and_lower :
    (R : Relation) (n : ℕ) → PartialOrder R n → (i j : ℕ) → i < n → j < n → R i j ≡ true →
    (least_upper R n i j ≡ j) × (greatest_lower R n i j ≡ i)
upper_and_lower R n o i j hi hj h = (
  least_above R n o i j hi hj h,
  least_swap (converse R) n i j ∙ least_above (converse R) n (dual R n o) j i hj hi h,
)
