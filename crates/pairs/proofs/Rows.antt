-- Rows as sets: in an order the least common upper level of a pair is the one whose row is what the two rows share.
use mathlib.Core.Path.{◌≡◌, sym, ap, ◌∙◌}
use mathlib.Core.Bool.{true, false, ◌&&◌, true≢false}
use mathlib.Core.List.{List}
use Prim.Native.Nat.{ℕ, ◌≤◌, ◌<◌}
use native.Mathlib.Nat.{lt_of_le_of_lt}
use lib.ListN.{get_or}
use lib.Bits.{bit_and, and_le_l}
use Rattle.std.proofs.Common.{Some, None}
use Rattle.prelude.specs.Search.{first}
use Rattle.prelude.specs.Sets.{has}
use Rattle.prelude.proofs.Bools.{fails, and_intro, and_left, and_right, same_truth}
use Rattle.prelude.proofs.Searches.{NoneBelow, past, first_passed}
use Rattle.prelude.proofs.Found.{found_at, found_none}
use Rattle.prelude.proofs.Sets.{has_both, same_set}
use Rattle.order.specs.Order.{is_least_upper, least_upper}
use Rattle.book.specs.LevelBook.{most_levels, at_or_below}
use Rattle.order.specs.Rows.{InOrder}
use Rattle.pairs.specs.Promises.{found_upper}
use Rattle.pairs.proofs.Orders.{IsLeastUpper, test_sound, test_complete}

module _ (rs : List ℕ) (n i j : ℕ) where
  -- the levels that both i and j are at or below
  abbrev pub uppers : ℕ
  uppers = bit_and (get_or rs i 0) (get_or rs j 0)

  -- the search over the levels can start at the smallest of them
  pub none_sooner : NoneBelow (is_least_upper (at_or_below rs) n i j) (first (has uppers) most_levels)
  none_sooner k l =
      fails _ (λ e.
      let w = test_sound (at_or_below rs) n i j k e in
      true≢false
      (sym (has_both (get_or rs i 0) (get_or rs j 0) k ∙ and_intro _ _ w.left w.right)
      ∙ first_passed (has uppers) most_levels k l))

  module _ (w : InOrder rs n) (hi : i < n) (hj : j < n) (k : ℕ) (hk : k < n) where
    pub is_least : get_or rs k 0 ≡ uppers → is_least_upper (at_or_below rs) n i j k ≡ true
    is_least e =
        let shared : (m : ℕ) → has (get_or rs k 0) m ≡ (at_or_below rs i m && at_or_below rs j m) =
        λ m. ap (λ set. has set m) e ∙ has_both (get_or rs i 0) (get_or rs j 0) m
        in
        let own = sym (shared k) ∙ w.order.reflexive k hk in
        test_complete (at_or_below rs) n i j k (record {
          left = and_left _ _ own;
          right = and_right (at_or_below rs i k) _ own;
          least = λ m l a b. shared m ∙ and_intro _ _ a b;
        })

    same_row : IsLeastUpper (at_or_below rs) n i j k → get_or rs k 0 ≡ uppers
    same_row q =
        let o = w.order in
        same_set (get_or rs k 0) uppers n (w.inside k hk) (lt_of_le_of_lt (and_le_l _ _) (w.inside i hi)) (λ m l.
        same_truth _ _
        (λ a.
        has_both (get_or rs i 0) (get_or rs j 0) m
        ∙ and_intro _ _ (o.transitive i k m hi hk l q.left a) (o.transitive j k m hj hk l q.right a))
        (λ a.
        let both = sym (has_both (get_or rs i 0) (get_or rs j 0) m) ∙ a in
        q.least m l (and_left _ _ both) (and_right (at_or_below rs i m) _ both)))

    pub not_least : (get_or rs k 0 ≡ uppers → ⊥) → is_least_upper (at_or_below rs) n i j k ≡ false
    not_least ne = fails _ (λ e. ne (same_row (test_sound (at_or_below rs) n i j k e)))

  -- where a search that starts there has ended: at the least common upper level, or past all levels
  module _ (w : InOrder rs n) (hi : i < n) (hj : j < n) (k : ℕ) (none : NoneBelow (is_least_upper (at_or_below rs) n i j) k) where
    pub found_here : k < n → get_or rs k 0 ≡ uppers → found_upper (at_or_below rs) n i j ≡ Some k
    unfolding least_upper
    found_here l e = found_at _ n k l (is_least w hi hj k l e) none

    pub found_nowhere : n ≤ k → found_upper (at_or_below rs) n i j ≡ None
    unfolding least_upper
    found_nowhere l = found_none _ n (past l none)
