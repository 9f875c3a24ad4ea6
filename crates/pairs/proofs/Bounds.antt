-- Both levels of a pair, as the sweep finds them in the rows of an order and in those of the order upside down.
use mathlib.Core.Path.{◌≡◌, sym, ap, ◌∙◌}
use mathlib.Core.Bool.{true, cond}
use Prim.Native.Nat.{ℕ, ◌<◌}
use native.Mathlib.Omega.{arith}
use lib.Dec.{eqb, ltb}
use borrow.Author.Tests.{eq-eqb}
use Rattle.std.proofs.Common.{Option, Some, None}
use Rattle.prelude.proofs.Bools.{or_first, or-true}
use Rattle.prelude.proofs.Searches.{first_none}
use Rattle.prelude.proofs.Found.{found_some, found_nothing}
use Rattle.order.specs.Order.{Relation, converse, is_least_upper, least_upper, greatest_lower}
use Rattle.order.specs.Rows.{InOrder, converse_of}
use Rattle.order.proofs.Duals.{upside_down}
use Rattle.book.specs.declared.Book.{Book}
use Rattle.book.specs.LevelBook.{at_or_below}
use Rattle.pairs.specs.Promises.{found_upper, BothLevels}
use Rattle.pairs.specs.Sweeping.{lacks_one}
use Rattle.pairs.proofs.Orders.{least_swap, least_same, upper_and_lower}

-- what a search for the least common upper level tells
module _ (R : Relation) (n i j : ℕ) where
  upper_some : {k : ℕ} → found_upper R n i j ≡ Some k → (k < n) × (k ≡ least_upper R n i j)
  unfolding least_upper
  upper_some e = let h = found_some (is_least_upper R n i j) n e in (h.0, sym h.1)

  upper_none : found_upper R n i j ≡ None → least_upper R n i j ≡ n
  unfolding least_upper
  upper_none e = first_none (is_least_upper R n i j) n (found_nothing (is_least_upper R n i j) n e)

module _ (up down : Book) (w : InOrder up.rows up.count) (turned : down ≡ converse_of up) (i j : ℕ) (hi : i < up.count) (hj : j < up.count) where
  abbrev R : Relation
  R = at_or_below up.rows

  abbrev n : ℕ
  n = up.count

  -- j is at or below i
  pub in_converse : R j i ≡ true → BothLevels R n i j i j
  in_converse h =
      let p = upper_and_lower R n w.order j i hj hi h in
      record {
        upper = sym p.0 ∙ least_swap R n j i;
        lower = sym p.1 ∙ least_swap (converse R) n j i;
        upper_within = hi;
        lower_within = hj;
      }

  -- i is at or below j
  pub in_order : R i j ≡ true → BothLevels R n i j j i
  in_order h =
      let p = upper_and_lower R n w.order i j hi hj h in
      record { upper = sym p.0; lower = sym p.1; upper_within = hj; lower_within = hi }

  -- what a search in each of the rows ends with
  under_same : found_upper (at_or_below down.rows) down.count i j ≡ found_upper (converse R) n i j
  under_same =
      let few = w.few in
      let same : least_upper (at_or_below (converse_of up).rows) n i j ≡ greatest_lower R n i j =
      least_same _ _ n (λ a b ha hb. upside_down up.rows n a b (omega arith) hb) i j hi hj
      in
      ap (λ (b : Book). found_upper (at_or_below b.rows) b.count i j) turned
      ∙ ap (λ k. cond {A = Option ℕ} (ltb k n) (Some k) None) same

  pub searched :
      {u l : ℕ} → found_upper R n i j ≡ Some u → found_upper (at_or_below down.rows) down.count i j ≡ Some l → BothLevels R n i j u l
  searched e f =
      let above = upper_some R n i j e in
      let under = upper_some (converse R) n i j (sym under_same ∙ f) in
      record { upper = above.1; lower = under.1; upper_within = above.0; lower_within = under.0 }

  pub no_upper : found_upper R n i j ≡ None → lacks_one R n i j ≡ true
  no_upper e = or_first _ _ (eq-eqb (least_upper R n i j) n (upper_none R n i j e))

  pub no_lower : found_upper (at_or_below down.rows) down.count i j ≡ None → lacks_one R n i j ≡ true
  no_lower e =
      or-true (eqb (least_upper R n i j) n) _ (eq-eqb (greatest_lower R n i j) n (upper_none (converse R) n i j (sym under_same ∙ e)))
