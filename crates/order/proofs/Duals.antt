-- The order upside down is an order.
use mathlib.Core.Path.{◌≡◌, sym, ap, ◌∙◌, subst}
use mathlib.Core.List.{List}
use Prim.Native.Nat.{ℕ, ◌^◌, ◌<◌}
use native.Mathlib.Omega.{arith}
use Rattle.prelude.specs.Sets.{has}
use Rattle.prelude.proofs.Sets.{set_is, set_lt}
use Rattle.prelude.proofs.Tables.{table_at}
use Rattle.book.specs.LevelBook.{most_levels, at_or_below}
use Rattle.order.specs.Order.{Relation, converse, PartialOrder}
use Rattle.order.specs.Rows.{InOrder, lower_levels, converse_rows}

pub dual : (R : Relation) (n : ℕ) → PartialOrder R n → PartialOrder (converse R) n
dual R n o =
    record {
      reflexive = o.reflexive;
      antisymmetric = λ i j a b u v. o.antisymmetric i j a b v u;
      transitive = λ i j k a b c u v. o.transitive k j i c b a v u;
    }

module _ (rs : List ℕ) (n : ℕ) where
  pub upside_down : (i j : ℕ) → i < most_levels → j < n → at_or_below (converse_rows rs n) i j ≡ converse (at_or_below rs) i j
  unfolding converse_rows lower_levels
  upside_down i j a b =
      ap (λ set. has set j) (table_at _ most_levels i 0 a) ∙ set_is (λ k. at_or_below rs k i) n j b

  pub converse_in_order : InOrder rs n → InOrder (converse_rows rs n) n
  unfolding converse_rows lower_levels
  converse_in_order w =
      let o : PartialOrder (converse (at_or_below rs)) n = dual _ _ w.order in
      let l = w.few in
      let same : (i j : ℕ) → i < n → j < n → at_or_below (converse_rows rs n) i j ≡ converse (at_or_below rs) i j =
      λ i j a b. upside_down i j (omega arith) b
      in
      record {
        few = l;
        inside = λ i a. subst (λ k. k < 2 ^ n) (sym (table_at _ most_levels i 0 (omega arith))) (set_lt _ n);
        order =
            record {
              reflexive = λ i a. same i i a a ∙ o.reflexive i a;
              antisymmetric =
                  λ i j a b u v. o.antisymmetric i j a b (sym (same i j a b) ∙ u) (sym (same j i b a) ∙ v);
              transitive =
                  λ i j k a b c u v.
                  same i k a c ∙ o.transitive i j k a b c (sym (same i j a b) ∙ u) (sym (same j k b c) ∙ v);
            };
      }
