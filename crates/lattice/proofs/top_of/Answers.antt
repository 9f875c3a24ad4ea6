-- `top_of`: the smallest of the levels that every level is at or below.
use mathlib.Core.Path.{◌≡◌, sym, ap, ◌∙◌}
use Prim.Native.Nat.{ℕ, ◌≤◌, min}
use mathlib.Core.List.{List}
use Rattle.std.proofs.Common.{rules}
use Rattle.prelude.specs.Search.{first, all, lesser}
use Rattle.prelude.specs.Sets.{has, IsSet}
use Rattle.prelude.proofs.Searches.{first_same, first_sooner}
use Rattle.order.specs.Order.{top}
use Rattle.book.specs.LevelBook.{most_levels, at_or_below}
use Rattle.lattice.proofs.top_of.Goals as goal

top_is :
    (rows : List ℕ) (n set : ℕ) → n ≤ most_levels → IsSet most_levels (λ t. all (λ i. at_or_below rows i t) n) set →
    lesser (first (has set) most_levels) n ≡ top (at_or_below rows) n
unfolding top
top_is rows n set few w =
    ap (λ k. lesser k n) (first_same (has set) _ most_levels w) ∙ sym (first_sooner _ most_levels n few)

pub returns : goal.returns
returns c =
    c.min.ensures
    ∙ ap (λ k. min k c.args.b.count) c.lowest.ensures
    ∙ search rules
    ∙ top_is c.args.b.rows c.args.b.count _ c.requires c.common.ensures
