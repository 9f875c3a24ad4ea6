-- `bottom_of`: the first level whose row has all levels.
use mathlib.Core.Path.{◌≡◌, ap, ◌∙◌}
use mathlib.Core.Bool.{not}
use Prim.Native.Nat.{ℕ, ◌-◌, ◌^◌, ◌≤◌}
use lib.ListN.{get_or}
use native.Mathlib.Omega.{arith}
use Rattle.std.proofs.Common.{rules, unwrap_or}
use Rattle.prelude.specs.Promises.{found}
use Rattle.prelude.specs.Search.{first, all}
use Rattle.prelude.specs.Sets.{has, outside}
use Rattle.prelude.proofs.Found.{found_or_end}
use Rattle.prelude.proofs.Bools.{and_second}
use Rattle.prelude.proofs.Searches.{any_same, first_same}
use Rattle.prelude.proofs.Sets.{has_full}
use Rattle.order.specs.Order.{top}
use Rattle.book.specs.LevelBook.{most_levels}
use Rattle.lattice.proofs.bottom_of.Goals as goal

-- no level is outside of a row that has all
has_all : (set n : ℕ) → n ≤ most_levels → not (outside (2 ^ most_levels - 1) set n) ≡ all (has set) n
unfolding all
has_all set n few =
    ap not (any_same _ (λ k. not (has set k)) n (λ k l. and_second _ _ (has_full most_levels k (omega arith))))

pub returns : goal.returns
unfolding top
returns c =
    let n = c.args.b.count in
    let f = λ (t : ℕ). not (outside (2 ^ most_levels - 1) (get_or c.args.b.rows t 0) n) in
    let same : first f n ≡ first (λ t. all (has (get_or c.args.b.rows t 0)) n) n = first_same f _ n (λ t l. has_all (get_or c.args.b.rows t 0) n c.requires) in
    let at : c.first.result ≡ found f n = c.first.ensures f (λ i l b q. search rules) in
    c.unwrap_or.ensures ∙ ap (λ o. unwrap_or o n) at ∙ found_or_end f n ∙ same
