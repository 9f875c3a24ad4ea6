-- `add`: the levels that are left are those to which nothing has been added.
use mathlib.Core.Bool.{true}
use mathlib.Core.Path.{◌≡◌, ap, ◌∙◌}
use Prim.Native.Nat.{◌<◌}
use native.Mathlib.Omega.{arith}
use Rattle.prelude.specs.Sets.{has}
use Rattle.book.specs.LevelBook.{most_levels}
use Rattle.book.proofs.Lowest.{next_less}
use Rattle.requirements.proofs.Additions.{lowest_below, lowest_in, pending_more}
use Rattle.requirements.proofs.table.FlowTable.add.Goals as goal

pub loop-left-preserved : goal.loop-left-preserved
loop-left-preserved c =
    let loop = c.loop-left in
    let i = c.lowest-i.result in
    let level : i < most_levels = rw c.lowest-i.ensures (lowest_below loop.left loop.invariant.0 c.loop-left-test.true) in
    let own : has loop.left i ≡ true =
    ap (has loop.left) c.lowest-i.ensures ∙ lowest_in loop.left loop.invariant.0 c.loop-left-test.true in
    rw c.without-left.ensures (
      omega (arith, next_less loop.left i own, loop.invariant.0),
      pending_more _ loop.self.sets _ _ loop.left i c.union.result loop.self.long level own c.union.ensures loop.invariant.1,
    )
