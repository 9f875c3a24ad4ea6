-- `add`: the levels that are left are those to which nothing has been added.
use Prim.Native.Nat.{◌^◌, ◌<◌}
use Rattle.book.specs.LevelBook.{most_levels}
use Rattle.requirements.proofs.Additions.{Pending}
use Rattle.requirements.proofs.table.FlowTable.add.Given as goal

abbrev pub invariant-loop-left : goal.invariant-loop-left
invariant-loop-left l = (l.left < 2 ^ most_levels) × Pending l.initial.self.sets l.from l.to l.self.sets l.left

abbrev pub decreases-loop-left : goal.decreases-loop-left
decreases-loop-left l = l.left
