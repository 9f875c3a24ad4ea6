-- `add_level`: the sets of the levels below j have level i where they should.
use Rattle.std.proofs.Common.{◌≡◌, ℕ, ◌+◌, ◌<◌, cond, get_or, length}
use lib.Dec.{ltb}
use Rattle.book.specs.LevelBook.{most_levels}
use Rattle.order.specs.Rows.{lower_levels}
use Rattle.order.proofs.converse.add_level.Given as goal

abbrev pub invariant-loop-j : goal.invariant-loop-j
invariant-loop-j l =
    (length l.below ≡ most_levels)
    × ((k : ℕ) → k < most_levels → get_or l.below k 0 ≡ cond (ltb k l.j) (lower_levels l.b.rows (l.i + 1) k) (lower_levels l.b.rows l.i k))
