-- `least_upper`: no level below k is the least common upper one (`Rows`).
use Rattle.prelude.proofs.Searches.{NoneBelow}
use Rattle.order.specs.Order.{is_least_upper}
use Rattle.book.specs.LevelBook.{at_or_below}
use Rattle.pairs.proofs.sides.least_upper.Given as goal

abbrev pub invariant-loop-k : goal.invariant-loop-k
invariant-loop-k l = NoneBelow (is_least_upper (at_or_below l.rows) l.levels.book.count l.i l.j) l.k
