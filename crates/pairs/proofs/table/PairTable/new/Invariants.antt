-- `new`: the levels below i are kept for themselves, and 0 for all else.
use Rattle.std.proofs.Common.{◌≡◌, ℕ, ◌<◌, cond, ◌&&◌}
use lib.Dec.{eqb, ltb}
use Rattle.book.specs.LevelBook.{most_levels}
use Rattle.pairs.specs.Table.{kept}
use Rattle.pairs.proofs.table.PairTable.new.Given as goal

abbrev pub invariant-loop-i : goal.invariant-loop-i
invariant-loop-i l = (a b : ℕ) → a < most_levels → b < most_levels → kept l.table a b ≡ cond (eqb a b && ltb a l.i) a 0
