-- `first`: the test fails at the numbers passed.
use Rattle.std.proofs.Common.{ℕ, ◌<◌, false}
use Rattle.prelude.proofs.search.first.Given as goal

abbrev pub invariant-loop-i : goal.invariant-loop-i
invariant-loop-i g l = (k : ℕ) → k < l.i → goal.F-post g l.test k false
