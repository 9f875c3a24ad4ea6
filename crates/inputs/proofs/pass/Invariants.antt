-- `pass`: the pairs before k are of instants up to this one.
use Prim.Native.Nat.{ℕ, ◌≤◌, ◌<◌}
use Rattle.inputs.specs.Lists.{instant_at}
use Rattle.inputs.proofs.pass.Given as goal

abbrev pub invariant-loop-k : goal.invariant-loop-k
invariant-loop-k l = (j : ℕ) → j < l.k → instant_at l.list j ≤ l.instant
