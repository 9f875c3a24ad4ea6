-- `count_nodes`: the counts are those of the nodes below k.
use mathlib.Core.Path.{◌≡◌}
use Rattle.bound.specs.Promises.{counts_up_to}
use Rattle.bound.proofs.count_nodes.Given as goal

abbrev pub invariant-loop-k : goal.invariant-loop-k
invariant-loop-k l = l.counts ≡ counts_up_to l.file.bytes.now l.k
