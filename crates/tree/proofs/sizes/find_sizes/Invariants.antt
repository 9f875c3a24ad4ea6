-- `find_sizes`: the table has the sizes of the nodes below k.
use mathlib.Core.Path.{◌≡◌}
use lib.ListN.{length}
use Rattle.layout.specs.Layout.{most_nodes}
use Rattle.tree.specs.Promises.{KeepsSizes}
use Rattle.tree.proofs.sizes.find_sizes.Given as goal

abbrev pub invariant-loop-k : goal.invariant-loop-k
invariant-loop-k l = (length l.sizes ≡ most_nodes) × KeepsSizes l.checked.file.bytes.now l.k l.sizes
