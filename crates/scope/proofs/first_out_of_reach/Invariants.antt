-- `first_out_of_reach`: the sets of the last part and of the parts that the fields of the parts from q on use are right,
-- and what is found among the parts from q on.
use mathlib.Core.Path.{◌≡◌}
use Rattle.layout.specs.Layout.{part_count}
use Rattle.scope.specs.Reach.{is_out_of_reach}
use Rattle.scope.specs.Promises.{KeepsReachFrom}
use Rattle.scope.proofs.Finding.{found_from}
use Rattle.scope.proofs.first_out_of_reach.Given as goal

abbrev pub invariant-loop-q : goal.invariant-loop-q
invariant-loop-q l =
    let s = l.joined.file.bytes.now in
    KeepsReachFrom s l.q 0 l.sets × (l.outside ≡ found_from (is_out_of_reach s) (part_count s) l.q)
