-- `enter_fields`: the sets of the last part and of the parts that the fields from field f of part q on use are right.
use Rattle.scope.specs.Promises.{KeepsReachFrom}
use Rattle.scope.proofs.enter_fields.Given as goal

abbrev pub invariant-loop-f : goal.invariant-loop-f
invariant-loop-f l = KeepsReachFrom l.joined.file.bytes.now l.q l.f l.sets
