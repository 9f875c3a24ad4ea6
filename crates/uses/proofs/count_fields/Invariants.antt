-- `count_fields`: the table has how often the fields below field f of part q use each part.
use Rattle.uses.specs.Promises.{KeepsTimesTo}
use Rattle.uses.proofs.count_fields.Given as goal

abbrev pub invariant-loop-f : goal.invariant-loop-f
invariant-loop-f l = KeepsTimesTo l.file.bytes.now l.q l.f l.times
