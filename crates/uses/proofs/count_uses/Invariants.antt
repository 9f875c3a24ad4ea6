-- `count_uses`: the table has how often the fields of the parts below q use each part.
use Rattle.uses.specs.Promises.{KeepsTimesTo}
use Rattle.uses.proofs.count_uses.Given as goal

abbrev pub invariant-loop-q : goal.invariant-loop-q
invariant-loop-q l = KeepsTimesTo l.file.bytes.now l.q 0 l.times
