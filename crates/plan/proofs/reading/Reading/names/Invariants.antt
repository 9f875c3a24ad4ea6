-- `names`: the table has the words of the names below x.
use Rattle.plan.specs.Readings.{Filled}
use Rattle.plan.proofs.reading.Reading.names.Given as goal

abbrev pub invariant-loop-x : goal.invariant-loop-x
invariant-loop-x l = Filled l.self l.x 0 0 l.words
