-- `expressions`: the table has the words of the names still, and those of the expressions below e.
use Rattle.plan.specs.Readings.{Filled}
use Rattle.plan.proofs.reading.Reading.expressions.Given as goal

abbrev pub invariant-loop-e : goal.invariant-loop-e
invariant-loop-e l = Filled l.self l.self.checked.file.layout.names l.e 0 l.words
