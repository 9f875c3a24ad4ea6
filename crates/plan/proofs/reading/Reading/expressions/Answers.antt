-- `expressions`: the table has the words of the names still, and those of the expressions below e.
use native.Mathlib.Omega.{arith}
use Rattle.layout.proofs.Layouts.{few_bounds}
use Rattle.plan.proofs.Plans.{expression_more}
use Rattle.plan.proofs.reading.Reading.expressions.Goals as goal

pub loop-e-preserved : goal.loop-e-preserved
loop-e-preserved c =
    let file = c.args.self.now.checked.file in
    let few = few_bounds file.layout file.laid.few in
    expression_more c.loop-e.invariant few.0 (omega (arith, c.loop-e-test.true, few)) c.expression_word.ensures
