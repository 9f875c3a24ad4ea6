-- `names`: the table has the words of the names below x.
use native.Mathlib.Omega.{arith}
use Rattle.layout.proofs.Layouts.{few_bounds}
use Rattle.plan.proofs.Plans.{name_more}
use Rattle.plan.proofs.reading.Reading.names.Goals as goal

pub loop-x-preserved : goal.loop-x-preserved
loop-x-preserved c =
    let file = c.args.self.now.checked.file in
    name_more c.loop-x.invariant (omega (arith, c.loop-x-test.true, few_bounds file.layout file.laid.few)) c.name_word.ensures
