-- `test_holds`: a value is 0 where its bits are.
use mathlib.Core.Path.{ap, ◌∙◌}
use Rattle.values.specs.Values.{holds}
use Rattle.values.proofs.Bits.{test_by_bits}
use Rattle.evaluation.proofs.test_holds.Goals as goal

pub returns : goal.returns
returns c = test_by_bits c.value_of.result c.value_of.type_inv ∙ ap holds c.value_of.ensures
