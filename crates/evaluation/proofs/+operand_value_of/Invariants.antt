-- The operands of an expression have smaller numbers, so e falls.
use Rattle.std.proofs.Common.{◌+◌, ◌*◌}
use Rattle.evaluation.proofs.+operand_value_of.Given as goal

abbrev pub decreases-operand : goal.decreases-operand
decreases-operand l = 2 * l.e + 1

abbrev pub decreases-value_of : goal.decreases-value_of
decreases-value_of l = 2 * l.e
