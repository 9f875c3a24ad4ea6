-- The operands of an expression have smaller numbers.
use Rattle.requirements.proofs.levelled.LevelledScript.+levels_of.Given as goal

abbrev pub decreases-levels_of : goal.decreases-levels_of
decreases-levels_of l = l.e
