-- The operands of an expression have smaller numbers.
use Rattle.flow.proofs.levelled.LevelledScript.+level_of.Given as goal

abbrev pub decreases-level_of : goal.decreases-level_of
decreases-level_of l = l.e
