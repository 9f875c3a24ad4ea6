-- The children of a node have smaller numbers.
use Rattle.requirements.proofs.levelled.LevelledScript.+flows_at.Given as goal

abbrev pub decreases-flows_at : goal.decreases-flows_at
decreases-flows_at l = l.k
