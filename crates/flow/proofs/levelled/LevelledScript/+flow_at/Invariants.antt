-- The children of a node have smaller numbers.
use Rattle.flow.proofs.levelled.LevelledScript.+flow_at.Given as goal

abbrev pub decreases-flow_at : goal.decreases-flow_at
decreases-flow_at l = l.k
