-- A child has a smaller number.
use Rattle.instants.proofs.+change_instant.Given as goal

abbrev pub decreases-change_instant : goal.decreases-change_instant
decreases-change_instant l = l.k
