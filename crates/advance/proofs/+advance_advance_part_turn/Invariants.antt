-- The node's number falls, or, from turn to turn, the steps that are left.
use mathlib.Core.Bool.{cond}
use Rattle.std.proofs.Common.{◌+◌, ◌-◌, ◌*◌}
use Rattle.moves.specs.Promises.{node_at}
use Rattle.advance.proofs.Places.{Here}
use Rattle.advance.proofs.+advance_advance_part_turn.Given as goal

abbrev pub decreases-advance : goal.decreases-advance
decreases-advance l = 3 * l.k + 2

abbrev pub decreases-advance_part : goal.decreases-advance_part
decreases-advance_part l = cond l.moving 0 (3 * l.k + 3)

abbrev pub decreases-turn : goal.decreases-turn
decreases-turn l = 3 * l.k + 1

-- node k has made moves, and one of its parts stands in its place
abbrev pub invariant-advance-loop-f : goal.invariant-advance-loop-f
invariant-advance-loop-f l =
    Here l.limit (node_at l.program l.k l.initial.state l.initial.values l.initial.log l.initial.at) l.program l.k l.state l.values l.log l.at l.node l.start l.end

abbrev pub decreases-advance-loop-f : goal.decreases-advance-loop-f
decreases-advance-loop-f l = 256 * (l.limit - l.at.steps) + l.node
