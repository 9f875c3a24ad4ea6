-- `move_while`: the node's byte says that the body is in front, which is cleared; or the node is nil.
use lib.ListN.{length-set}
use mathlib.Core.Path.{sym, ◌∙◌}
use native.Mathlib.Omega.{arith}
use Rattle.residual.proofs.Residuals.{some_bytes}
use Rattle.moves.proofs.OwnMoves.{fields, done_moves, round_moves, cleared_long}
use Rattle.moves.proofs.move_while.Goals as goal

pub test_holds-requires : goal.test_holds-requires
test_holds-requires c =
    record { valued = c.requires.valued; known = omega (arith, c.a_at.ensures, (fields c.requires).1) }

pub bounds-state-0 : goal.bounds-state-0
bounds-state-0 c =
    some_bytes c.requires.node

pub slice_bounds-clear_body-count : goal.slice_bounds-clear_body-count
slice_bounds-clear_body-count c =
    rw (length-set c.args.state.now 0 1) (some_bytes c.requires.node)

pub slice_bounds-clear_body-start : goal.slice_bounds-clear_body-start
slice_bounds-clear_body-start c =
    rw (length-set c.args.state.now 0 1) (some_bytes c.requires.node)

pub bounds-state-0-else-test_holds : goal.bounds-state-0-else-test_holds
bounds-state-0-else-test_holds c =
    some_bytes c.requires.node

pub shape_of-state-then-test_holds : goal.shape_of-state-then-test_holds
shape_of-state-then-test_holds c =
    cleared_long c.requires c.clear_body.new.state c.clear_body.ensures

pub returns-then-test_holds : goal.returns-then-test_holds
returns-then-test_holds c =
    round_moves c.requires c.clear_body.new.state c.clear_body.ensures
    (rw c.a_at.ensures at (sym c.test_holds.ensures ∙ c.if-test_holds.true))

pub returns-else-test_holds : goal.returns-else-test_holds
returns-else-test_holds c =
    done_moves c.requires (rw c.a_at.ensures at (sym c.test_holds.ensures ∙ c.if-test_holds.false))
