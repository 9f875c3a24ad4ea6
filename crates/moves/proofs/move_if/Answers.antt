-- `move_if`: the node's byte says which branch is left.
use mathlib.Core.Path.{sym, ◌∙◌}
use native.Mathlib.Omega.{arith}
use Rattle.residual.proofs.Residuals.{some_bytes}
use Rattle.moves.proofs.OwnMoves.{fields, then_moves, else_moves}
use Rattle.moves.proofs.move_if.Goals as goal

pub test_holds-requires : goal.test_holds-requires
test_holds-requires c =
    record { valued = c.requires.valued; known = omega (arith, c.a_at.ensures, (fields c.requires).1) }

pub bounds-state-0 : goal.bounds-state-0
bounds-state-0 c =
    some_bytes c.requires.node

pub bounds-state-0-else-test_holds : goal.bounds-state-0-else-test_holds
bounds-state-0-else-test_holds c =
    some_bytes c.requires.node

pub returns-then-test_holds : goal.returns-then-test_holds
returns-then-test_holds c =
    then_moves c.requires (rw c.a_at.ensures at (sym c.test_holds.ensures ∙ c.if-test_holds.true))

pub returns-else-test_holds : goal.returns-else-test_holds
returns-else-test_holds c =
    else_moves c.requires (rw c.a_at.ensures at (sym c.test_holds.ensures ∙ c.if-test_holds.false))
