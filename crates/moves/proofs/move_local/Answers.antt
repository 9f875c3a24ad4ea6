-- `move_local`: the signal is absent, and the node's byte says that it is in its body.
use native.Mathlib.Omega.{arith}
use Rattle.residual.proofs.Residuals.{some_bytes}
use Rattle.moves.proofs.OwnMoves.{fields, local_moves}
use borrow.Author.Rules.{Fits-under}
use Rattle.moves.proofs.move_local.Goals as goal

pub offset_bounds-values-a : goal.offset_bounds-values-a
offset_bounds-values-a c =
    Fits-under _ _ 512 (omega (arith, c.a_at-a.ensures, (fields c.requires).1, c.requires.valued.runnable.few_names)) tt

pub slice_set_of-values : goal.slice_set_of-values
slice_set_of-values c =
    omega (arith, c.a_at-a.ensures, (fields c.requires).1, c.requires.valued.named)

pub bounds-state-0 : goal.bounds-state-0
bounds-state-0 c =
    some_bytes c.requires.node

pub returns : goal.returns
returns c =
    rw c.a_at-a.ensures (local_moves c.requires)
