-- `move_let`: the name is set, and the node's byte says that it is in its body.
use native.Mathlib.Omega.{arith}
use mir.Syntax.{w32}
use mir.Facts.{to_z-of_z}
use Rattle.residual.proofs.Residuals.{some_bytes}
use Rattle.moves.proofs.OwnMoves.{fields, let_moves}
use borrow.Author.Rules.{Fits-under}
use Rattle.moves.proofs.move_let.Goals as goal

pub value_of-v-requires : goal.value_of-v-requires
value_of-v-requires c =
    record {
      valued = c.requires.valued;
      known = omega (arith, c.b_at.ensures, (fields c.requires).1.1);
    }

pub offset_bounds-values-x : goal.offset_bounds-values-x
offset_bounds-values-x c =
    let few = c.requires.valued.runnable.few_names in
    Fits-under _ _ 512 (omega (arith, c.a_at-x.ensures, (fields c.requires).1.0, few)) tt

pub bounds-values-x : goal.bounds-values-x
bounds-values-x c =
    omega (arith, c.a_at-x.ensures, (fields c.requires).1.0, c.requires.valued.named)

pub bounds-state-0 : goal.bounds-state-0
bounds-state-0 c =
    some_bytes c.requires.node

pub returns : goal.returns
returns c =
    rw (to_z-of_z {w = w32} (record { sfits = c.value_of-v.type_inv }), c.value_of-v.ensures, c.b_at.ensures, c.a_at-x.ensures)
    (let_moves c.requires)
