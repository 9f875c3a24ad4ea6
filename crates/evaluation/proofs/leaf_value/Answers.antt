-- `leaf_value`: the kind decides.
use mathlib.Core.Path.{sym, ap, ◌∙◌}
use Prim.Native.Nat.{◌<◌}
use native.Mathlib.Omega.{arith}
use lib.ListN.{length}
use mir.Syntax.{w32}
use mir.Val.{to_z}
use borrow.Author.Tests.{eq-eqb, ne_eqb}
use Rattle.values.proofs.Bits.{given_back_lem}
use Rattle.language.specs.Steps.{held}
use Rattle.packing.specs.Packing.{kind_in, operand_in}
use borrow.Author.Rules.{Fits-under}
use Rattle.evaluation.proofs.leaf_value.Goals as goal
use Rattle.evaluation.proofs.leaf_value.Goals.{After-operand_in-x}

pub returns-then-kind_in-eq-CONSTANT : goal.returns-then-kind_in-eq-CONSTANT
returns-then-kind_in-eq-CONSTANT c =
    rw (eq-eqb (kind_in c.args.w) 0 (sym c.kind_in.ensures ∙ c.if-kind_in-eq-CONSTANT.true))
    (given_back_lem c.value_of_word.type_inv (c.value_of_word.ensures ∙ ap (to_z w32) c.constant_in.ensures))

pub offset_bounds-values-x : goal.offset_bounds-values-x
offset_bounds-values-x c = Fits-under _ _ 262144 (omega (arith, c.operand_in-x.ensures)) tt

-- the register has a value
inside : (c : After-operand_in-x) → operand_in c.args.w < length c.args.values.now
inside c = c.requires (omega (arith, c.kind_in.ensures, c.if-kind_in-eq-CONSTANT.false))

pub bounds-values-x : goal.bounds-values-x
bounds-values-x c = omega (arith, inside (goal.at.bounds-values-x c).After-operand_in-x, c.operand_in-x.ensures)

pub returns : goal.returns
returns c =
    rw (ne_eqb (kind_in c.args.w) 0 (λ e. c.if-kind_in-eq-CONSTANT.false (c.kind_in.ensures ∙ e)))
    (given_back_lem c.result-1.given (ap (held c.args.values.now) c.operand_in-x.ensures))
