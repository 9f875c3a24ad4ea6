-- `operand` and `value_of`: what the word of the expression tells decides each way out.
use mathlib.Core.Path.{ap, ap₂, ◌∙◌}
use Prim.Native.Nat.{ℕ}
use native.Mathlib.Omega.{arith}
use lib.IntN.{ℤ}
use Rattle.values.specs.Values.{negation}
use Rattle.language.specs.Steps.{value}
use Rattle.values.proofs.Bits.{given_back_lem}
use Rattle.packing.specs.Packing.{operand_in, later_in}
use Rattle.program.specs.Program.{expression_of}
use Rattle.evaluation.specs.Evaluation.{applied}
use Rattle.evaluation.proofs.Evaluating.{told}
use Rattle.evaluation.proofs.+operand_value_of.Goals as goal

pub operand-returns-then-kind_in-le-REGISTER : goal.operand-returns-then-kind_in-le-REGISTER
operand-returns-then-kind_in-le-REGISTER t c =
    given_back_lem c.leaf_value.type_inv
    (c.leaf_value.ensures
    ∙ (told c.requires c.expression_at-w.ensures).leaf (omega (arith, c.kind_in.ensures, c.if-kind_in-le-REGISTER.true)))

pub value_of-returns-then-kind-le-REGISTER : goal.value_of-returns-then-kind-le-REGISTER
value_of-returns-then-kind-le-REGISTER t c =
    given_back_lem c.leaf_value.type_inv
    (c.leaf_value.ensures
    ∙ (told c.requires c.expression_at-w.ensures).leaf (omega (arith, c.kind_in-kind.ensures, c.if-kind-le-REGISTER.true)))

pub value_of-returns-then-kind-eq-NOT : goal.value_of-returns-then-kind-eq-NOT
value_of-returns-then-kind-eq-NOT t c =
    given_back_lem c.not.type_inv
    (c.not.ensures
    ∙ ap negation (given_back_lem c.operand-a.type_inv (rw c.operand_in.ensures at c.operand-a.ensures))
    ∙ (told c.requires c.expression_at-w.ensures).negated (omega (arith, c.kind_in-kind.ensures, c.if-kind-eq-NOT.true)))

pub value_of-returns : goal.value_of-returns
value_of-returns t c =
    let kind = c.kind_in-kind in
    let w = c.expression_at-w in
    let at : ℕ → ℤ = λ j. value (expression_of c.args.program.now j) c.args.values.now in
    given_back_lem c.operate.type_inv
    (c.operate.ensures
    ∙ ap₂ (applied kind.result)
    (given_back_lem c.operand-a.type_inv (rw c.operand_in.ensures at c.operand-a.ensures))
    (given_back_lem c.operand-b.type_inv (rw c.later_in.ensures at c.operand-b.ensures))
    ∙ ap (λ k. applied k (at (operand_in w.result)) (at (later_in w.result))) kind.ensures
    ∙ (told c.requires w.ensures).binary (omega (arith, kind.ensures, c.if-kind-le-REGISTER.false))
    (λ z. c.if-kind-eq-NOT.false (kind.ensures ∙ z)))
