-- `check`: each way out goes past the searches that found no fault.
use mathlib.Core.Path.{sym}
use Rattle.prelude.specs.Refusals.{refused_by}
use Rattle.prelude.proofs.Found.{given_found, given_nothing}
use Rattle.entries.specs.Faults.{fault_refusal}
use Rattle.entries.proofs.check.Goals as goal

pub returns-in-Some : goal.returns-in-Some
unfolding fault_refusal
returns-in-Some c = rw (given_found _ _ (refused_by 6) _ (sym c.in-Some.ensures), c.at.ensures)

pub returns-in-Some-first_wrong_expression : goal.returns-in-Some-first_wrong_expression
unfolding fault_refusal
returns-in-Some-first_wrong_expression c =
    rw (
      given_nothing _ _ (refused_by 6) _ (sym c.in_default.ensures),
      given_found _ _ (refused_by 7) _ (sym c.in-Some-first_wrong_expression.ensures),
      c.at-in-Some-first_wrong_expression.ensures,
    )

pub returns-in-Some-first_wrong_node : goal.returns-in-Some-first_wrong_node
unfolding fault_refusal
returns-in-Some-first_wrong_node c =
    rw (
      given_nothing _ _ (refused_by 6) _ (sym c.in_default.ensures),
      given_nothing _ _ (refused_by 7) _ (sym c.in_default-first_wrong_expression.ensures),
      given_found _ _ (refused_by 8) _ (sym c.in-Some-first_wrong_node.ensures),
      c.at-in-Some-first_wrong_node.ensures,
    )

pub returns : goal.returns
unfolding fault_refusal
returns c =
    rw (
      given_nothing _ _ (refused_by 6) _ (sym c.in_default.ensures),
      given_nothing _ _ (refused_by 7) _ (sym c.in_default-first_wrong_expression.ensures),
      given_nothing _ _ (refused_by 8) _ (sym c.in_default-first_wrong_node.ensures),
    )
