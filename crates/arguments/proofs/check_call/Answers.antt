-- `check_call`: each way out decides one test of the definition.
use mathlib.Core.Path.{refl, sym, ◌∙◌}
use native.Mathlib.Omega.{arith}
use borrow.Author.Tests.{lt-ltb, le-ltb}
use Rattle.std.proofs.lemmas.Result.{err_from_is_err_and}
use Rattle.prelude.proofs.Outcomes.{outcome_next, outcome_first}
use Rattle.arguments.specs.Refusals.{call_refusal}
use Rattle.arguments.proofs.check_call.Goals as goal

pub returns-then-levels-reader : goal.returns-then-levels-reader
unfolding call_refusal
returns-then-levels-reader c = rw (c.at.ensures, le-ltb c.args.reader c.args.levels (omega (arith, c.if-levels-reader.true))) refl

pub returns-in_err-check_values : goal.returns-in_err-check_values
unfolding call_refusal
returns-in_err-check_values c =
    let p = err_from_is_err_and c.from_residual.result c.from_residual.ensures.1 in
    rw (p.1, p.2, lt-ltb _ _ c.if-levels-reader.false) (sym (outcome_first _ _ _ _ (sym c.in_err-check_values.ensures)))

pub returns-then-limit-gt-MAX_STEPS : goal.returns-then-limit-gt-MAX_STEPS
unfolding call_refusal
returns-then-limit-gt-MAX_STEPS c =
    rw (
      c.at-then-limit-gt-MAX_STEPS.ensures,
      lt-ltb _ _ c.if-levels-reader.false,
      outcome_next _ _ (tt {0}) _ (sym c.in_ok-check_values.ensures),
      lt-ltb _ _ c.if-limit-gt-MAX_STEPS.true,
    ) refl

pub returns : goal.returns
unfolding call_refusal
returns c =
    rw (
      c.check_list.ensures,
      lt-ltb _ _ c.if-levels-reader.false,
      outcome_next _ _ (tt {0}) _ (sym c.in_ok-check_values.ensures),
      le-ltb _ _ c.if-limit-gt-MAX_STEPS.false,
    ) refl
