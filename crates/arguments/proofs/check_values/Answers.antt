-- `check_values`: each way out decides one test of the definition.
use mathlib.Core.Path.{◌≡◌, refl, sym, ap, ◌∙◌}
use mathlib.Core.Bool.{true, not}
use native.Mathlib.Omega.{arith}
use lib.Dec.{eqb}
use lib.ListN.{length}
use borrow.Author.Tests.{eq-eqb, ne_eqb}
use Rattle.std.proofs.Common.{Option}
use Rattle.prelude.specs.Refusals.{refused_by, not_refused}
use Rattle.prelude.specs.Promises.{found}
use Rattle.prelude.proofs.Found.{found_some, given_found, given_nothing}
use Rattle.layout.specs.Layout.{name_count}
use Rattle.layout.proofs.Layouts.{few_bounds, names_are}
use Rattle.arguments.specs.Refusals.{value_is_right, values_refusal}
use Rattle.arguments.proofs.check_values.Goals as goal
use Rattle.arguments.proofs.check_values.Goals.{After-first_wrong}

-- what was found, by the definition
searched :
    (c : After-first_wrong) →
    c.first_wrong.result ≡ found (λ x. not (value_is_right c.args.file.now.bytes.now c.args.values.now x)) (name_count c.args.file.now.bytes.now)
searched c = c.first_wrong.ensures ∙ ap (found _) (names_are c.args.file.now.laid)

-- each name has a value
counted : (c : After-first_wrong) → eqb (length c.args.values.now) (name_count c.args.file.now.bytes.now) ≡ true
counted c = eq-eqb _ _ (c.if-values-file.false ∙ names_are c.args.file.now.laid)

pub returns-then-values-file : goal.returns-then-values-file
unfolding values_refusal
returns-then-values-file c =
    rw (c.at.ensures, ne_eqb _ _ (λ e. c.if-values-file.true (e ∙ sym (names_are c.args.file.now.laid)))) refl

pub at-requires-in-Some : goal.at-requires-in-Some
at-requires-in-Some c =
    omega (arith, (found_some _ _ (sym c.first_wrong.ensures ∙ c.in-Some.is)).0, (few_bounds c.args.file.now.layout c.args.file.now.laid.few).0)

pub returns-in-Some : goal.returns-in-Some
unfolding values_refusal
returns-in-Some c =
    let a = (goal.at.returns-in-Some c).After-first_wrong in
    rw (c.at-in-Some.ensures, counted a, given_found _ _ (refused_by 13) not_refused (sym (searched a) ∙ c.in-Some.is)) refl

pub returns-in-None : goal.returns-in-None
unfolding values_refusal
returns-in-None c =
    let a = (goal.at.returns-in-None c).After-first_wrong in
    rw (counted a, given_nothing _ _ (refused_by 13) not_refused (sym (searched a) ∙ c.in-None.is)) refl
