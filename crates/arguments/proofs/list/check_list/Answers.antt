-- `check_list`: the first pair at fault, if there is one.
use mathlib.Core.Path.{refl, sym, ◌∙◌}
use Rattle.prelude.specs.Search.{lesser}
use Rattle.prelude.specs.Refusals.{refused_by, not_refused}
use Rattle.prelude.specs.Promises.{found}
use Rattle.prelude.proofs.Found.{given_found, given_nothing}
use Rattle.arguments.specs.Refusals.{last_place, list_refusal}
use Rattle.arguments.proofs.list.check_list.Goals as goal

pub returns-in-Some : goal.returns-in-Some
unfolding list_refusal
returns-in-Some c =
    rw (
      c.at.ensures,
      c.place_of.ensures,
      given_found _ _ (λ k. refused_by 15 (lesser k last_place)) not_refused (sym c.first_faulty.ensures ∙ c.in-Some.is),
    ) refl

pub returns-in-None : goal.returns-in-None
unfolding list_refusal
returns-in-None c =
    rw (given_nothing _ _ (λ k. refused_by 15 (lesser k last_place)) not_refused (sym c.first_faulty.ensures ∙ c.in-None.is)) refl
