-- `flows`: by whether the file is refused.
use mathlib.Core.Path.{◌≡◌, refl, sym, ap, ◌∙◌}
use Rattle.requirements.specs.Flows.{flows_of}
use Rattle.results.specs.Results.{refused_flows}
use Rattle.engine.specs.Answers.{flows_found}
use Rattle.engine.proofs.Passing.{file_passed}
use Rattle.engine.proofs.flows.Goals as goal

pub returns-in-Ok : goal.returns-in-Ok
unfolding flows_found
returns-in-Ok c =
    let h = c.in-Ok.ensures.answers in
    rw (c.find_flows.ensures, h.1, h.0, file_passed c.args.script.now h.0) refl

pub returns-in-Err : goal.returns-in-Err
unfolding flows_found
returns-in-Err c = let h = c.in-Err.ensures.answers in c.from.ensures ∙ ap refused_flows h.1 ∙ sym (rw h.0 refl)
