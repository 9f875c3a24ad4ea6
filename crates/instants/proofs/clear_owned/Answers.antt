-- `clear_owned`: the names that are not the session's are 0.
use Rattle.std.proofs.Common.{rules, ◌∙◌, not}
use Rattle.language.specs.Calls.{given_back}
use Rattle.program.specs.Program.{names_of}
use Rattle.instants.proofs.Clearing.{cond_not}
use Rattle.instants.proofs.clear_owned.Goals as goal

pub returns : goal.returns
unfolding given_back
returns c =
    c.clear.ensures (λ x. not ((names_of c.args.program.now).is_session x)) (λ k l b p. search rules) ∙ simp cond_not
