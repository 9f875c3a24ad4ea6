-- `signal_is_present`: field a, as the word of the node tells it.
use mathlib.Core.Path.{ap, ◌∙◌}
use native.Mathlib.Omega.{arith}
use Rattle.language.specs.Steps.{present}
use Rattle.evaluation.proofs.signal_is_present.Goals as goal

pub is_present-requires : goal.is_present-requires
is_present-requires c = omega (arith, c.a_at.ensures)

pub returns : goal.returns
returns c = c.is_present.ensures ∙ ap (present c.args.values.now) c.a_at.ensures
