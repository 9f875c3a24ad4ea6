-- `clear_signals`: the signals are 0, which is absent.
use Rattle.std.proofs.Common.{rules}
use Rattle.language.specs.Steps.{instant_start}
use Rattle.program.specs.Program.{names_of}
use Rattle.instants.proofs.clear_signals.Goals as goal

pub returns : goal.returns
unfolding instant_start
returns c = c.clear.ensures (names_of c.args.program.now).is_signal (λ k l b p. search rules)
