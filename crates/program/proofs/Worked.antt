-- The example, computed.
use mathlib.Core.Path.{refl}
use Rattle.prelude.specs.Course.{course, entry}
use Rattle.program.specs.Program.{process_of}
use Rattle.program.specs.Examples.{TwoSignals}

pub two_signals_lem : TwoSignals
unfolding process_of course entry
two_signals_lem = refl
