-- `run`: the script is run as far as it goes in an instant, then the instant changes.
use Prim.Native.Nat.{◌-◌}
use Rattle.inputs.specs.Promises.{Cursor}
use Rattle.runner.specs.Promises.{script_at}
use Rattle.runner.proofs.Whole.{Comes}
use Rattle.runner.proofs.run.Given as goal

abbrev pub invariant-loop-r : goal.invariant-loop-r
invariant-loop-r l =
    Comes l.program l.list l.limit (script_at l.program l.initial.state l.initial.values l.initial.log l.initial.at) l.state l.values l.log l.at
    × Cursor l.list l.at.instants l.cursor

abbrev pub decreases-loop-r : goal.decreases-loop-r
decreases-loop-r l = l.limit - l.at.steps
