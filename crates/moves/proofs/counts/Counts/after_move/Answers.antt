-- `after_move`: one step more.
use mathlib.Core.Path.{ap}
use native.Mathlib.Numerals.{add-one}
use Rattle.moves.proofs.counts.Counts.after_move.Goals as goal

pub returns : goal.returns
returns c =
    ap (λ n. record { steps = n; instants = c.args.self.instants; lines = c.args.lines }) (add-one c.args.self.steps)
