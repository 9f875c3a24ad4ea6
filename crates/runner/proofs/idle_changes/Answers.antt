-- `idle_changes`: where a signal is present none; else up to the pair at the cursor, or to the limit.
use mathlib.Core.Path.{sym, ◌∙◌}
use Prim.Native.Nat.{◌<◌}
use native.Mathlib.Nat.{le_refl}
use native.Mathlib.Omega.{arith}
use Rattle.runner.proofs.Waiting.{waits_ahead}
use Rattle.runner.proofs.idle_changes.Goals as goal
use Rattle.runner.proofs.idle_changes.Goals.{After-instant_at}

-- the pair at the cursor is of a later instant
later : (c : After-instant_at) → c.args.at.instants < c.instant_at.result
later c = omega (arith, c.instant_at.ensures, c.requires.cursor.ahead _ (le_refl _) (omega (arith, c.pair_count.ensures, c.if-pair_count-cursor.false)))

pub returns : goal.returns
returns c =
    waits_ahead c.requires (sym c.some_signal_present.ensures ∙ c.if-some_signal_present.false) _
    (omega (arith, c.requires.time, c.min.ensures))
    (omega (arith, later (goal.at.returns c).After-instant_at, c.instant_at.ensures, c.min.ensures))
