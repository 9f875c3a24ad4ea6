-- How long a suspended script stays as it is, by where the cursor stands.
use mathlib.Core.Path.{◌≡◌}
use mathlib.Core.Bool.{false}
use mathlib.Core.List.{List}
use Prim.Native.Nat.{ℕ, ◌+◌, ◌≤◌, ◌<◌}
use native.Mathlib.Omega.{arith}
use lib.IntN.{ℤ}
use Rattle.program.specs.Program.{names_of}
use Rattle.inputs.specs.Lists.{instant_at}
use Rattle.inputs.proofs.Lists.{cursor_later, rising_from}
use Rattle.instants.specs.Promises.{some_signal_present}
use Rattle.moves.specs.declared.counts.Counts.{Counts}
use Rattle.runner.specs.Promises.{CanIdle, Idles}

module _ {words : List ℕ} {values : List ℤ} {list : List ℕ} {c limit : ℕ} {at : Counts}
    (can : CanIdle words values list c limit at) where
  module _ (none : some_signal_present (names_of words) values ≡ false) (n : ℕ) (time : at.steps + n ≤ limit) where
    -- to the instant before the pair that is next
    pub waits_ahead : at.instants + n < instant_at list c → Idles words values list c limit at n
    waits_ahead a =
        record {
          time = time;
          absent = λ l. none;
          cursor =
              cursor_later can.cursor (omega arith) (λ k l h. omega (arith, rising_from list can.rising c k l h, a));
        }
