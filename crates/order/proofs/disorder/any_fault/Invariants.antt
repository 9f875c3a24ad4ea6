-- `any_fault`: of the levels that are left out, none shows a fault.
use mathlib.Core.Path.{◌≡◌}
use mathlib.Core.Bool.{◌&&◌}
use mathlib.Core.List.{List}
use Prim.Native.Nat.{ℕ, ◌^◌, ◌<◌}
use lib.ListN.{get_or}
use Rattle.prelude.specs.Sets.{has, outside}
use Rattle.order.proofs.disorder.any_fault.Given as goal

-- what of the levels in a set shows a fault is what all the others show
abbrev pub Left : List ℕ → ℕ → ℕ → ℕ → Type 0
Left rows n others left =
    (j : ℕ) →
    (has left j && outside (get_or rows j 0) others n) ≡ (has others j && outside (get_or rows j 0) others n)

abbrev pub invariant-loop-left : goal.invariant-loop-left
invariant-loop-left l = (l.left < 2 ^ l.b.count) × Left l.b.rows l.b.count l.others l.left

abbrev pub decreases-loop-left : goal.decreases-loop-left
decreases-loop-left l = l.left
