-- Rows of the table of refusals, one after the other: when they pass.
use mathlib.Core.Path.{◌≡◌, sym, ◌∙◌}
use mathlib.Core.Bool.{false, cond}
use Prim.Native.Nat.{ℕ, ◌≤◌}
use native.Mathlib.Decide.{dec_lt}
use native.Mathlib.Omega.{arith}
use lib.Dec.{eqb, ltb}
use borrow.Author.Tests.{eq-eqb, ne_eqb, lt-ltb, le-ltb}
use Rattle.prelude.specs.Refusals.{refused_by, not_refused, passes}

-- a row of the table passes where no fault is found
module _ (number place : ℕ) (refuses : passes (refused_by number place) ≡ false) where
  pub found_passes : (first n : ℕ) → first ≤ n → passes (cond (ltb first n) (refused_by number place) not_refused) ≡ eqb first n
  found_passes first n h =
      elim (dec_lt first n) [
        | yes l ↦ rw (lt-ltb first n l) (refuses ∙ sym (ne_eqb first n (λ e. omega arith)))
        | no l ↦ rw (le-ltb first n (omega arith)) (sym (eq-eqb first n (omega arith)))
      ]
