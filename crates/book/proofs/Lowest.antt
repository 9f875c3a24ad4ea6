-- The smallest level of a set that is not empty: it is in the set, and without it the set is a smaller number.
use mathlib.Core.Path.{◌≡◌, ap, ◌∙◌}
use mathlib.Core.Bool.{true}
use Prim.Native.Nat.{ℕ, ◌-◌, ◌^◌, ◌<◌, ◌≤◌}
use native.Mathlib.Omega.{arith}
use lib.Pow.{pow_pos}
use Rattle.prelude.specs.Search.{first}
use Rattle.prelude.specs.Sets.{has}
use Rattle.prelude.proofs.Searches.{first_holds}
use Rattle.prelude.proofs.Sets.{smallest_below, smallest_same, out_le}
use Rattle.book.specs.LevelBook.{most_levels}

module _ (left n j : ℕ) (few : n ≤ most_levels) (below : left < 2 ^ n) (some : left ≡ 0 → ⊥) (e : j ≡ first (has left) most_levels) where
  next_is : j ≡ first (has left) n
  next_is = e ∙ smallest_same left n below some most_levels few

  pub next_below : j < n
  next_below = omega (arith, next_is, smallest_below left n below some)

  pub next_in : has left j ≡ true
  next_in = ap (has left) next_is ∙ first_holds (has left) n (smallest_below left n below some)

pub next_less : (left j : ℕ) → has left j ≡ true → left - 2 ^ j < left
next_less left j own = omega (arith, out_le left j own, pow_pos j)
