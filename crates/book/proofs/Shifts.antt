-- A shifted 1 is a power of two.
use mathlib.Core.Path.{◌≡◌, ◌∙◌}
use Prim.Native.Nat.{ℕ, ◌*◌, ◌%◌, ◌^◌, ◌<◌}
use native.Mathlib.Nat.{one-mul, le_refl}
use native.Mathlib.Omega.{arith}
use lib.Pow.{shl_exact}
use Rattle.book.specs.LevelBook.{most_levels}

pub shifted_one : (j : ℕ) → j < most_levels → 1 * 2 ^ j % 2 ^ most_levels ≡ 2 ^ j
shifted_one j h = shl_exact 1 j most_levels (le_refl 2) (omega arith) ∙ one-mul _
