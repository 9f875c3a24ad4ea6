-- `any_outside`: two sets agree below n just if their remainders by a power of two do.
use mathlib.Core.Path.{◌≡◌, ◌∙◌}
use Prim.Native.Nat.{ℕ, ◌*◌, ◌%◌, ◌^◌, ◌≤◌}
use native.Mathlib.Nat.{one-mul, le_refl}
use native.Mathlib.Omega.{arith}
use lib.Pow.{shl_exact}
use Rattle.prelude.proofs.Sets.{some_outside}
use Rattle.book.specs.LevelBook.{most_levels}
use Rattle.book.proofs.sets.any_outside.Goals as goal

-- the shifted 1
end_is : (n : ℕ) → n ≤ most_levels → 1 * 2 ^ n % 2 ^ 32 ≡ 2 ^ n
end_is n h = shl_exact 1 n 32 (le_refl 2) (omega arith) ∙ one-mul _

pub returns : goal.returns
returns c =
    rw (end_is c.args.n c.requires, c.from-all.ensures, c.from.ensures) (some_outside c.args.set c.args.other c.args.n)
