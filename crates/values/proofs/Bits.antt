-- Signed values and the bits that hold them.
use Rattle.std.proofs.lemmas.Grind.{common_steps}
use mathlib.Core.Path.{◌≡◌, ◌∙◌}
use mathlib.Core.Bool.{not}
use Prim.Native.Nat.{zero, suc, ◌^◌, ◌<◌}
use native.Mathlib.Omega.{arith}
use lib.Dec.{eqb}
use lib.IntN.{ℤ, pos, negsuc}
use lib.Signed.{mag}
use mir.Syntax.{w32}
use mir.Val.{hbits, of_z}
use mir.Facts.{to_z-of_z}
use Rattle.values.specs.Values.{holds}
use Rattle.values.proofs.Signed.{read_back}

-- a signed value that a call gave, as it is read back
pub given_back_lem : {r z : ℤ} → mag r < 2 ^ hbits w32 → r ≡ z → read_back w32 r ≡ z
given_back_lem h e = to_z-of_z {w = w32} (record { sfits = h }) ∙ e

-- the machine's test of a value, which is one of its bits
pub test_by_bits : (z : ℤ) → mag z < 2 ^ hbits w32 → not (eqb (of_z w32 z) 0) ≡ holds z
test_by_bits (pos zero) h = grind (arith, common_steps)
test_by_bits (pos (suc n)) h = grind (arith, common_steps)
test_by_bits (negsuc n) h = grind (arith, common_steps)
