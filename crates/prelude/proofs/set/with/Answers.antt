-- `with`: the shifted 1 is a power of two.
use mathlib.Core.Path.{ap, ◌∙◌}
use native.Mathlib.Nat.{one-mul, le_refl}
use native.Mathlib.Omega.{arith}
use lib.Bits.{bit_or}
use lib.Pow.{shl_exact}
use Rattle.prelude.specs.Sets.{has}
use Rattle.prelude.proofs.Sets.{has_more}
use Rattle.prelude.proofs.set.with.Goals as goal

pub returns : goal.returns
returns c =
    λ y h.
    ap (λ n. has (bit_or c.args.set n) y) (shl_exact 1 c.args.x 64 (le_refl 2) (omega arith) ∙ one-mul _)
    ∙ has_more c.args.set c.args.x y
