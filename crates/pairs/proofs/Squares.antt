-- Tables as lists: one that has the same level everywhere is square, whatever its size.
use mathlib.Core.Path.{ap, ◌∙◌}
use Prim.Native.Nat.{ℕ}
use lib.ListN.{length, replicate, length-replicate, get_or-replicate}
use mathlib.Core.List.{[]}
use Rattle.pairs.specs.Table.{Square}

-- a new table is square
pub new_square : (n v : ℕ) → Square n (replicate n (replicate n v))
new_square n v =
    record {
      rows = length-replicate n (replicate n v);
      entries = λ i h. ap length (get_or-replicate n i (replicate n v) [] h) ∙ length-replicate n v;
    }
