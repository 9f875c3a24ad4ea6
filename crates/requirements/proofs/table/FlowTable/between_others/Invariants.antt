-- `between_others`: the sets below i are done.
use mathlib.Core.Path.{◌≡◌}
use mathlib.Core.Bool.{not, ◌&&◌}
use mathlib.Core.List.{List}
use Prim.Native.Nat.{ℕ}
use lib.Dec.{eqb}
use lib.ListN.{get_or, length, take}
use Rattle.prelude.specs.Sets.{has, set_of}
use Rattle.prelude.specs.Table.{table}
use Rattle.book.specs.LevelBook.{most_levels}
use Rattle.requirements.proofs.table.FlowTable.between_others.Given as goal

-- the set of level i, without i
abbrev pub others_of : List ℕ → ℕ → ℕ
others_of flows i = set_of (λ j. not (eqb i j) && has (get_or flows i 0) j) most_levels

abbrev pub invariant-loop-i : goal.invariant-loop-i
invariant-loop-i l = (length l.between ≡ most_levels) × (take l.i l.between ≡ table (others_of l.self.sets) l.i)
