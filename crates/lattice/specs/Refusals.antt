-- 01, the table of refusals, rows 1 to 3.
use Rattle.std.specs.Prelude.{Bool, List, ℕ}
use Rattle.prelude.specs.declared.Refusal.{Refusal}
use Rattle.prelude.specs.Refusals.{passes, or_else}
use Rattle.book.specs.LevelBook.{count, rows, at_or_below}
use Rattle.order.specs.Refusals as orders
use Rattle.pairs.specs.Refusals.{first_lacking, lack_refusal}

-- "The lowest number that applies is given": 1 and 2, then 3
unfoldable pub refusal : List ℕ → Refusal
refusal s = or_else (orders.refusal s) (lack_refusal (first_lacking (at_or_below (rows s)) (count s)))

-- the book passes
abbrev pub is_accepted : List ℕ → Bool
is_accepted s = passes (refusal s)
