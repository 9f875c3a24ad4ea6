-- 01, the table of refusals, rows 1 and 2.
use Rattle.std.specs.Prelude.{Bool, cond, not, ◌||◌, List, ℕ, ◌/◌, ◌^◌, ltb, get_or}
use Rattle.prelude.specs.declared.Refusal.{Refusal}
use Rattle.prelude.specs.Refusals.{refused_by, not_refused}
use Rattle.prelude.specs.Search.{first, any}
use Rattle.order.specs.Order.{Relation, shows_fault}
use Rattle.book.specs.LevelBook.{count, size_is_right, rows, at_or_below}

-- row 2: "some level i lacks its own bit, has a bit at n or above, holds both ways with another,
-- or is at or below j, j at or below k, but i is not at or below k"
unfoldable pub is_faulty : List ℕ → ℕ → ℕ → Bool
is_faulty rs n i =
    let R : Relation = at_or_below rs in
    not (R i i) || (ltb 0 (get_or rs i 0 / 2 ^ n) || any (shows_fault R n i) n)

-- "smallest such i", or n
unfoldable pub first_faulty : List ℕ → ℕ → ℕ
first_faulty rs n = first (is_faulty rs n) n

-- "The lowest number that applies is given": of 1 and 2
unfoldable pub refusal : List ℕ → Refusal
refusal s =
    let n : ℕ = count s in
    let faulty : ℕ = first_faulty (rows s) n in
    cond (not (size_is_right s)) (refused_by 1 0)
    (cond (ltb faulty n) (refused_by 2 faulty)
    not_refused)
