-- 01, the table of refusals, row 3.
use Rattle.std.specs.Prelude.{Bool, cond, ◌&&◌, ◌||◌, ℕ, ◌*◌, ◌/◌, ◌%◌, eqb, ltb}
use Rattle.prelude.specs.declared.Refusal.{Refusal}
use Rattle.prelude.specs.Refusals.{refused_by, not_refused}
use Rattle.prelude.specs.Search.{first}
use Rattle.order.specs.Order.{Relation, converse, least_upper}
use Rattle.book.specs.LevelBook.{most_levels}

-- "a pair i < j lacks one", at the place 16 i + j
abbrev pub lacks_upper : Relation → ℕ → ℕ → Bool
lacks_upper R n p =
    let i : ℕ = p / most_levels in
    let j : ℕ = p % most_levels in
    ltb i j && (ltb j n && eqb (least_upper R n i j) n)

-- the first place of a pair that lacks a least common upper or a greatest common lower level, or 256;
-- the smallest place is the first by i, then by j
unfoldable pub first_lacking : Relation → ℕ → ℕ
first_lacking R n = first (λ p. lacks_upper R n p || lacks_upper (converse R) n p) (most_levels * most_levels)

-- row 3, of what is found at this place
abbrev pub lack_refusal : ℕ → Refusal
lack_refusal place = cond (ltb place (most_levels * most_levels)) (refused_by 3 place) not_refused
