-- Orders of levels as rows of sets.
use Rattle.std.specs.Prelude.{List, ℕ, ◌^◌, ◌≤◌, ◌<◌, get_or}
use Rattle.prelude.specs.Sets.{set_of}
use Rattle.prelude.specs.Table.{table}
use Rattle.book.specs.declared.Book.{Book}
use Rattle.book.specs.LevelBook.{most_levels, at_or_below}
use Rattle.order.specs.Order.{Relation, PartialOrder}

-- the relation that the rows of a book say
abbrev pub order_of : Book → Relation
order_of b = at_or_below b.rows

-- Rows of n levels in order: a partial order of the n levels, and no bit at n or above.
pub record InOrder (rs : List ℕ) (n : ℕ) : Type 0 where
  pub few : n ≤ most_levels
  pub inside : (i : ℕ) → i < n → get_or rs i 0 < 2 ^ n
  pub order : PartialOrder (at_or_below rs) n

-- the set of the levels that are at or below level j
unfoldable pub lower_levels : List ℕ → ℕ → ℕ → ℕ
lower_levels rs n j = set_of (λ i. at_or_below rs i j) n

-- the rows of the order of n levels upside down: row j is the set of the levels that are at or below level j
unfoldable pub converse_rows : List ℕ → ℕ → List ℕ
converse_rows rs n = table (lower_levels rs n) most_levels

-- the book of the order upside down
abbrev pub converse_of : Book → Book
converse_of b = record { count = b.count; rows = converse_rows b.rows b.count }
