-- What the functions of a sweep answer and keep: no part of what is promised.
use Rattle.std.specs.Prelude.{◌≡◌, Bool, true, false, cond, ◌&&◌, ◌||◌, List, ℕ, ◌+◌, ◌*◌, ◌<◌, ltb, Option, Some, None, MatchOption}
use Rattle.std.specs.Option.{unwrap_or}
use Rattle.prelude.specs.Search.{lesser}
use Rattle.prelude.specs.declared.Refusal.{Refusal}
use Rattle.order.specs.Order.{Relation, least_upper, greatest_lower}
use Rattle.order.specs.Rows.{order_of}
use Rattle.book.specs.declared.Book.{Book}
use Rattle.book.specs.LevelBook.{most_levels}
use Rattle.pairs.specs.declared.Swept.{Swept}
use Rattle.pairs.specs.declared.table.Tables.{Tables}
use Rattle.pairs.specs.Refusals.{first_lacking, lack_refusal}
use Rattle.pairs.specs.Sweeping.{pair_number, lacks_one, Sweeps}
use Rattle.pairs.specs.Table.{kept, Keeps}

-- the least common upper level of i and j, if they have one
abbrev pub found_upper : Relation → ℕ → ℕ → ℕ → Option ℕ
found_upper R n i j = cond (ltb (least_upper R n i j) n) (Some (least_upper R n i j)) None

-- u is the upper level of i and j, and l the lower one
pub record BothLevels (R : Relation) (n i j u l : ℕ) : Type 0 where
  pub upper : u ≡ least_upper R n i j
  pub lower : l ≡ greatest_lower R n i j
  pub upper_within : u < n
  pub lower_within : l < n

-- i and j have u and l in a book
abbrev pub HasBoth : Book → ℕ → ℕ → ℕ → ℕ → Type 0
HasBoth b = BothLevels (order_of b) b.count

-- they lack one
abbrev pub LacksOne : Book → ℕ → ℕ → Type 0
LacksOne b i j = lacks_one (order_of b) b.count i j ≡ true

-- i < j are one of the first m pairs of n levels
abbrev pub is_taken : ℕ → ℕ → ℕ → ℕ → Bool
is_taken n m i j = ltb i j && (ltb j n && ltb (pair_number n i j) m)

-- of the first m pairs the level, at both entries; every other entry is as handed in
abbrev pub entry : ℕ → ℕ → (ℕ → ℕ → ℕ) → List (List ℕ) → ℕ → ℕ → ℕ
entry n m level handed a b = cond (is_taken n m a b || is_taken n m b a) (level a b) (kept handed a b)

-- what holds when the first m pairs are taken up: none of them lacks a level, and both tables have theirs
pub record Upto (R : Relation) (n m : ℕ) (t t' : Tables) : Type 0 where
  pub complete : (a b : ℕ) → is_taken n m a b ≡ true → lacks_one R n a b ≡ false
  pub joins : (a b : ℕ) → kept t'.join a b ≡ entry n m (least_upper R n) t.join a b
  pub meets : (a b : ℕ) → kept t'.meet a b ≡ entry n m (greatest_lower R n) t.meet a b

-- how many of the first k pairs there are before the pair of i and j
abbrev pub taken_before : ℕ → ℕ → ℕ → ℕ → ℕ
taken_before n k i j = lesser k (pair_number n i j)

-- What a sweep of the first k pairs has done when the pairs of level i are taken up: all those before the next level's, or it
-- has ended at a pair that lacks a level.
abbrev pub SweptLevel : Relation → ℕ → ℕ → ℕ → Tables → Tables → Swept → Type 0
SweptLevel R n k i t t' r =
    MatchOption
    r.place
    ((r.taken ≡ taken_before n k (i + 1) (i + 1 + 1)) × Upto R n r.taken t t')
    (λ _. Sweeps R n k t t' r)

-- the pairs of level i, from tables in which those of the first m pairs are
abbrev pub SweepsLevel : Book → ℕ → ℕ → ℕ → Tables → Tables → Swept → Type 0
SweepsLevel b k i m t t' r =
    (handed : Tables) → Upto (order_of b) b.count m handed t → SweptLevel (order_of b) b.count k i handed t' r

-- the tables keep both levels of every pair of a book
pub record KeepsAll (b : Book) (t : Tables) : Type 0 where
  pub joins : Keeps t.join b.count (least_upper (order_of b) b.count)
  pub meets : Keeps t.meet b.count (greatest_lower (order_of b) b.count)

-- row 3, of a book
abbrev pub pair_refusal : Book → Refusal
pair_refusal b = lack_refusal (first_lacking (order_of b) b.count)

-- the place that a sweep gives, or 256 where it gives none
abbrev pub place_or_end : Option ℕ → ℕ
place_or_end place = unwrap_or place (most_levels * most_levels)
