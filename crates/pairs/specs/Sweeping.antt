-- 02 (d): "find the common upper and lower level of each pair in one sweep over the pairs i < j". What the sweep leaves, held to
-- the first k pairs, for every k, every order of n levels and all tables handed in.
use Rattle.std.specs.Prelude.{◌≡◌, Bool, cond, not, ◌&&◌, ◌||◌, List, ℕ, suc, ◌+◌, ◌*◌, ◌-◌, ◌/◌, ◌%◌, eqb, ltb, Option, Some, None}
use Rattle.prelude.specs.Search.{total, lesser}
use Rattle.order.specs.Order.{Relation, least_upper, greatest_lower}
use Rattle.book.specs.LevelBook.{most_levels}
use Rattle.pairs.specs.declared.Swept.{Swept}
use Rattle.pairs.specs.declared.table.Tables.{Tables}
use Rattle.pairs.specs.Refusals.{first_lacking}
use Rattle.pairs.specs.Table.{kept}

-- "n(n − 1)/2": the number of pairs i < j of n levels
abbrev pub level_pairs : ℕ → ℕ
level_pairs n = n * (n - 1) / 2

-- The pairs are numbered from 0 in the order of refusal 3: first by i, then by j. Level a is the smaller one of n - 1 - a pairs;
-- before the pair of i and j come those of each level below i, and those of i with the levels before j.
unfoldable pub pair_number : ℕ → ℕ → ℕ → ℕ
pair_number n i j = total (λ a. n - suc a) i + (j - suc i)

-- the pair of i and j lacks its upper or its lower level
abbrev pub lacks_one : Relation → ℕ → ℕ → ℕ → Bool
lacks_one R n i j = eqb (least_upper R n i j) n || eqb (greatest_lower R n i j) n

-- the number of the pair that refusal 3 names
abbrev pub refused_number : Relation → ℕ → ℕ
refused_number R n = pair_number n (first_lacking R n / most_levels) (first_lacking R n % most_levels)

-- the pair that refusal 3 names is one of the first k
abbrev pub is_refused : Relation → ℕ → ℕ → Bool
is_refused R n k = ltb (first_lacking R n) (most_levels * most_levels) && ltb (refused_number R n) k

-- "the number taken up: the lesser of k and n(n − 1)/2, or at refusal 3 those before the refused pair and one more"
abbrev pub taken_up : Relation → ℕ → ℕ → ℕ
taken_up R n k = cond (is_refused R n k) (refused_number R n + 1) (lesser k (level_pairs n))

-- the place of refusal 3, if it is that of one of the first k
abbrev pub place_within : Relation → ℕ → ℕ → Option ℕ
place_within R n k = cond (is_refused R n k) (Some (first_lacking R n)) None

-- "finds both levels of each it takes up that has them": i < j are such a pair
abbrev pub is_found : Relation → ℕ → ℕ → ℕ → ℕ → Bool
is_found R n k i j = ltb i j && (ltb j n && (ltb (pair_number n i j) (taken_up R n k) && not (lacks_one R n i j)))

-- what a table keeps after the sweep: at both entries of each such pair its level; "the entries of all other pairs", and each
-- level's own, "as handed in"
abbrev pub kept_after : Relation → ℕ → ℕ → (ℕ → ℕ → ℕ) → List (List ℕ) → ℕ → ℕ → ℕ
kept_after R n k level t i j = cond (is_found R n k i j || is_found R n k j i) (level i j) (kept t i j)

-- The sweep, with the tables as handed in and as left: an equation for the number, the place and each entry.
pub record Sweeps (R : Relation) (n k : ℕ) (t t' : Tables) (r : Swept) : Type 0 where
  pub taken : r.taken ≡ taken_up R n k
  pub place : r.place ≡ place_within R n k
  pub joins : (i j : ℕ) → kept t'.join i j ≡ kept_after R n k (least_upper R n) t.join i j
  pub meets : (i j : ℕ) → kept t'.meet i j ≡ kept_after R n k (greatest_lower R n) t.meet i j
