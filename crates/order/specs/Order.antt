-- Levels 0 to n - 1 under a relation R, for any n: R i j says that level i is at or below level j.
-- 'At or below' is always this relation, never the order of the numbers.
use Rattle.std.specs.Prelude.{◌≡◌, Bool, true, not, ◌&&◌, ◌||◌, ℕ, ◌<◌, eqb}
use Rattle.prelude.specs.Search.{first, any, all}

abbrev pub Relation : Type 0
Relation = ℕ → ℕ → Bool

-- the order upside down
abbrev pub converse : Relation → Relation
converse R i j = R j i

-- i and j are two levels, each at or below the other
abbrev pub both_ways : Relation → ℕ → ℕ → Bool
both_ways R i j = not (eqb i j) && (R i j && R j i)

-- i is at or below j, and j at or below k, but i is not at or below k
abbrev pub gap : Relation → ℕ → ℕ → ℕ → Bool
gap R i j k = R i j && (R j k && not (R i k))

-- what level j shows against level i
abbrev pub shows_fault : Relation → ℕ → ℕ → ℕ → Bool
shows_fault R n i j = both_ways R i j || any (gap R i j) n

-- m is a common upper level of i and j, and k is not at or below it
abbrev pub missed : Relation → ℕ → ℕ → ℕ → ℕ → Bool
missed R i j k m = R i m && (R j m && not (R k m))

-- k is the least common upper level of i and j: one of them, and at or below each
abbrev pub is_least_upper : Relation → ℕ → ℕ → ℕ → ℕ → Bool
is_least_upper R n i j k = R i k && (R j k && not (any (missed R i j k) n))

-- the least common upper level of i and j, or n where they have none
unfoldable pub least_upper : Relation → ℕ → ℕ → ℕ → ℕ
least_upper R n i j = first (is_least_upper R n i j) n

-- the greatest common lower level is the least common upper level of the order upside down
abbrev pub greatest_lower : Relation → ℕ → ℕ → ℕ → ℕ
greatest_lower R n i j = least_upper (converse R) n i j

-- "The least level of all is called bottom, the greatest top": the level that every level is at or below, or n
unfoldable pub top : Relation → ℕ → ℕ
top R n = first (λ t. all (λ i. R i t) n) n

abbrev pub bottom : Relation → ℕ → ℕ
bottom R n = top (converse R) n

-- The laws of a lattice of n levels.
pub record PartialOrder (R : Relation) (n : ℕ) : Type 0 where
  pub reflexive : (i : ℕ) → i < n → R i i ≡ true
  pub antisymmetric : (i j : ℕ) → i < n → j < n → R i j ≡ true → R j i ≡ true → i ≡ j
  pub transitive : (i j k : ℕ) → i < n → j < n → k < n → R i j ≡ true → R j k ≡ true → R i k ≡ true

pub record LeastUppers (R : Relation) (n : ℕ) (join : ℕ → ℕ → ℕ) : Type 0 where
  pub within : (i j : ℕ) → i < n → j < n → join i j < n
  pub left : (i j : ℕ) → i < n → j < n → R i (join i j) ≡ true
  pub right : (i j : ℕ) → i < n → j < n → R j (join i j) ≡ true
  pub least : (i j k : ℕ) → i < n → j < n → k < n → R i k ≡ true → R j k ≡ true → R (join i j) k ≡ true

pub record Greatest (R : Relation) (n t : ℕ) : Type 0 where
  pub within : t < n
  pub above : (i : ℕ) → i < n → R i t ≡ true

-- A book that passes refusals 1 to 3 has all of them.
pub record LevelLattice (R : Relation) (n : ℕ) : Type 0 where
  pub order : PartialOrder R n
  pub joins : LeastUppers R n (least_upper R n)
  pub meets : LeastUppers (converse R) n (greatest_lower R n)
  pub greatest : Greatest R n (top R n)
  pub least : Greatest (converse R) n (bottom R n)
