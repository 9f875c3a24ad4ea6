-- 01, 'Level book': "Both are found once and kept for every pair of levels."
use Rattle.std.specs.Prelude.{◌≡◌, Bool, cond, ◌&&◌, ◌||◌, List, [], ℕ, ◌<◌, eqb, get_or, set, length}

-- what a table keeps for the pair of i and j
abbrev pub kept : List (List ℕ) → ℕ → ℕ → ℕ
kept t i j = get_or (get_or t i []) j 0

-- n rows of n entries each
pub record Square (n : ℕ) (t : List (List ℕ)) : Type 0 where
  pub rows : length t ≡ n
  pub entries : (i : ℕ) → i < n → length (get_or t i []) ≡ n

-- the table keeps f for every pair of the n levels
abbrev pub Keeps : List (List ℕ) → ℕ → (ℕ → ℕ → ℕ) → Type 0
Keeps t n f = (i j : ℕ) → i < n → j < n → kept t i j ≡ f i j

-- the table after `t[i][j] = v`
abbrev pub put : List (List ℕ) → ℕ → ℕ → ℕ → List (List ℕ)
put t i j v = set t i (set (get_or t i []) j v)

-- a level kept at both entries of a pair
abbrev pub stored : List (List ℕ) → ℕ → ℕ → ℕ → List (List ℕ)
stored t i j level = put (put t i j level) j i level

-- the entry of a and b is that of i and j
abbrev pub is_pair : ℕ → ℕ → ℕ → ℕ → Bool
is_pair i j a b = eqb a i && eqb b j

-- t' is the table t with a level kept at both entries of the pair of i and j
abbrev pub Stores : List (List ℕ) → ℕ → ℕ → ℕ → List (List ℕ) → Type 0
Stores t i j level t' = (a b : ℕ) → kept t' a b ≡ cond (is_pair i j a b || is_pair j i a b) level (kept t a b)

-- a new table: each level for itself, and 0 for every pair of two
abbrev pub new_level : ℕ → ℕ → ℕ
new_level i j = cond (eqb i j) i 0
