-- 01, 'Level book': what the bytes of a book say.
use Rattle.std.specs.Prelude.{Bool, ◌&&◌, List, ℕ, ◌+◌, ◌*◌, eqb, leb, get_or, length}
use Rattle.prelude.specs.Table.{table}
use Rattle.prelude.specs.Numbers.{word}
use Rattle.prelude.specs.Sets.{has}

-- the most levels that a book has; a later request widens it
abbrev pub most_levels : ℕ
most_levels = 16

-- "One byte n, 1 to 16, then n rows of two bytes."
abbrev pub count : List ℕ → ℕ
count s = get_or s 0 0

abbrev pub is_size : ℕ → ℕ → Bool
is_size n m = leb 1 n && (leb n most_levels && eqb m (1 + 2 * n))

abbrev pub size_is_right : List ℕ → Bool
size_is_right s = is_size (count s) (length s)

abbrev pub row : List ℕ → ℕ → ℕ
row s i = word (get_or s (1 + 2 * i) 0) (get_or s (2 + 2 * i) 0)

-- a row for each level that a book can have: past the bytes it is 0
abbrev pub rows : List ℕ → List ℕ
rows s = table (row s) most_levels

-- "Bit j of row i (bit 0 lowest) says that level i is at or below level j."
abbrev pub at_or_below : List ℕ → ℕ → ℕ → Bool
at_or_below rs i j = has (get_or rs i 0) j
