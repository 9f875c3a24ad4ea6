-- Searches and sums over the numbers below n, by a test or a function that computes.
-- 01 says 'smallest', 'first', 'some' and 'every' of levels, names, expressions and nodes: always by these.
use Rattle.std.specs.Prelude.{Bool, cond, not, ℕ, zero, suc, ◌+◌, ltb, leb}

-- the first of i, i + 1, .., i + m - 1 at which the test holds, or i + m
unfoldable pub first_from : (ℕ → Bool) → ℕ → ℕ → ℕ
first_from f i zero = i
first_from f i (suc m) = cond (f i) i (first_from f (suc i) m)

-- the smallest number below n at which the test holds, or n
unfoldable pub first : (ℕ → Bool) → ℕ → ℕ
first f n = first_from f 0 n

-- the test holds at some number below n
unfoldable pub any : (ℕ → Bool) → ℕ → Bool
any f n = ltb (first f n) n

-- the test holds at every number below n
unfoldable pub all : (ℕ → Bool) → ℕ → Bool
all f n = not (any (λ k. not (f k)) n)

-- at how many numbers below n the test holds
unfoldable pub count : (ℕ → Bool) → ℕ → ℕ
count f zero = 0
count f (suc n) = cond (f n) (suc (count f n)) (count f n)

-- f 0 + .. + f (n - 1)
unfoldable pub total : (ℕ → ℕ) → ℕ → ℕ
total f zero = 0
total f (suc n) = total f n + f n

-- the lesser of two numbers
abbrev pub lesser : ℕ → ℕ → ℕ
lesser m n = cond (leb m n) m n
