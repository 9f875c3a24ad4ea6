-- Sets of numbers as numbers: bit x says that x is in the set.
use Rattle.std.specs.Prelude.{◌≡◌, Bool, cond, not, ◌&&◌, ℕ, zero, suc, ◌+◌, ◌/◌, ◌%◌, ◌^◌, ◌<◌, eqb}
use Rattle.prelude.specs.Search.{any}

abbrev pub has : ℕ → ℕ → Bool
has set x = eqb (set / 2 ^ x % 2) 1

-- of the numbers below n, those of which f holds
abbrev pub IsSet : ℕ → (ℕ → Bool) → ℕ → Type 0
IsSet n f set = (x : ℕ) → x < n → has set x ≡ f x

-- of the numbers below n, one is in a and not in b
abbrev pub outside : ℕ → ℕ → ℕ → Bool
outside a b n = any (λ x. has a x && not (has b x)) n

-- the numbers below n of which f holds, and no other
unfoldable pub set_of : (ℕ → Bool) → ℕ → ℕ
set_of f zero = 0
set_of f (suc n) = set_of f n + cond (f n) (2 ^ n) 0
