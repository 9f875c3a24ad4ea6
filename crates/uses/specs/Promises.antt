-- What the tables of counts keep while they are filled: what the functions ask and give, no part of what is promised.
use Rattle.std.specs.Prelude.{◌≡◌, List, ℕ, ◌+◌, ◌<◌, eqb, get_or, length}
use Rattle.prelude.specs.Search.{count, total}
use Rattle.layout.specs.Layout.{most_parts}
use Rattle.uses.specs.Uses.{used, times_in, times_used}

-- a table that keeps for each part how often it is used
abbrev pub KeepsTimes : List ℕ → List ℕ → Type 0
KeepsTimes s times = (q : ℕ) → q < most_parts → get_or times q 0 ≡ times_used s q

-- one that keeps how often the parts before p and the first f fields of part p use it
abbrev pub KeepsTimesTo : List ℕ → ℕ → ℕ → List ℕ → Type 0
KeepsTimesTo s p f times =
    (length times ≡ most_parts)
    × ((q : ℕ) → q < most_parts → get_or times q 0 ≡ total (times_in s q) p + count (λ g. eqb (used s p g) q) f)
