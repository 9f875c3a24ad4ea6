-- 02 (a): 'A run takes a list of pairs of 32-bit words, instant (from 1) and session signal.'
use Rattle.std.specs.Prelude.{Bool, ◌&&◌, List, ℕ, ◌+◌, ◌*◌, ◌/◌, ◌%◌, eqb, get_or, length}
use Rattle.prelude.specs.Search.{any}

-- pair k is words 2 k and 2 k + 1
abbrev pub instant_at : List ℕ → ℕ → ℕ
instant_at list k = get_or list (2 * k) 0

abbrev pub signal_at : List ℕ → ℕ → ℕ
signal_at list k = get_or list (2 * k + 1) 0

-- how many whole pairs there are
abbrev pub pair_count : List ℕ → ℕ
pair_count list = length list / 2

-- with the half pair that may stand at the end
abbrev pub pairs_begun : List ℕ → ℕ
pairs_begun list = length list / 2 + length list % 2

-- The list names signal a for instant i. 'Equal pairs may repeat.'
unfoldable pub listed : List ℕ → ℕ → ℕ → Bool
listed list i a = any (λ k. eqb (instant_at list k) i && eqb (signal_at list k) a) (pair_count list)
