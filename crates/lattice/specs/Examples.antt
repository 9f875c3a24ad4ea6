-- Level books by example: bytes, and the refusal that they get.
use Rattle.std.specs.Prelude.{Bool, true, ◌&&◌, List, [], ◌∷◌, ℕ, eqb}
use Rattle.lattice.specs.Refusals.{refusal}

pub record Example : Type 0 where
  pub bytes : List ℕ
  pub number : ℕ
  pub place : ℕ

abbrev pub given : List ℕ → ℕ → ℕ → Example
given s number place = record { bytes = s; number = number; place = place }

abbrev pub books : List Example
books =
    -- the book of 01's examples: level 0 below level 1
    given (2 ∷ 0 ∷ 3 ∷ 0 ∷ 2 ∷ []) 0 0
    -- four levels with the top first and the bottom last, two side by side
    ∷ given (4 ∷ 0 ∷ 1 ∷ 0 ∷ 3 ∷ 0 ∷ 5 ∷ 0 ∷ 15 ∷ []) 0 0
    -- no byte, no level, a byte too many, a row too few
    ∷ given [] 1 0
    ∷ given (0 ∷ []) 1 0
    ∷ given (1 ∷ 0 ∷ 1 ∷ 0 ∷ []) 1 0
    ∷ given (2 ∷ 0 ∷ 3 ∷ []) 1 0
    -- level 1 lacks its own bit; level 0 has a bit at 1; both ways; no bit from 0 to 2 by way of 1
    ∷ given (2 ∷ 0 ∷ 3 ∷ 0 ∷ 0 ∷ []) 2 1
    ∷ given (1 ∷ 0 ∷ 3 ∷ []) 2 0
    ∷ given (2 ∷ 0 ∷ 3 ∷ 0 ∷ 3 ∷ []) 2 0
    ∷ given (3 ∷ 0 ∷ 3 ∷ 0 ∷ 6 ∷ 0 ∷ 4 ∷ []) 2 0
    -- two levels side by side, with nothing above
    ∷ given (2 ∷ 0 ∷ 1 ∷ 0 ∷ 2 ∷ []) 3 1
    -- levels 1 and 2 are both below 3 and 4, which stand side by side
    ∷ given (6 ∷ 0 ∷ 63 ∷ 0 ∷ 58 ∷ 0 ∷ 60 ∷ 0 ∷ 40 ∷ 0 ∷ 48 ∷ 0 ∷ 32 ∷ []) 3 18
    ∷ []

abbrev pub comes_out : Example → Bool
comes_out e = eqb (refusal e.bytes).number e.number && eqb (refusal e.bytes).place e.place

abbrev pub all_come_out : List Example → Bool
all_come_out [] = true
all_come_out (e ∷ es) = comes_out e && all_come_out es
