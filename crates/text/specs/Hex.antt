-- Lines of text that give bytes by two digits each, 0 to 9 and A to F. A remark goes from # to the end of its line.
use Rattle.std.specs.Prelude.{◌≡◌, Bool, cond, ◌&&◌, List, [], ◌∷◌, ℕ, suc, ◌+◌, ◌-◌, ◌*◌, ◌≤◌, ◌<◌, eqb, leb, get_or, length, Option, Some, None}
use Rattle.std.proofs.lemmas.List.Edits.{sets}
use Rattle.prelude.specs.Search.{first_from, lesser}

-- a line break, 10, stands at this index
abbrev pub is_break : List ℕ → ℕ → Bool
is_break text i = eqb (get_or text i 0) 10

-- the index behind the line that begins at `at`: behind its first line break, or at the end of the text
abbrev pub line_end : List ℕ → ℕ → ℕ
line_end text at = suc (first_from (is_break text) at (length text - 1 - at))

-- r is that index, for a line that begins inside the text
pub record LineEnds (text : List ℕ) (at r : ℕ) : Type 0 where
  pub after : at < r
  pub within : r ≤ length text
  pub end : r ≡ line_end text at

-- c is one of the characters from a to b
abbrev pub is_from : ℕ → ℕ → ℕ → Bool
is_from a b c = leb a c && leb c b

-- what a digit stands for, of '0' to '9', 48 to 57, and 'A' to 'F', 65 to 70
unfoldable pub digit : ℕ → Option ℕ
digit c = cond (is_from 48 57 c) (Some (c - 48)) (cond (is_from 65 70 c) (Some (c - 55)) None)

-- a digit, if there is one, before others
abbrev pub before : Option ℕ → List ℕ → List ℕ
before (Some d) more = d ∷ more
before None more = more

-- the digits of a line up to its remark, at '#', 35, one after the other; all else between them is passed over
unfoldable pub digits : List ℕ → List ℕ
digits [] = []
digits (c ∷ line) = cond (eqb c 35) [] (before (digit c) (digits line))

-- two digits make a byte, the high one first; a last one alone makes none
unfoldable pub bytes_of : List ℕ → List ℕ
bytes_of [] = []
bytes_of (high ∷ []) = []
bytes_of (high ∷ low ∷ rest) = (16 * high + low) ∷ bytes_of rest

-- The bytes of a line have been stored one after the other from index `at` on, as many as there is room for (`sets` stores
-- nothing past the end), and all else is as it was; the index behind them is r.
pub record BytesRead (line out : List ℕ) (at : ℕ) (after : List ℕ) (r : ℕ) : Type 0 where
  pub within : r ≤ length out
  pub end : r ≡ lesser (at + length (bytes_of (digits line))) (length out)
  pub written : after ≡ sets out at (bytes_of (digits line))
