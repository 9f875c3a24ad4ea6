-- Script files by example: a file, and the refusal that it gets.
use Rattle.std.specs.Prelude.{Bool, true, ◌&&◌, List, [], ◌∷◌, ◌++◌, ℕ, eqb}
use Rattle.layout.specs.Entries.{session}
use Rattle.layout.specs.Files.{two, name, part, all, tail, file, every}
use Rattle.script.specs.Refusals.{refusal}

-- names and parts that the examples share
abbrev x : List ℕ
x = name 0 0 session

abbrev a : List ℕ
a = name 1 0 session

abbrev seven : List ℕ
seven = part 0 0 0 7

abbrev nil : List ℕ
nil = part 0 0 0 0

pub record Example : Type 0 where
  pub bytes : List ℕ
  pub number : ℕ
  pub place : ℕ

abbrev pub given : List ℕ → ℕ → ℕ → Example
given s number place = record { bytes = s; number = number; place = place }

-- for a book of two levels
abbrev pub files : List Example
files =
    -- 01's script, x := 7, byte by byte; and the same by its entries
    given (0 ∷ 0 ∷ 255 ∷ 255 ∷ 0 ∷ 0 ∷ 0 ∷ 0 ∷ 0 ∷ 0 ∷ 0 ∷ 7 ∷ 1 ∷ 0 ∷ 0 ∷ 0 ∷ 0 ∷ 0 ∷ 0 ∷ 0 ∷ 0 ∷ 4 ∷ 0 ∷ 12 ∷ 0 ∷ 20 ∷ 83 ∷ 84 ∷ []) 0 0
    ∷ given (file (x ∷ []) (seven ∷ []) (part 1 0 0 0 ∷ [])) 0 0
    ∷ given every 0 0
    -- let y = 7 in x := y; local b in (when b do nil), with the names after those of the session
    ∷ given (file (x ∷ name 0 1 1 ∷ []) (part 1 1 0 0 ∷ seven ∷ []) (part 1 0 0 0 ∷ part 2 1 1 0 ∷ [])) 0 0
    ∷ given (file (name 1 1 2 ∷ []) [] (nil ∷ part 9 0 0 0 ∷ part 7 0 1 0 ∷ [])) 0 0
    -- 4: no byte; no mark; offsets that fall, cut an entry, miss the tail
    ∷ given [] 4 0
    ∷ given (nil ++ (two 0 ++ (two 0 ++ (two 8 ++ (83 ∷ 85 ∷ []))))) 4 0
    ∷ given (nil ++ tail 8 0 8) 4 0
    ∷ given (all (x ∷ seven ∷ nil ∷ []) ++ tail 4 8 20) 4 0
    ∷ given (nil ++ tail 0 0 0) 4 0
    -- 5: no node
    ∷ given (tail 0 0 0) 5 0
    -- 6: no such kind; no such level; an owner that is no node, or declares another kind or another name
    ∷ given (file (x ∷ name 2 0 session ∷ []) [] (nil ∷ [])) 6 1
    ∷ given (file (name 0 2 session ∷ []) [] (nil ∷ [])) 6 0
    ∷ given (file (name 0 0 1 ∷ []) [] (nil ∷ [])) 6 0
    ∷ given (file (name 0 0 1 ∷ []) [] (nil ∷ part 7 0 0 0 ∷ [])) 6 0
    ∷ given (file (a ∷ name 1 0 1 ∷ []) [] (nil ∷ part 7 0 0 0 ∷ [])) 6 1
    -- 7: no such kind; a field that must be 0; an operand that is not smaller; a register field that names a signal
    ∷ given (file (x ∷ []) (part 9 0 0 0 ∷ []) (part 1 0 0 0 ∷ [])) 7 0
    ∷ given (file (x ∷ []) (part 0 1 0 7 ∷ []) (part 1 0 0 0 ∷ [])) 7 0
    ∷ given (file (x ∷ []) (seven ∷ part 8 1 0 0 ∷ []) (part 1 0 1 0 ∷ [])) 7 1
    ∷ given (file (x ∷ a ∷ []) (part 1 1 0 0 ∷ []) (part 1 0 0 0 ∷ [])) 7 0
    -- 8: no such kind; a child that is not smaller; an expression that is none; a name that it doesn't own
    ∷ given (file [] [] (nil ∷ part 11 0 0 0 ∷ [])) 8 1
    ∷ given (file [] [] (nil ∷ part 5 0 1 0 ∷ [])) 8 1
    ∷ given (file (x ∷ []) [] (part 1 0 0 0 ∷ [])) 8 0
    ∷ given (file (a ∷ []) [] (nil ∷ part 7 0 0 0 ∷ [])) 8 1
    -- 9: an expression that is not used; a node used twice, or not at all; the expression comes first
    ∷ given (file [] (seven ∷ []) (nil ∷ [])) 9 0
    ∷ given (file [] [] (nil ∷ part 5 0 0 0 ∷ [])) 9 256
    ∷ given (file [] [] (nil ∷ nil ∷ [])) 9 256
    ∷ given (file [] (seven ∷ []) (nil ∷ nil ∷ [])) 9 0
    -- 10: a let's expression lies outside its body; so does what follows it; the expression comes first
    ∷ given (file (x ∷ name 0 0 1 ∷ []) (part 1 1 0 0 ∷ []) (nil ∷ part 2 1 0 0 ∷ [])) 10 0
    ∷ given (file (name 1 0 1 ∷ []) [] (nil ∷ part 7 0 0 0 ∷ part 6 0 0 0 ∷ part 5 1 2 0 ∷ [])) 10 258
    ∷ given (file (x ∷ name 0 0 1 ∷ []) (part 1 1 0 0 ∷ seven ∷ []) (nil ∷ part 2 1 0 0 ∷ part 1 1 1 0 ∷ part 5 1 2 0 ∷ [])) 10 0
    -- several at once: the lowest number
    ∷ given (file (x ∷ []) (part 9 0 0 0 ∷ []) (part 11 0 0 0 ∷ [])) 7 0
    ∷ given (file (name 2 0 session ∷ []) (part 9 0 0 0 ∷ []) (nil ∷ [])) 6 0
    ∷ []

abbrev pub comes_out : Example → Bool
comes_out e = eqb (refusal e.bytes 2).number e.number && eqb (refusal e.bytes 2).place e.place

abbrev pub all_come_out : List Example → Bool
all_come_out [] = true
all_come_out (e ∷ es) = comes_out e && all_come_out es
