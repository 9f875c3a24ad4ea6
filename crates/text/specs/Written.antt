-- The text that is written of numbers: figures in tens, '0' to '9'.
use Rattle.std.specs.Prelude.{List, [], ◌∷◌, ◌++◌, ℕ}
use Rattle.std.specs.Fmt.{decimal}

-- a number, and the byte that ends it
abbrev pub number_text : ℕ → ℕ → List ℕ
number_text n end = decimal n ++ (end ∷ [])

-- a line of a word and two numbers: a space, 32, is between them, a line break, 10, behind them
abbrev pub pair_text : List ℕ → ℕ → ℕ → List ℕ
pair_text word a b = word ++ (number_text a 32 ++ number_text b 10)
