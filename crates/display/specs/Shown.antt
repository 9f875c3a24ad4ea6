-- The text that is printed of what the calls answer, in the form that 01 gives; and of the bound on moves.
use Rattle.std.specs.Prelude.{cond, List, [], ◌∷◌, ◌++◌, ℕ, ◌-◌, ◌*◌, ◌%◌, codes, eqb, leb, ltb, get_or, length, replicate, ℤ, Option, Some, None}
use Rattle.std.specs.List.{concat}
use Rattle.prelude.specs.Table.{table}
use Rattle.results.specs.declared.Verdict.{Verdict}
use Rattle.results.specs.declared.RunResult.{RunResult}
use Rattle.engine.specs.Answers.{Left, verdict, left}
use Rattle.text.specs.Written.{number_text, pair_text}

-- a value by its word, in two's complement
abbrev pub value_text : ℕ → List ℕ
value_text w = cond (ltb w 2147483648) (number_text w 10) (45 ∷ number_text (4294967296 - w) 10)

-- the word at index i of a log: of a line's four words the last is a value, and ends the line
abbrev pub word_text : List ℕ → ℕ → List ℕ
word_text log i = cond (eqb (i % 4) 3) (value_text (get_or log i 0)) (number_text (get_or log i 0) 32)

-- a line of a log, by its four words
abbrev pub line_text : List ℕ → List ℕ
line_text line =
    let number : ℕ → List ℕ = λ i. number_text (get_or line i 0) 32 in
    number 0 ++ (number 1 ++ (number 2 ++ value_text (get_or line 3 0)))

-- the first n words of a log
unfoldable pub words_text : List ℕ → ℕ → List ℕ
words_text log n = concat (table (word_text log) n)

-- the first lines of a log, which has so many
abbrev pub lines_text : List ℕ → ℕ → List ℕ
lines_text log lines = cond (leb (4 * lines) (length log)) (words_text log (4 * lines)) []

abbrev pub refusal_text : ℕ → ℕ → List ℕ
refusal_text number place = pair_text (codes "refused ") number place

-- how a run ended
abbrev pub ending_word : ℕ → List ℕ
ending_word ending = cond (eqb ending 0) (codes "finished ") (cond (eqb ending 1) (codes "spent ") (codes "log full "))

-- of a refused run only the refusal; else W and T, the lines, the ending, steps and instants
unfoldable pub answers_text : Verdict → RunResult → List ℕ → List ℕ
answers_text v r log =
    cond
    (eqb r.number 0)
    (pair_text (codes "accepted ") v.write v.test ++ (lines_text log r.lines ++ pair_text (ending_word r.ending) r.steps r.instants))
    (refusal_text r.number r.place)

-- what a run for the reader 0 leaves, of a log of 256 lines
abbrev pub left_with : List ℕ → List ℕ → List ℤ → ℕ → List ℕ → Left
left_with b s values limit list = left b s 0 values limit list (replicate 1024 0)

abbrev pub run_text : List ℕ → List ℕ → List ℤ → ℕ → List ℕ → List ℕ
run_text b s values limit list =
    answers_text (verdict b s) (left_with b s values limit list).result (left_with b s values limit list).log

-- the most moves of a script's runs
abbrev pub moves_text : Option ℕ → List ℕ
moves_text (Some moves) = codes "at most " ++ (number_text moves 32 ++ codes "moves\n")
moves_text None = codes "no bound\n"

-- a refusal, or the most moves
unfoldable pub bound_text : Verdict → List ℕ
bound_text v = cond (eqb v.number 0) (moves_text v.moves) (refusal_text v.number v.place)
