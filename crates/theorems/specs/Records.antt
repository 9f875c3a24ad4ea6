-- The record of a run, as it stands in the log's words. 'A run's record is the lines that it writes into the log, in the
-- order of the steps, all four words of each; what the log held before is no part of it. A line is stamped with its step.'
use Rattle.std.specs.Prelude.{List, [], ◌∷◌, ℕ, zero, suc, get_or, take, drop}
use Rattle.engine.specs.Answers.{Left}

-- the first n lines of a log
unfoldable pub lines_in : ℕ → List ℕ → List (List ℕ)
lines_in zero log = []
lines_in (suc n) log = take 4 log ∷ lines_in n (drop 4 log)

abbrev pub record_of : Left → List (List ℕ)
record_of l = lines_in l.result.lines l.log

-- a line's first word
abbrev pub stamp : List ℕ → ℕ
stamp line = get_or line 0 0
