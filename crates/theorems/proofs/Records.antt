-- The record of a run, read off the words of its log.
use mathlib.Core.Path.{◌≡◌, refl, ap}
use mathlib.Core.Bool.{Bool, true, false, cond}
use mathlib.Core.List.{List, [], ◌∷◌, ◌++◌, map}
use Prim.Native.Nat.{ℕ}
use lib.Dec.{leb}
use lib.ListN.{length}
use Rattle.language.specs.Calls.{Line, Run, line_words, words}
use Rattle.language.specs.Results.{stamped_up_to}
use Rattle.engine.specs.Answers.{left_by}
use Rattle.theorems.specs.Records.{lines_in, record_of, stamp}

lines_in_lem : (ls : List Line) (rest : List ℕ) → lines_in (length ls) (words ls ++ rest) ≡ map line_words ls
unfolding lines_in words
lines_in_lem [] rest = refl
lines_in_lem (l ∷ ls) rest = ap (λ z. line_words l ∷ z) (lines_in_lem ls rest)

-- a run's record is its lines, in words
pub record_of_lem : (r : Run) (log : List ℕ) → record_of (left_by r log) ≡ map line_words r.lines
record_of_lem r log = lines_in_lem r.lines _

-- the stamp of a line is its first word
pub stamped_words :
    (n : ℕ) (ls : List Line) → stamped_up_to stamp n (map line_words ls) ≡ map line_words (stamped_up_to (λ l. l.step) n ls)
unfolding stamped_up_to
stamped_words n [] = refl
stamped_words n (l ∷ ls) = go _ (leb l.step n) (stamped_words n ls)
  where
    go :
        {ws : List (List ℕ)} (ks : List Line) (b : Bool) → ws ≡ map line_words ks →
        cond b (line_words l ∷ ws) ws ≡ map line_words (cond b (l ∷ ks) ks)
    go ks true e = ap (λ z. line_words l ∷ z) e
    go ks false e = e
