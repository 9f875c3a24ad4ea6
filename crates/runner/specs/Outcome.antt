-- Where a script that runs comes to, with its log.
use Rattle.std.specs.Prelude.{List, [], ◌∷◌, ℕ, suc, ◌+◌, ◌-◌, Bool, length}
use Rattle.language.specs.Syntax.{Names}
use Rattle.language.specs.Steps.{Inputs}
use Rattle.language.specs.Calls.{Line, Ending, Stop, reach}
use Rattle.moves.specs.Moves.{Running, system, put_line}

-- these lines, from line n on
unfoldable pub written : List Line → ℕ → List ℕ → List ℕ
written [] n log = log
written (l ∷ ls) n log = written ls (suc n) (put_line l n log)

-- how it stops, and where
pub record Outcome (L : Type 0) : Type 0 where
  pub ending : Ending
  pub at : Running L

module _ {L : Type 0} where
  -- a script that stops here
  abbrev pub stopped : Ending → Running L → Outcome L
  stopped how at = record { ending = how; at = at }

  -- a run that begins with n lines in this log
  abbrev pub recorded : ℕ → List ℕ → Stop L → Outcome L
  recorded n log r =
      stopped r.ending
      (record {
        process = r.at.process;
        values = r.at.values;
        log = written r.lines n log;
        steps = r.at.steps;
        instants = r.at.instants;
        lines = n + length r.lines;
      })

-- from anywhere, under a limit on all steps, with a log that has room for so many lines
unfoldable pub outcome : {L : Type 0} → Names L → Inputs → (ℕ → Bool) → ℕ → ℕ → Running L → Outcome L
outcome names inputs seen limit room at =
    recorded at.lines at.log (reach names inputs seen (limit - at.steps) (room - at.lines) (system at))
