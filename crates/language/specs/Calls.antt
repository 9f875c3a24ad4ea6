-- 01, 'Calls': what a run does, step by step.
use Rattle.std.specs.Prelude.{ℕ, zero, suc, Bool, cond, not, ◌&&◌, List, [], ◌∷◌, ◌++◌, ℤ, pos, length}
use Rattle.std.proofs.Math.Option.{Option, none, some}
use Rattle.std.specs.Int.{w32}
use Rattle.std.proofs.Common.{of_z}
use Rattle.prelude.specs.Table.{table}
use Rattle.lattice.specs.Lattice.{Lattice}
use Rattle.language.specs.Syntax.{Names, Proc, is_nil}
use Rattle.language.specs.Steps.{held, present, Output, silent, assigned, emitted, StepResult, suspended, Inputs, step}

-- 'step from 1, instant from 0, name, value (1 for an emission)'
pub record Line : Type 0 where
  pub step : ℕ
  pub instant : ℕ
  pub name : ℕ
  pub value : ℤ

-- 'Four words make a line: step, instant, name, value as two's complement.'
abbrev pub line_words : Line → List ℕ
line_words l = l.step ∷ l.instant ∷ l.name ∷ of_z w32 l.value ∷ []

unfoldable pub words : List Line → List ℕ
words [] = []
words (l ∷ ls) = line_words l ++ words ls

-- 'Run returns how it ended': '0 finished', '1 spent', '2 log full'
pub data Ending : Type 0 where
  finished spent log_full : Ending

abbrev pub ending_number : Ending → ℕ
ending_number finished = 0
ending_number spent = 1
ending_number log_full = 2

-- 'a step limit to 1,000,000'
abbrev pub most_steps : ℕ
most_steps = 1000000

-- a script that runs: what is left of it, the values, and what has been counted
pub record System (L : Type 0) : Type 0 where
  pub process : Proc L
  pub values : List ℤ
  pub steps : ℕ
  pub instants : ℕ

-- 'Run returns how it ended, steps, instants, lines' and leaves the values.
pub record Run : Type 0 where
  pub ending : Ending
  pub steps : ℕ
  pub instants : ℕ
  pub lines : List Line
  pub values : List ℤ

-- where a run stops: how it ends, what the script has come to, and the lines up to there
pub record Stop (L : Type 0) : Type 0 where
  pub ending : Ending
  pub at : System L
  pub lines : List Line

abbrev pub starts : {L : Type 0} → Proc L → List ℤ → System L
starts p s = record { process = p; values = s; steps = 0; instants = 0 }

-- 'a name at or below the reader's level'
abbrev pub readable : {L : Type 0} → Lattice L → Names L → L → ℕ → Bool
readable 𝓛 names reader x = 𝓛.leq (names.level x) reader

-- the line of a step that gives x this value, after so many steps and instants, if it needs one
abbrev pub line_if : Bool → ℕ → ℕ → ℕ → ℤ → Option Line
line_if needed steps instants x v =
    cond needed (some (record { step = suc steps; instant = instants; name = x; value = v })) none

-- The line that a step calls for, after so many steps and instants, by the names that the reader sees and the signals
-- that are present before it: 'A line is written for each assignment and emission to a name at or below the reader's
-- level; a let writes none.' 02 (c): 'Of emissions, only one that makes an absent signal present is a line'.
unfoldable pub called_at : (ℕ → Bool) → (ℕ → Bool) → ℕ → ℕ → Output → Option Line
called_at seen signals steps instants silent = none
called_at seen signals steps instants (assigned x v) = line_if (seen x) steps instants x v
called_at seen signals steps instants (emitted a) = line_if (seen a && not (signals a)) steps instants a (pos 1)

-- from the system before it
abbrev pub called_for : {L : Type 0} → (ℕ → Bool) → System L → Output → Option Line
called_for seen at = called_at seen (present at.values) at.steps at.instants

module _ {L : Type 0} (names : Names L) (inputs : Inputs) where
  -- the step of a system: an instant change enters the next instant
  abbrev pub step_of : System L → StepResult L
  step_of at = step names (inputs (suc at.instants)) at.process at.values

  -- what a step shows, and the system after it
  abbrev pub output : System L → Output
  output at = (step_of at).output

  abbrev pub next : System L → System L
  next at =
      record {
        process = (step_of at).process;
        values = (step_of at).values;
        steps = suc at.steps;
        instants = cond (suspended at.process at.values) (suc at.instants) at.instants;
      }

module _ {L : Type 0} (names : Names L) where
  -- 'Values then hold the state after the counted steps, owned names 0.'
  unfoldable pub given_back : List ℤ → List ℤ
  given_back s = table (λ x. cond (names.is_session x) (held s x) (pos 0)) (length s)

  -- what a run returns that stops there
  abbrev pub returned : Stop L → Run
  returned r =
      record {
        ending = r.ending;
        steps = r.at.steps;
        instants = r.at.instants;
        lines = r.lines;
        values = given_back r.at.values;
      }

module _ {L : Type 0} where
  -- a run that stops before its first step
  abbrev pub halts : Ending → System L → Stop L
  halts how at = record { ending = how; at = at; lines = [] }

  -- these lines first
  abbrev pub behind : List Line → Stop L → Stop L
  behind ls r = record { ending = r.ending; at = r.at; lines = ls ++ r.lines }

  -- A step that calls for this line, with room for so many: `go` on with the room that is left, or stop as `full`.
  unfoldable pub noted : Option Line → ℕ → (ℕ → Stop L) → Stop L → Stop L
  noted none room go full = go room
  noted (some l) zero go full = full
  noted (some l) (suc room) go full = behind (l ∷ []) (go room)

module _ {L : Type 0} (names : Names L) (inputs : Inputs) (seen : ℕ → Bool) where
  -- Where a run of at most n steps more stops, with room for so many lines. 'Before each step: 0 finished if the script
  -- is nil; else 1 spent if the limit is reached; else 2 log full if this step needs a line and no four words are
  -- left.'
  unfoldable pub reach : ℕ → ℕ → System L → Stop L
  reach zero room at = cond (is_nil at.process) (halts finished at) (halts spent at)
  reach (suc n) room at =
      cond
      (is_nil at.process)
      (halts finished at)
      (noted
      (called_for seen at (output names inputs at))
      room
      (λ left. reach n left (next names inputs at))
      (halts log_full at))

  -- what that run returns
  abbrev pub run : ℕ → ℕ → System L → Run
  run n room at = returned names (reach n room at)
