-- RR-5594, 2.2.3: execution paths; and what a run is in their terms (01, 'Calls').
use Rattle.std.specs.Prelude.{ℕ, zero, suc, ◌+◌, ◌≤◌, ◌<◌, ◌≡◌, Bool, true, false, length}
use Rattle.std.proofs.Math.Option.{some}
use mathlib.Core.List.{List, [], ◌++◌, Option-to_list}
use Rattle.language.specs.Syntax.{Names, is_nil}
use Rattle.language.specs.Steps.{Output, Inputs}
use Rattle.language.specs.Calls.{Line, Ending, finished, spent, log_full, System, Run, called_for, given_back}
use Rattle.language.specs.Instants.{Step}

module _ {L : Type 0} (names : Names L) (inputs : Inputs) (seen : ℕ → Bool) where
  -- n steps from one system to another, with the lines that they call for
  pub data Path : ℕ → System L → List Line → System L → Type 0 where
    here : {at : System L} → Path zero at [] at
    more :
        {n : ℕ} {at mid end : System L} {o : Output} {ls : List Line} →
        Step names inputs at o mid → Path n mid ls end → Path (suc n) at (Option-to_list (called_for seen at o) ++ ls) end

  -- Why a run ends at a system, after so many of at most n steps and with so many lines of at most `room`: 'finished if
  -- the script is nil; else spent if the limit is reached; else log full if this step needs a line and no four words
  -- are left'.
  pub data RunEnds (n room : ℕ) (at : System L) : Ending → ℕ → ℕ → Type 0 where
    NIL-REACHED : {made lines : ℕ} → is_nil at.process ≡ true → RunEnds n room at finished made lines
    LIMIT-REACHED : {lines : ℕ} → is_nil at.process ≡ false → RunEnds n room at spent n lines
    LOG-FULL :
        {made : ℕ} {o : Output} {to : System L} {l : Line} →
        made < n → Step names inputs at o to → called_for seen at o ≡ some l → RunEnds n room at log_full made room

  -- a run of at most n steps and `room` lines, as a path of the report's relation
  pub record IsRun (n room : ℕ) (at : System L) (r : Run) : Type 0 where
    pub made : ℕ
    pub last : System L
    pub path : Path made at r.lines last
    pub steps : r.steps ≡ at.steps + made
    pub instants : r.instants ≡ last.instants
    pub values : r.values ≡ given_back names last.values
    pub in_limit : made ≤ n
    pub in_room : length r.lines ≤ room
    pub why : RunEnds n room last r.ending made (length r.lines)
