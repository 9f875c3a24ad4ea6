-- What the functions of the runner ask for and promise.
use Rattle.std.specs.Prelude.{◌≡◌, true, false, List, ℕ, suc, ◌+◌, ◌-◌, ◌/◌, ◌≤◌, ◌<◌, ℤ, length}
use Rattle.language.specs.Calls.{Ending, finished, spent, log_full, most_steps}
use Rattle.program.specs.Program.{name_count, node_count, names_of, seen_by}
use Rattle.inputs.specs.Lists.{pair_count, signal_at, listed}
use Rattle.inputs.specs.Promises.{Rising, Cursor}
use Rattle.residual.specs.Nodes.{Valued, NodeIn}
use Rattle.instants.specs.Promises.{some_signal_present}
use Rattle.moves.specs.declared.counts.Counts.{Counts}
use Rattle.moves.specs.declared.counts.Reason.{Reason}
use Rattle.moves.specs.declared.counts.Reason.TheVariants.{Nil, Suspended, Spent, Full}
use Rattle.moves.specs.declared.counts.Rested.{Rested}
use Rattle.moves.specs.Moves.{Running, changed}
use Rattle.moves.specs.Promises.{CanMove, node_at}
use Rattle.advance.specs.Promises.{Advances}
use Rattle.runner.specs.declared.Ran.{Ran}
use Rattle.runner.specs.declared.ending.Ending as ending
use Rattle.runner.specs.declared.ending.Ending.TheVariants.{Finished, Spent as ran_out, LogFull}
use Rattle.runner.specs.Outcome.{Outcome, outcome}

-- the node of the script
abbrev pub root : List ℕ → ℕ
root words = node_count words - 1

-- a program with its bytes, values and log, and what has been counted, as the definitions see it
abbrev pub script_at : List ℕ → List ℕ → List ℤ → List ℕ → Counts → Running ℕ
script_at words st values log at = node_at words (root words) st values log at

-- what a run asks: any bytes, values and counts
abbrev pub CanRun : List ℕ → List ℕ → List ℤ → List ℕ → ℕ → Counts → Type 0
CanRun words st values log limit at = CanMove words (root words) st values log limit at

-- the script has made moves, as far as it goes within the instant
abbrev pub InstantMade :
    List ℕ → ℕ → List ℕ → List ℤ → List ℕ → Counts → List ℕ → List ℤ → List ℕ → Rested → Type 0
InstantMade words limit st values log at st' values' log' r =
    Advances words limit (root words) st values log at st' values' log' r

-- what a run asks of its list: instants that never fall, and signals of the program
pub record ListIn (words list : List ℕ) : Type 0 where
  pub rising : Rising list
  pub known : (k : ℕ) → k < pair_count list → signal_at list k < name_count words
  pub signals : (k : ℕ) → k < pair_count list → (names_of words).is_signal (signal_at list k) ≡ true

-- what an instant change asks: the pairs from c up to d are those of the instant that it enters
pub record CanChange (words st : List ℕ) (values : List ℤ) (list : List ℕ) (c d : ℕ) (at : Counts) : Type 0 where
  pub node : NodeIn words (root words) st values
  pub time : at.steps < most_steps
  pub instants : at.instants ≤ at.steps
  pub right : ListIn words list
  pub before : Cursor list at.instants c
  pub after : Cursor list (suc at.instants) d

-- the next instant begins, which is a step; whatever the log is, it stays
abbrev pub Begins : List ℕ → List ℕ → List ℕ → List ℤ → Counts → List ℕ → List ℤ → Counts → Type 0
Begins words list st values at st' values' at' =
    (log : List ℕ) →
    script_at words st' values' log at' ≡ changed (names_of words) (listed list) (script_at words st values log at)

-- what is asked for the number of instant changes that leave a suspended script as it is
pub record CanIdle (words : List ℕ) (values : List ℤ) (list : List ℕ) (c limit : ℕ) (at : Counts) : Type 0 where
  pub valued : Valued words values
  pub time : at.steps ≤ limit
  pub rising : Rising list
  pub cursor : Cursor list at.instants c

-- n of them: no signal is present, and none is listed for the instants that they enter
pub record Idles (words : List ℕ) (values : List ℤ) (list : List ℕ) (c limit : ℕ) (at : Counts) (n : ℕ) : Type 0 where
  pub time : at.steps + n ≤ limit
  pub absent : 0 < n → some_signal_present (names_of words) values ≡ false
  pub cursor : Cursor list (at.instants + n) c

-- what a whole run asks: as above, with a list
pub record CanRunListed
    (words st : List ℕ) (values : List ℤ) (list log : List ℕ) (limit : ℕ) (at : Counts) : Type 0 where
  pub can : CanRun words st values log limit at
  pub right : ListIn words list

-- how a run ends whose script makes no further move for this reason
abbrev pub ending_by : Reason → Ending
ending_by Nil = finished
ending_by Suspended = spent
ending_by Spent = spent
ending_by Full = log_full

abbrev pub meant : ending.Ending → Ending
meant Finished = finished
meant ran_out = spent
meant LogFull = log_full

-- what comes of a program with a list, for its reader, under a limit on all steps
abbrev pub outcome_of : List ℕ → List ℕ → ℕ → ℕ → Running ℕ → Outcome ℕ
outcome_of words list limit room at = outcome (names_of words) (listed list) (seen_by words) limit room at

-- A run returns its ending and leaves the script where the definition says; from there a run can go on.
pub record Runs
    (words list : List ℕ) (limit : ℕ) (st : List ℕ) (values : List ℤ) (log : List ℕ) (at : Counts) (st' : List ℕ)
    (values' : List ℤ) (log' : List ℕ) (r : Ran) : Type 0 where
  pub ending : meant r.ending ≡ (outcome_of words list limit (length log / 4) (script_at words st values log at)).ending
  pub left :
      script_at words st' values' log' r.at ≡ (outcome_of words list limit (length log / 4) (script_at words st values log at)).at
  pub again : CanRun words st' values' log' limit r.at
