-- What a run of a checked file asks, and what it returns and leaves.
use Rattle.std.specs.Prelude.{◌≡◌, List, ℕ, ◌/◌, ◌≤◌, ℤ, length}
use Rattle.book.specs.declared.Book.{Book}
use Rattle.language.specs.Calls.{Run, starts, run, most_steps}
use Rattle.inputs.specs.Lists.{listed}
use Rattle.layout.specs.Layout.{name_count}
use Rattle.tree.specs.Tree.{names_of, tree}
use Rattle.plan.specs.Plan.{CanPlan, sees_in}
use Rattle.arguments.specs.Promises.{ListRight}
use Rattle.runner.specs.declared.Ran.{Ran}
use Rattle.runner.specs.Outcome.{written}
use Rattle.runner.specs.Promises.{meant}

pub record CanStart (s : List ℕ) (b : Book) (reader : ℕ) (values : List ℤ) (limit : ℕ) (list : List ℕ) : Type 0 where
  pub plan : CanPlan s b reader
  pub named : length values ≡ name_count s
  pub most : limit ≤ most_steps
  pub right : ListRight s list

-- the run of a file under a loaded book, for a reader, from its start
abbrev pub run_for : Book → List ℕ → ℕ → List ℤ → ℕ → List ℕ → List ℕ → Run
run_for b s reader values limit list log =
    run (names_of s) (listed list) (sees_in b s reader) limit (length log / 4) (starts (tree s) values)

-- of a run that began with this log
pub record Returns (o : Run) (began : List ℕ) (r : Ran) (values : List ℤ) (log : List ℕ) : Type 0 where
  pub ending : meant r.ending ≡ o.ending
  pub steps : r.at.steps ≡ o.steps
  pub instants : r.at.instants ≡ o.instants
  pub within : r.at.instants ≤ r.at.steps
  pub lines : r.at.lines ≡ length o.lines
  pub final : values ≡ o.values
  pub logged : log ≡ written o.lines 0 began
