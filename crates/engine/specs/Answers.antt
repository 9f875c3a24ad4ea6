-- 01, 'Calls', and 02 (e) and (f): what the calls answer, and what run leaves in the values and the log, for every input.
use Rattle.std.specs.Prelude.{cond, List, ◌++◌, ℕ, ◌*◌, ◌/◌, ℤ, length, drop, replicate}
use Rattle.prelude.specs.declared.Refusal.{Refusal}
use Rattle.prelude.specs.Refusals.{passes}
use Rattle.book.specs.LevelBook.{most_levels}
use Rattle.lattice.specs.Lattice.{book_lattice}
use Rattle.language.specs.Levels.{write_level, test_level}
use Rattle.language.specs.Calls.{Run, starts, readable, run, ending_number, words}
use Rattle.inputs.specs.Lists.{listed}
use Rattle.script.specs.Refusals as scripts
use Rattle.tree.specs.Tree.{names_of, tree}
use Rattle.requirements.specs.Flows.{flows_of}
use Rattle.bound.specs.Bound.{bound_of}
use Rattle.results.specs.declared.Verdict.{Verdict}
use Rattle.results.specs.declared.RunResult.{RunResult}
use Rattle.results.specs.declared.Flows.{Flows}
use Rattle.results.specs.Results.{verdict_by, refused_verdict, refused_result, result_by, flows_by}
use Rattle.checker.specs.Refusals.{check_refusal}
use Rattle.arguments.specs.Refusals.{run_refusal}

-- 'Check returns number, place, W, T.' 02 (f): 'Give the figure with the check.' 'A refusal's other returned numbers are 0;
-- 0 means not refused.'
unfoldable pub verdict : List ℕ → List ℕ → Verdict
verdict b s =
    cond
    (passes (check_refusal b s))
    (verdict_by
    (check_refusal b s)
    (write_level (book_lattice b) (names_of s) (tree s))
    (test_level (book_lattice b) (names_of s) (tree s))
    (bound_of s))
    (refused_verdict (check_refusal b s))

-- 02 (e): rows 4 to 10 with 'no book here: 6 takes levels to 15', the levels of a full book
abbrev pub file_refusal : List ℕ → Refusal
file_refusal s = scripts.refusal s most_levels

-- 'For a file that passes 4 to 10 .. give for each level the set of other levels to which data must be let flow.' Of a
-- file that is refused every set is empty.
unfoldable pub flows_found : List ℕ → Flows
flows_found s =
    cond
    (passes (file_refusal s))
    (flows_by (file_refusal s) (flows_of s))
    (flows_by (file_refusal s) (replicate most_levels 0))

-- The run of a script under a book, for a reader: its step limit, the signals that its list names for each instant, and a
-- log that has room for a line in each four words.
abbrev pub run_of : List ℕ → List ℕ → ℕ → List ℤ → ℕ → List ℕ → List ℕ → Run
run_of b s reader values limit list log =
    run (names_of s) (listed list) (readable (book_lattice b) (names_of s) reader) limit (length log / 4)
    (starts (tree s) values)

-- what a call of run leaves
pub record Left : Type 0 where
  pub result : RunResult
  pub values : List ℤ
  pub log : List ℕ

-- 'Run returns how it ended, steps, instants, lines.' 'Values then hold the state after the counted steps; log words after
-- the last line are untouched.'
abbrev pub left_by : Run → List ℕ → Left
left_by r log =
    record {
      result = result_by (ending_number r.ending) r.steps r.instants (length r.lines);
      values = r.values;
      log = words r.lines ++ drop (4 * length r.lines) log;
    }

-- a refused call leaves values and log as they were
abbrev pub refused_left : Refusal → List ℤ → List ℕ → Left
refused_left r values log = record { result = refused_result r; values = values; log = log }

unfoldable pub left : List ℕ → List ℕ → ℕ → List ℤ → ℕ → List ℕ → List ℕ → Left
left b s reader values limit list log =
    cond
    (passes (run_refusal b s reader values limit list))
    (left_by (run_of b s reader values limit list log) log)
    (refused_left (run_refusal b s reader values limit list) values log)
