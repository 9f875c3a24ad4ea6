-- 02 (f) about the calls: the figure of check and the moves of runs. The statement stands in specs/Results.antt.
use mathlib.Core.Path.{◌≡◌, ap, ap₂, ◌∙◌}
use mathlib.Core.Bool.{Bool, true, false, false≢true}
use mathlib.Core.List.{List}
use Prim.Native.Nat.{ℕ, ◌+◌, ◌-◌, ◌*◌, ◌/◌, ◌≤◌}
use native.Mathlib.Nat.{le_trans, le_of_eq}
use native.Mathlib.Omega.{arith}
use lib.Dec.{eqb}
use lib.IntN.{ℤ}
use lib.ListN.{length}
use Rattle.prelude.specs.Refusals.{passes}
use Rattle.prelude.proofs.Bools.{by_cases}
use Rattle.lattice.specs.Lattice.{book_lattice}
use Rattle.language.specs.NodeCounts.{counted}
use Rattle.language.specs.MoveBounds.{is_not_nil, is_parallel, is_while, holds_no_while, most_moves}
use Rattle.language.specs.Calls.{readable}
use Rattle.language.specs.Results as language
use Rattle.language.proofs.PathMoves as moving
use Rattle.inputs.specs.Lists.{listed}
use Rattle.layout.specs.Entries.{nodes_with}
use Rattle.script.specs.Checked.{Checked}
use Rattle.tree.specs.Tree.{names_of, tree}
use Rattle.tree.proofs.Theorems.{nodes_counted}
use Rattle.report.proofs.PathMoves.{path_bounded}
use Rattle.std.specs.Prelude.{Option, Some, None}
use Rattle.bound.specs.Bound.{bound_of}
use Rattle.checker.specs.Refusals.{check_refusal}
use Rattle.checker.proofs.Passing.{accepted, checked}
use Rattle.arguments.specs.Refusals.{run_refusal}
use Rattle.results.specs.declared.Verdict.{Verdict}
use Rattle.engine.specs.Answers.{verdict, Left, left}
use Rattle.theorems.specs.Results.{MovesBounded, FigureHolds}

abbrev is_bounded : Option ℕ → Bool
is_bounded (Some m) = true
is_bounded None = false

abbrev figure : Option ℕ → ℕ
figure (Some m) = m
figure None = 0

module _ (b s : List ℕ) (m : ℕ) (given : (verdict b s).moves ≡ Some m) where
  -- a script that is refused has no figure
  bound_is : (passes (check_refusal b s) ≡ true) × (bound_of s ≡ Some m)
  unfolding verdict
  bound_is =
      by_cases
      (λ (v : Verdict). v.moves ≡ Some m → (passes (check_refusal b s) ≡ true) × (bound_of s ≡ Some m))
      (passes (check_refusal b s))
      (λ t e. (t, e))
      (λ t e. absurd (false≢true (ap is_bounded e)))
      given

  -- nor one that holds a while
  no-while : (holds_no_while (nodes_with s) ≡ true) × (most_moves (nodes_with s) ≡ m)
  unfolding bound_of
  no-while =
      by_cases
      (λ r. r ≡ Some m → (holds_no_while (nodes_with s) ≡ true) × (most_moves (nodes_with s) ≡ m))
      (holds_no_while (nodes_with s))
      (λ t e. (t, ap figure e))
      (λ t e. absurd (false≢true (ap is_bounded e)))
      bound_is.1

  ok : Checked s
  ok = checked b s (accepted b s bound_is.0).script

  -- the file's nodes are those of the script
  same : (f : ℕ → Bool) → counted (tree s) f ≡ nodes_with s f
  same = nodes_counted.kinds s ok

  none_there : holds_no_while (counted (tree s)) ≡ true
  none_there = ap (λ n. eqb n 0) (same is_while) ∙ no-while.0

  most : most_moves (counted (tree s)) ≡ m
  most = ap₂ (λ k p. k * (p + 1)) (same is_not_nil) (same is_parallel) ∙ no-while.1

  module _ (reader : ℕ) (values : List ℤ) (limit : ℕ) (list log : List ℕ) where
    of_run :
        language.MovesBounded (names_of s) (listed list) (readable (book_lattice b) (names_of s) reader) limit (length log / 4)
        (tree s) values
    of_run = moving.moves_bounded (names_of s) (listed list) _ limit _ (tree s) values

    -- a refused call counts nothing
    instants_within : (left b s reader values limit list log).result.instants ≤ (left b s reader values limit list log).result.steps
    unfolding left
    instants_within =
        by_cases (λ (l : Left). l.result.instants ≤ l.result.steps)
        (passes (run_refusal b s reader values limit list)) (λ t. of_run.instants) (λ t. omega arith)

    moves_within :
        (left b s reader values limit list log).result.steps - (left b s reader values limit list log).result.instants ≤ m
    unfolding left
    moves_within =
        by_cases (λ (l : Left). l.result.steps - l.result.instants ≤ m)
        (passes (run_refusal b s reader values limit list))
        (λ t. omega (arith, of_run.moves none_there, most))
        (λ t. omega arith)

  figure_is_most : MovesBounded b s m
  figure_is_most =
      record {
        instants = instants_within;
        moves = moves_within;
        reported =
            λ below inputs n C D ls e path.
            le_trans ((path_bounded below path).moves (ap (λ p. holds_no_while (counted p)) e ∙ none_there))
            (le_of_eq (ap (λ p. most_moves (counted p)) e ∙ most));
      }

pub figure_holds : FigureHolds
figure_holds = figure_is_most
