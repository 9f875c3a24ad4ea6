-- A program's run, from its start, is that of its file.
use mathlib.Core.Path.{◌≡◌, ap, ◌∙◌, subst}
use mathlib.Core.Bool.{Bool}
use mathlib.Core.List.{List}
use Prim.Native.Nat.{ℕ, ◌-◌, ◌/◌}
use native.Mathlib.Nat.{sub-zero, zero-add}
use native.Mathlib.Omega.{arith}
use lib.IntN.{ℤ}
use lib.ListN.{length, replicate}
use Rattle.language.specs.Syntax.{Proc}
use Rattle.language.specs.Calls.{Stop, starts, given_back, reach, run}
use Rattle.language.proofs.Naming.{run_alike}
use Rattle.layout.specs.Layout.{layout_of, name_count, node_count}
use Rattle.layout.proofs.Layouts.{few_bounds}
use Rattle.script.specs.Checked.{Checked}
use Rattle.inputs.specs.Lists.{listed}
use Rattle.tree.specs.Tree.{names_of, tree}
use Rattle.program.specs.Program as program
use Rattle.plan.specs.Plan.{ProgramOf}
use Rattle.arguments.proofs.Writes.{tree_writes}
use Rattle.residual.specs.Nodes.{residual_of}
use Rattle.residual.proofs.Residuals.{zeros}
use Rattle.moves.specs.declared.counts.Counts.{Counts}
use Rattle.moves.specs.Moves.{Running}
use Rattle.runner.specs.declared.Ran.{Ran}
use Rattle.runner.specs.Outcome.{Outcome, recorded, outcome}
use Rattle.arguments.specs.Promises.{ListRight}
use Rattle.runner.specs.Promises.{root, script_at, ListIn, outcome_of, Runs}
use Rattle.engine.specs.Promises.{Returns}

-- nothing has been counted
abbrev pub none : Counts
none = record { steps = 0; instants = 0; lines = 0 }

-- a list that is right for the file is right for its program
pub listed_in :
    {s list words : List ℕ} {sees : ℕ → Bool} → ProgramOf s sees words → ListRight s list → ListIn words list
listed_in made right =
    record {
      rising = right.rising;
      known = λ k l. omega (arith, right.known k l, made.names);
      signals = λ k l. (made.named _ (right.known k l)).signal ∙ right.signals k l;
    }

module _ (s : List ℕ) (ok : Checked s) {sees : ℕ → Bool} {words : List ℕ} (made : ProgramOf s sees words) (limit : ℕ)
    (values : List ℤ) (list log : List ℕ) where
  abbrev room : ℕ
  room = length log / 4

  -- where the program's run stops
  abbrev ends : Stop ℕ
  ends = reach (program.names_of words) (listed list) (program.seen_by words) limit room (starts (tree s) values)

  module _ (st : List ℕ) (clear : st ≡ replicate (program.node_count words) 0) where
    whole : residual_of words (root words) st ≡ tree s
    whole =
        let some = (few_bounds (layout_of s) ok.laid.few).1.1.0 in
        rw clear (zeros (program.script words) (program.node_count words) (omega (arith, made.runnable.whole)))
        ∙ ap (λ n. program.process_of words (n - 1)) made.nodes
        ∙ made.process (node_count s - 1) (omega (arith, some))

    outcome_is : outcome_of words list limit room (script_at words st values log none) ≡ recorded 0 log ends
    unfolding outcome
    outcome_is =
        rw (sub-zero limit, sub-zero room)
        (ap
        (λ (p : Proc ℕ).
        recorded 0 log
        (reach (program.names_of words) (listed list) (program.seen_by words) limit room
        (record { process = p; values = values; steps = 0; instants = 0 })))
        whole)

    pub returns_run :
        length values ≡ name_count s → {r : Ran} {st' : List ℕ} {values' back : List ℤ} {log' : List ℕ} →
        Runs words list limit st values log none st' values' log' r → back ≡ given_back (program.names_of words) values' →
        Returns (run (names_of s) (listed list) sees limit room (starts (tree s) values)) log r back log'
    returns_run e {r} {st'} {values'} {back} {log'} h b =
        let left_so = h.left ∙ ap (λ (o : Outcome ℕ). o.at) outcome_is in
        subst (λ o. Returns o log r back log')
        (run_alike (program.names_of words) (names_of s) (listed list) (program.seen_by words) sees (name_count s)
        (λ x l. (made.named x l).signal) (λ x l. (made.named x l).session) made.seen limit room _ e (tree_writes s ok))
        (record {
          ending = h.ending ∙ ap (λ (o : Outcome ℕ). o.ending) outcome_is;
          steps = ap (λ (x : Running ℕ). x.steps) left_so;
          instants = ap (λ (x : Running ℕ). x.instants) left_so;
          within = h.again.counted.instants;
          lines = ap (λ (x : Running ℕ). x.lines) left_so ∙ zero-add (length ends.lines);
          final = b ∙ ap (λ (x : Running ℕ). given_back (program.names_of words) x.values) left_so;
          logged = ap (λ (x : Running ℕ). x.log) left_so;
        })
