-- `find_flow`: the walk is handed the book's own top and bottom; what it finds of the last node is what the whole script has.
use mathlib.Core.Path.{ap, subst}
use mathlib.Core.List.{List}
use Prim.Native.Nat.{ℕ, ◌-◌}
use Rattle.book.specs.declared.Book.{Book}
use Rattle.layout.specs.Layout.{node_count}
use Rattle.layout.proofs.Layouts.{nodes_are}
use Rattle.script.specs.Checked.{Checked}
use Rattle.flow.specs.declared.nodes.Flow.{Flow}
use Rattle.flow.specs.Flow.{levels_of, lattice_by, FlowAt, FlowOf}
use Rattle.flow.proofs.Everywhere.{failing_first}
use Rattle.flow.proofs.find_flow.Goals as goal

flow-of : (b : Book) (s : List ℕ) (f : Flow) → Checked s → FlowAt b s (node_count s - 1) f → FlowOf (levels_of b) s f
flow-of b s f ok a =
    record {
      write = a.write;
      test = a.test;
      inside = a.inside;
      failing = failing_first (lattice_by b) s ok f.failing a.failing;
    }

pub invariant_of-script : goal.invariant_of-script
invariant_of-script c =
    record {
      ordered = c.requires.ordered;
      kept = c.requires.tables;
      greatest = c.top_of.ensures;
      least = c.bottom_of.ensures;
    }

pub returns : goal.returns
returns c =
    let f = c.args.checked.now in
    let b = c.args.book in
    flow-of b f.file.bytes.now c.flow_at.result f.checked
    (subst (λ k. FlowAt b f.file.bytes.now k c.flow_at.result) (ap (λ n. n - 1) (nodes_are f.file.laid)) c.flow_at.ensures)
