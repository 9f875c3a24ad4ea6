-- `prepare`: the book, the script under it, and the first node whose need fails.
use mathlib.Core.Path.{◌≡◌, refl, ap, ◌∙◌}
use native.Mathlib.Omega.{arith}
use Rattle.std.proofs.lemmas.Result.{err_from_is_err_and}
use Rattle.layout.proofs.Layouts.{nodes_are}
use Rattle.layout.specs.Layout.{node_count}
use Rattle.checker.proofs.Preparing.{at_book, book_refuses, ordered, at_script, script_refuses, flow, at_node, past_nodes}
use Rattle.checker.proofs.prepare.Goals as goal
use Rattle.checker.proofs.prepare.Goals.{After-find_flow-flow}

pub returns-in_err-levels : goal.returns-in_err-levels
returns-in_err-levels c =
    let p = err_from_is_err_and c.from_residual.result c.from_residual.ensures.1 in
    let h = c.in_err-levels.ensures in
    rw (p.1, p.2) (book_refuses _ _ h.0, at_book _ _ h.0 h.1)

pub returns-in_err-checked : goal.returns-in_err-checked
returns-in_err-checked c =
    let p = err_from_is_err_and c.from_residual-in_err-checked.result c.from_residual-in_err-checked.ensures.1 in
    let read = c.in_ok-levels.ensures in
    let h = c.in_err-checked.ensures.answers in
    rw (p.1, p.2) (script_refuses _ _ read.0 _ read.1 h.0, at_script _ _ read.0 _ read.1 h.0 h.1)

pub find_flow-flow-requires-clause-ordered : goal.find_flow-flow-requires-clause-ordered
find_flow-flow-requires-clause-ordered c = ordered c.args.b.now c.args.s.now c.in_ok-levels.ensures.0 _ c.in_ok-levels.ensures.1

-- how many nodes there are
nodes : (c : After-find_flow-flow) → c.in_ok-checked.checked.file.layout.nodes ≡ node_count c.args.s.now
nodes c = nodes_are c.in_ok-checked.checked.file.laid ∙ ap node_count c.in_ok-checked.ensures.answers.1

pub returns-then-flow-checked : goal.returns-then-flow-checked
returns-then-flow-checked c =
    let read = c.in_ok-levels.ensures in
    let file = c.in_ok-checked.ensures.answers in
    let below = c.if-flow-checked.true in
    let e =
    at_node _ _ read.0 _ read.1 file.0 file.1 _ c.find_flow-flow.ensures
    (omega (arith, below, nodes (goal.at.returns-then-flow-checked c).After-find_flow-flow))
    in
    rw e (refl, c.at.ensures)

pub returns : goal.returns
returns c =
    let read = c.in_ok-levels.ensures in
    let file = c.in_ok-checked.ensures.answers in
    let f = flow _ _ read.0 _ read.1 file.0 file.1 _ c.find_flow-flow.ensures in
    let inside = c.find_flow-flow.ensures.inside in
    let few = (ordered c.args.b.now c.args.s.now read.0 _ read.1).few in (
      past_nodes _ _ read.0 _ read.1 file.0 file.1 _ c.find_flow-flow.ensures
          (omega (arith, c.if-flow-checked.false, nodes (goal.at.returns c).After-find_flow-flow)),
      record {
        book = read.1;
        bytes = file.1;
        write = f.write;
        test = f.test;
        few = (omega (arith, inside.write, few), omega (arith, inside.test, few));
      },
    )
