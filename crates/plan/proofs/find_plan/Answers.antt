-- `find_plan`: the words of the names, the expressions and the nodes, and that of the counts.
use mathlib.Core.Path.{subst}
use native.Mathlib.Omega.{arith}
use Rattle.layout.proofs.Layouts.{few_bounds}
use Rattle.plan.specs.Plan.{sees_in, Keeps}
use Rattle.plan.proofs.Plans.{node_more}
use Rattle.plan.proofs.Joining.{packed, program_of}
use Rattle.plan.proofs.find_plan.Goals as goal

pub loop-k-preserved : goal.loop-k-preserved
loop-k-preserved c =
    let file = c.args.checked.now.file in
    let few = few_bounds file.layout file.laid.few in
    node_more c.loop-k.invariant few.0 few.1.0 (omega (arith, c.loop-k-test.true, few)) c.node_word.ensures

pub returns : goal.returns
returns c =
    let f = c.args.checked.now in
    let s = f.file.bytes.now in
    let kept =
    subst
    (λ n. Keeps s (sees_in c.args.book.now s c.args.reader) f.file.layout.names f.file.layout.expressions n c.loop-k.words)
    (omega (arith, c.loop-k-test.false, c.loop-k.auto.k-end))
    c.loop-k.invariant
    in
    program_of _ _ _ f.checked (packed f.file.layout f.file.laid kept _ c.pack_counts.ensures)
