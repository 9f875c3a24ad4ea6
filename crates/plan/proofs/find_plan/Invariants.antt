-- `find_plan`: the table has the words of the names and of the expressions still, and those of the nodes below k.
use Rattle.plan.specs.Plan.{sees_in, Keeps}
use Rattle.plan.proofs.find_plan.Given as goal

abbrev pub invariant-loop-k : goal.invariant-loop-k
invariant-loop-k l =
    let f = l.checked.file in
    Keeps f.bytes.now (sees_in l.book f.bytes.now l.reader) f.layout.names f.layout.expressions l.k l.words
