-- `least_upper`: no level below k is the least common upper one (`Rows`).
use borrow.Author.Count.{below_more}
use Rattle.std.proofs.Common.{sym}
use Rattle.pairs.proofs.Rows.{none_sooner, not_least, found_here, found_nowhere}
use Rattle.pairs.proofs.sides.least_upper.Goals as goal

pub loop-k-init : goal.loop-k-init
loop-k-init c =
    let b = c.args.levels.now.book in rw c.lowest-k.ensures (none_sooner b.rows b.count c.args.i c.args.j)

pub loop-k-preserved : goal.loop-k-preserved
loop-k-preserved c =
    below_more _ _ c.loop-k.invariant
    (not_least _ _ _ _ c.args.levels.now.in_order c.requires.0 c.requires.1 _ c.loop-k-test.true c.if-rows-k.false)

pub returns : goal.returns
returns c =
    sym
    (found_nowhere _ _ _ _ c.args.levels.now.in_order c.requires.0 c.requires.1 _ c.loop-k.invariant c.loop-k-test.false)

pub returns-then-rows-k : goal.returns-then-rows-k
returns-then-rows-k c =
    sym
    (found_here _ _ _ _ c.args.levels.now.in_order c.requires.0 c.requires.1 _ c.loop-k.invariant c.loop-k-test.true
    c.if-rows-k.true)
