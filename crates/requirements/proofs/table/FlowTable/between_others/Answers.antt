-- `between_others`: the sets below i are done.
use mathlib.Core.Path.{◌∙◌}
use native.Mathlib.Omega.{arith}
use lib.ListN.{length-set}
use Rattle.prelude.proofs.Tables.{fill_none, fill_more, fill_all}
use Rattle.requirements.proofs.table.FlowTable.between_others.Invariants.{others_of}
use Rattle.requirements.proofs.table.FlowTable.between_others.Goals as goal

pub loop-i-init : goal.loop-i-init
loop-i-init c = (c.args.self.long, fill_none (others_of c.args.self.sets))

pub loop-i-preserved : goal.loop-i-preserved
loop-i-preserved c =
    let loop = c.loop-i in (
      length-set loop.between loop.i c.others.result ∙ loop.invariant.0,
      fill_more (others_of c.args.self.sets) _ _ _ (omega (arith, loop.invariant.0, c.loop-i-test.true)) loop.invariant.1 c.others.ensures,
    )

pub returns : goal.returns
returns c =
    let loop = c.loop-i in
    fill_all (others_of c.args.self.sets) _ _ _ loop.invariant.0 loop.auto.i-end c.loop-i-test.false loop.invariant.1
