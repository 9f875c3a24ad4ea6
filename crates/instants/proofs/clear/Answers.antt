-- `clear`: the names below x hold their new values, the others what they held.
use Rattle.std.proofs.Common.{sym, ◌∙◌, arith}
use lib.IntN.{pos}
use Rattle.instants.proofs.Clearing.{renewed_none, renewed_set, renewed_kept, renewed_all}
use Rattle.instants.proofs.clear.Goals as goal
use Rattle.instants.proofs.clear.Goals.{then-cleared, else-cleared}

pub loop-x-init : goal.loop-x-init
loop-x-init g c f computes = renewed_none _ _

pub loop-x-preserved : goal.loop-x-preserved
loop-x-preserved g c f computes =
    let loop = c.loop-x in
    let below = c.loop-x-test.true in
    let test = sym (computes _ below _ c.cleared.ensures) in
    elim c.if-cleared.branch [
      | then-cleared w ↦
          rw w.values-is (renewed_set _ _ _ loop.values below (loop.invariant f computes) (pos 0) (rw (test ∙ w.if-cleared.true)))
      | else-cleared w ↦
          rw w.values-is (renewed_kept _ _ _ loop.values below (loop.invariant f computes) (rw (test ∙ w.if-cleared.false)))
    ]

pub returns : goal.returns
returns g c f computes =
    renewed_all _ _ _ c.loop-x.values (omega arith) (c.loop-x.invariant f computes)
