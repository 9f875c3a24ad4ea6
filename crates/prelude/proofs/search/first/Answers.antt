-- `first`: what the test answers is what f says.
use Rattle.std.proofs.Common.{sym, ◌∙◌, arith}
use Rattle.prelude.proofs.Found.{found_at, found_none}
use Rattle.prelude.proofs.search.first.Goals as goal

pub returns-then-test : goal.returns-then-test
returns-then-test g c f computes =
    let below = c.loop-i-test.true in
    sym
    (found_at f _ _ below (sym (computes _ below _ c.test.ensures) ∙ c.if-test.true)
    (λ k l. sym (computes k (omega (arith, below)) _ (c.loop-i.invariant k l))))

pub returns : goal.returns
returns g c f computes =
    sym
    (found_none f _
    (λ k l. sym (computes k l _ (c.loop-i.invariant k (omega (arith, c.loop-i-test.false))))))
