-- `all`: no number fails the test.
use Rattle.std.proofs.Common.{rules, ap, not}
use Rattle.prelude.specs.Search.{all}
use Rattle.prelude.proofs.search.all.Goals as goal

pub returns : goal.returns
unfolding all
returns g c f computes = ap not (c.any.ensures (λ k. not (f k)) (λ k l b p. search (rules, computes)))
