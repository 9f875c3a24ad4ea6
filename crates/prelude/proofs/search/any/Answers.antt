-- `any`: some number was found.
use Rattle.std.proofs.Common.{rules}
use Rattle.prelude.specs.Search.{any}
use Rattle.prelude.proofs.search.any.Goals as goal

pub returns : goal.returns
unfolding any
returns g c f computes = search rules
