-- `others`: a set that has not the level is its own.
use mathlib.Core.Path.{sym, ap, ◌∙◌}
use native.Mathlib.Omega.{arith}
use Rattle.prelude.specs.Sets.{has}
use Rattle.requirements.proofs.Others.{left}
use Rattle.requirements.proofs.table.others.Goals as goal

pub returns-else-has : goal.returns-else-has
returns-else-has c =
    let a = c.args in
    sym (left a.set a.i (omega (arith, c.ranges.set.fits)) (ap (λ n. has n a.i) (sym c.from.ensures) ∙ sym c.has.ensures ∙ c.if-has.false))
