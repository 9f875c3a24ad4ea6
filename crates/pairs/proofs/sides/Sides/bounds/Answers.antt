-- `bounds`: of a pair in order, its own levels (`Bounds`).
use Rattle.std.proofs.Common.{sym, ◌∙◌}
use Rattle.pairs.proofs.Bounds.{in_order, in_converse}
use Rattle.pairs.proofs.sides.Sides.bounds.Goals as goal

pub returns-then-at_or_below : goal.returns-then-at_or_below
returns-then-at_or_below c =
    let s = c.args.self.now in
    in_converse s.up.book s.down.book s.up.in_order s.turned _ _ c.requires.0 c.requires.1 (sym c.at_or_below.ensures ∙ c.if-at_or_below.true)

pub returns-then-at_or_below-2 : goal.returns-then-at_or_below-2
returns-then-at_or_below-2 c =
    let s = c.args.self.now in
    in_order s.up.book s.down.book s.up.in_order s.turned _ _ c.requires.0 c.requires.1 (sym c.at_or_below-2.ensures ∙ c.if-at_or_below-2.true)
