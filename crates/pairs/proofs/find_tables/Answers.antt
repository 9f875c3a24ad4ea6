-- `find_tables`: a sweep over all pairs (`Pairs`).
use Rattle.std.proofs.Common.{sym, ◌∙◌, arith}
use Rattle.pairs.proofs.Numbers.{pairs_fit}
use Rattle.pairs.proofs.Pairs.{keeps_all}
use Rattle.pairs.proofs.find_tables.Goals as goal

pub returns-in-Ok : goal.returns-in-Ok
returns-in-Ok c =
    let l = c.args.levels.now in
    keeps_all l.book _ l.in_order (omega (arith, pairs_fit l.book.count l.in_order.few)) _ _ c.sweep-swept.result c.new-tables.ensures.joins
    c.new-tables.ensures.meets c.sweep-swept.ensures (sym c.lack_refusal.ensures ∙ c.in-Ok.is)
