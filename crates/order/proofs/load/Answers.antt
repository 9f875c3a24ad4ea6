-- `load`: a book without a fault is in order (`Loads`).
use Rattle.std.proofs.Common.{sym, ◌∙◌}
use Rattle.order.proofs.Loads.{ordered}
use Rattle.order.proofs.load.Goals as goal

pub returns-in-None-clause-in_order : goal.returns-in-None-clause-in_order
returns-in-None-clause-in_order c =
    ordered c.args.s.now (sym c.read_book.ensures ∙ c.in-Some.is) (sym c.first_faulty.ensures ∙ c.in-None.is)
