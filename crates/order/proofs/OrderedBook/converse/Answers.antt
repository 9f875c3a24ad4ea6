-- `converse`: the order upside down is an order.
use Rattle.order.proofs.Duals.{converse_in_order}
use Rattle.order.proofs.OrderedBook.converse.Goals as goal

pub invariant_of-result : goal.invariant_of-result
invariant_of-result c =
    let b = c.args.self.now.book in
    record { in_order = rw c.converse_rows.ensures (converse_in_order b.rows b.count c.args.self.now.in_order) }
