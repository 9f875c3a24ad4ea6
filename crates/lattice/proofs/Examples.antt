-- The example books, computed from the definitions.
use mathlib.Core.Path.{◌≡◌, refl}
use mathlib.Core.Bool.{true}
use Rattle.prelude.specs.Search.{first_from, first, any, all}
use Rattle.prelude.specs.Table.{table}
use Rattle.order.specs.Order.{least_upper}
use Rattle.order.specs.Refusals as orders
use Rattle.pairs.specs.Refusals.{first_lacking}
use Rattle.lattice.specs.Refusals.{refusal}
use Rattle.lattice.specs.Examples.{books, all_come_out}

pub examples : all_come_out books ≡ true
unfolding first_from first any all table least_upper orders.is_faulty orders.first_faulty orders.refusal first_lacking refusal
examples = refl
