-- `converse_rows`: with no level, each set is empty.
use Rattle.std.proofs.Common.{refl}
use Rattle.prelude.specs.Sets.{set_of}
use Rattle.prelude.specs.Table.{table}
use Rattle.order.specs.Rows.{lower_levels, converse_rows}
use Rattle.order.proofs.converse.converse_rows.Goals as goal

pub loop-i-init : goal.loop-i-init
unfolding converse_rows lower_levels table set_of
loop-i-init c = refl
