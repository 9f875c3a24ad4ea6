-- `read_values`: the first i values have been read.
use Rattle.std.proofs.Common.{◌≡◌, take}
use Rattle.prelude.specs.Table.{table}
use Rattle.station.specs.Values.{value_in}
use Rattle.station.proofs.file_values.read_values.Given as goal

abbrev pub invariant-loop-i : goal.invariant-loop-i
invariant-loop-i l = take l.i l.values ≡ table (value_in l.fn.bytes) l.i
