-- `read_values`: the first i values have been read.
use Rattle.std.proofs.Common.{rules, arith}
use Rattle.prelude.proofs.Tables.{fill_none, fill_more}
use Rattle.station.proofs.Pieces.{value_is}
use Rattle.station.proofs.file_values.read_values.Goals as goal

pub loop-i-init : goal.loop-i-init
loop-i-init c = fill_none _

pub loop-i-preserved : goal.loop-i-preserved
loop-i-preserved c = fill_more _ c.loop-i.values c.loop-i.i _ (omega arith) c.loop-i.invariant (value_is c.args.bytes.now _ c.as_chunks.ensures.front c.loop-i.i (omega arith) (search rules))

pub returns : goal.returns
returns c = record { count = search rules; within = search rules; read = search rules }
