-- `is_present`: a value is 0 where its bits are.
use lib.IntN.{pos}
use lib.ListN.{get_or}
use Rattle.values.proofs.Bits.{test_by_bits}
use Rattle.evaluation.proofs.is_present.Goals as goal

pub returns : goal.returns
returns c = test_by_bits (get_or c.args.values.now c.args.a (pos 0)) c.result-1.given
