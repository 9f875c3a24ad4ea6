-- `count_uses`: the table has how often the fields of the parts below q use each part.
use native.Mathlib.Omega.{arith}
use Rattle.layout.proofs.Layouts.{parts_are}
use Rattle.uses.proofs.Used.{times_none, times_all}
use Rattle.uses.proofs.count_uses.Goals as goal

pub loop-q-init : goal.loop-q-init
loop-q-init c = times_none _

pub returns : goal.returns
returns c = times_all _ c.loop-q.q c.loop-q.times (omega (arith, parts_are c.args.file.now.laid)) c.loop-q.invariant
