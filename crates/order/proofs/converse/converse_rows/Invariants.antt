-- `converse_rows`: the sets have the levels below i that they should.
use Rattle.std.proofs.Common.{◌≡◌}
use Rattle.order.specs.Rows.{converse_rows}
use Rattle.order.proofs.converse.converse_rows.Given as goal

abbrev pub invariant-loop-i : goal.invariant-loop-i
invariant-loop-i l = l.below ≡ converse_rows l.b.rows l.i
