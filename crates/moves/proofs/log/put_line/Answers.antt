-- `put_line`: a store keeps the length.
use native.Mathlib.Omega.{arith}
use lib.ListN.{length-set}
use Rattle.moves.proofs.log.put_line.Goals as goal

pub bounds-log-at-2 : goal.bounds-log-at-2
bounds-log-at-2 c = simp length-set (omega arith)

pub bounds-log-at-3 : goal.bounds-log-at-3
bounds-log-at-3 c = simp length-set (omega arith)

pub bounds-log-at-4 : goal.bounds-log-at-4
bounds-log-at-4 c = simp length-set (omega arith)
