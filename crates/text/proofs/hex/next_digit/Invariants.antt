-- `next_digit`: the digits from index i on are those of the line.
use mathlib.Core.Path.{◌≡◌}
use lib.ListN.{drop}
use Rattle.text.specs.Hex.{digits}
use Rattle.text.proofs.hex.next_digit.Given as goal

abbrev pub invariant-loop-i : goal.invariant-loop-i
invariant-loop-i l = digits l.line ≡ digits (drop l.i l.line)
