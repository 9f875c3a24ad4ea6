-- `show_files`: each line takes some of the text.
use Rattle.std.proofs.Common.{length, ◌-◌, ◌≤◌}
use Rattle.examples.proofs.show_files.Given as goal

abbrev pub invariant-loop-at : goal.invariant-loop-at
invariant-loop-at g l = l.at ≤ length l.text

abbrev pub decreases-loop-at : goal.decreases-loop-at
decreases-loop-at g l = length l.text - l.at
