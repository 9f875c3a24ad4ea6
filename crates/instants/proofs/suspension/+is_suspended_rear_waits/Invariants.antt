-- A child has a smaller number; `rear_waits` is asked by `is_suspended` of the same node.
use Rattle.std.proofs.Common.{◌+◌, ◌*◌}
use Rattle.instants.proofs.suspension.+is_suspended_rear_waits.Given as goal

abbrev pub decreases-is_suspended : goal.decreases-is_suspended
decreases-is_suspended l = 2 * l.k + 1

abbrev pub decreases-rear_waits : goal.decreases-rear_waits
decreases-rear_waits l = 2 * l.k
