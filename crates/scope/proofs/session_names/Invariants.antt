-- `session_names`: of the names below x the set has those of the session, and no other name.
use Rattle.prelude.specs.Sets.{IsSet}
use Rattle.layout.specs.Layout.{most_names}
use Rattle.layout.specs.Entries.{is_session}
use Rattle.scope.proofs.Sets.{up_to}
use Rattle.scope.proofs.session_names.Given as goal

abbrev pub invariant-loop-x : goal.invariant-loop-x
invariant-loop-x l = IsSet most_names (up_to l.x (is_session l.file.bytes.now)) l.names
