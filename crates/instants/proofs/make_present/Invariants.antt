-- `make_present`: the signals of the pairs before k are present.
use Rattle.instants.specs.Promises.{MadePresent}
use Rattle.instants.proofs.make_present.Given as goal

abbrev pub invariant-loop-k : goal.invariant-loop-k
invariant-loop-k l = MadePresent l.list l.from l.k l.initial.values l.values
