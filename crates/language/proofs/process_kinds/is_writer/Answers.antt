-- `is_writer`: by the kind.
use mathlib.Core.Path.{sym}
use borrow.Author.Tests.{ne_eqb}
use Rattle.language.proofs.process_kinds.is_writer.Goals as goal

pub returns-then-kind-eq-ASSIGN : goal.returns-then-kind-eq-ASSIGN
returns-then-kind-eq-ASSIGN c = rw c.if-kind-eq-ASSIGN.true

pub returns-else-kind-eq-ASSIGN : goal.returns-else-kind-eq-ASSIGN
returns-else-kind-eq-ASSIGN c = sym (rw (ne_eqb _ 1 c.if-kind-eq-ASSIGN.false))
