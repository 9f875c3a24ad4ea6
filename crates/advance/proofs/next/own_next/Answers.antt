-- `own_next`: by the form.
use mathlib.Core.Path.{sym}
use borrow.Author.Tests.{eq-eqb, ne_eqb}
use Rattle.program.specs.Forms.{itself}
use Rattle.advance.proofs.next.own_next.Goals as goal

pub returns-then-form-eq-ITSELF : goal.returns-then-form-eq-ITSELF
returns-then-form-eq-ITSELF c = sym (rw (eq-eqb _ itself c.if-form-eq-ITSELF.true))

pub returns : goal.returns
returns c = sym (rw (ne_eqb _ itself c.if-form-eq-ITSELF.false))
