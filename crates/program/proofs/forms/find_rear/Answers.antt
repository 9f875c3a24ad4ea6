-- `find_rear`: what the word of the node tells, put together as `rear_of` does.
use borrow.Author.Tests.{eq-eqb, ne_eqb}
use Rattle.program.specs.Forms.{beside, rear_of}
use Rattle.program.proofs.forms.find_rear.Goals as goal

pub returns-then-form-eq-BESIDE : goal.returns-then-form-eq-BESIDE
unfolding rear_of
returns-then-form-eq-BESIDE c = rw (eq-eqb c.args.form beside c.if-form-eq-BESIDE.true) (cc)

pub returns : goal.returns
unfolding rear_of
returns c = rw (ne_eqb c.args.form beside c.if-form-eq-BESIDE.false) (cc)
