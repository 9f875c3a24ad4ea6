-- `find_front`: what the word of the node tells, put together as `front_of` does.
use mathlib.Core.Path.{sym}
use mathlib.Core.Logic.{⊎_elim}
use Prim.Native.Nat.{ℕ}
use lib.Dec.{eqb}
use borrow.Author.Tests.{eq-eqb, ne_eqb}
use Rattle.prelude.proofs.Bools.{or_first, or-true}
use Rattle.program.specs.Forms.{second, turned}
use Rattle.program.proofs.Fronts.{front_none, front_second, front_first}
use Rattle.program.proofs.forms.find_front.Goals as goal

pub returns-then-form-le-ITSELF : goal.returns-then-form-le-ITSELF
returns-then-form-le-ITSELF c = sym (front_none _ _ _ c.args.len c.form_at-form.ensures c.if-form-le-ITSELF.true)

pub returns-then-form-eq-SECOND : goal.returns-then-form-eq-SECOND
returns-then-form-eq-SECOND c =
    let form : ℕ = c.form_at-form.result in
    cc
    (front_second _ _ _ c.args.len c.form_at-form.ensures c.if-form-le-ITSELF.false
    (⊎_elim
    (λ t. or_first (eqb form second) (eqb form turned) (eq-eqb form second t))
    (λ t. or-true (eqb form second) (eqb form turned) (eq-eqb form turned t.1))
    c.then-form-eq-SECOND.either))

pub returns : goal.returns
returns c =
    cc
    (front_first _ _ _ c.args.len c.form_at-form.ensures c.if-form-le-ITSELF.false
    (rw (ne_eqb _ second c.if-form-eq-SECOND.false) (ne_eqb _ turned c.if-form-eq-TURNED.false)))
