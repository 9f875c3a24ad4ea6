-- `byte_dropped`: by the tests.
use native.Mathlib.Omega.{arith}
use borrow.Author.Tests.{ne_eqb, lt-ltb, le-ltb}
use Rattle.program.specs.Forms.{before, beside}
use Rattle.advance.proofs.around.byte_dropped.Goals as goal

pub overflow_sub-result : goal.overflow_sub-result
overflow_sub-result c =
    c.requires (λ e. omega (arith, c.if-form-eq-BEFORE.true, e)) (λ e. omega (arith, c.if-form-eq-BEFORE.true, e))

pub returns-then-form-eq-BEFORE : goal.returns-then-form-eq-BEFORE
returns-then-form-eq-BEFORE c = rw c.if-form-eq-BEFORE.true

pub returns-then-form-lt-BESIDE : goal.returns-then-form-lt-BESIDE
returns-then-form-lt-BESIDE c = rw (ne_eqb _ before c.if-form-eq-BEFORE.false, lt-ltb _ beside c.if-form-lt-BESIDE.true)

pub overflow_sub-result-2 : goal.overflow_sub-result-2
overflow_sub-result-2 c =
    omega (arith, c.requires (λ e. omega (arith, c.if-form-lt-BESIDE.false, e)) (λ e. omega (arith, c.if-form-lt-BESIDE.false, e)))

pub returns : goal.returns
returns c = rw (ne_eqb _ before c.if-form-eq-BEFORE.false, le-ltb _ beside c.if-form-lt-BESIDE.false)
