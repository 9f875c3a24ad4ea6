-- `run`: what was admitted is run; a refused call leaves all as it was.
use mathlib.Core.Path.{◌≡◌, sym, ap, ◌∙◌, subst}
use native.Mathlib.Omega.{arith}
use borrow.Author.Rules.{Fits-under}
use Rattle.prelude.specs.Refusals.{passes}
use Rattle.engine.specs.Answers.{Left}
use Rattle.engine.specs.Promises.{CanStart, run_for, Returns}
use Rattle.engine.proofs.Leaving.{refused_left_lem, can_start, Leaves, leaves}
use Rattle.engine.proofs.run.Goals as goal
use Rattle.engine.proofs.run.Goals.{After-run_checked-ran}

pub run_checked-ran-requires : goal.run_checked-ran-requires
run_checked-ran-requires c =
    let h = c.in-Ok.ensures in
    subst (λ s. CanStart s c.in-Ok.p.book c.args.reader c.args.values.now c.args.limit c.args.list.now) (sym h.1.bytes)
    (can_start _ _ _ _ _ _ h.0 h.1.book)

-- what the run leaves
left_so :
    (c : After-run_checked-ran) →
    let a = c.args in
    let r = c.run_checked-ran in
    Leaves a.book.now a.script.now a.reader a.values.now a.limit a.list.now a.log.now r.result r.new.values r.new.log
left_so c =
    let a = c.args in
    let r = c.run_checked-ran in
    let h = c.in-Ok.ensures in
    leaves _ _ _ _ _ _ h.0 h.1.book
    (subst (λ s. Returns (run_for c.in-Ok.p.book s a.reader a.values.now a.limit a.list.now a.log.now) a.log.now r.result r.new.values r.new.log) h.1.bytes r.ensures)

pub overflow_cast-at : goal.overflow_cast-at
overflow_cast-at c = Fits-under _ _ 4000000 (omega (arith, (left_so (goal.at.overflow_cast-at c).After-run_checked-ran).steps)) tt

pub overflow_cast-at-in-Ok : goal.overflow_cast-at-in-Ok
overflow_cast-at-in-Ok c =
    Fits-under _ _ 4000000 (omega (arith, (left_so (goal.at.overflow_cast-at-in-Ok c).After-run_checked-ran).instants)) tt

pub result_of-requires : goal.result_of-requires
result_of-requires c = omega (arith, (left_so (goal.at.result_of-requires c).After-run_checked-ran).lines)

pub returns-in-Ok-clause-value : goal.returns-in-Ok-clause-value
returns-in-Ok-clause-value c =
    let l = left_so (goal.at.returns-in-Ok-clause-value c).After-run_checked-ran in
    rw (c.result_of.ensures, c.from.ensures) l.result

pub returns-in-Ok-clause-values_after : goal.returns-in-Ok-clause-values_after
returns-in-Ok-clause-values_after c = (left_so (goal.at.returns-in-Ok-clause-values_after c).After-run_checked-ran).final

pub returns-in-Ok-clause-log_after : goal.returns-in-Ok-clause-log_after
returns-in-Ok-clause-log_after c = (left_so (goal.at.returns-in-Ok-clause-log_after c).After-run_checked-ran).logged

pub returns-in-Err-clause-value : goal.returns-in-Err-clause-value
returns-in-Err-clause-value c =
    let a = c.args in
    let h = c.in-Err.ensures in
    c.from-in-Err.ensures
    ∙ ap (λ (l : Left). l.result) (refused_left_lem a.book.now a.script.now a.reader a.values.now a.limit a.list.now a.log.now h.1 (ap passes h.1 ∙ h.0))

pub returns-in-Err-clause-values_after : goal.returns-in-Err-clause-values_after
returns-in-Err-clause-values_after c =
    let a = c.args in
    let h = c.in-Err.ensures in
    ap (λ (l : Left). l.values) (refused_left_lem a.book.now a.script.now a.reader a.values.now a.limit a.list.now a.log.now h.1 (ap passes h.1 ∙ h.0))

pub returns-in-Err-clause-log_after : goal.returns-in-Err-clause-log_after
returns-in-Err-clause-log_after c =
    let a = c.args in
    let h = c.in-Err.ensures in
    ap (λ (l : Left). l.log) (refused_left_lem a.book.now a.script.now a.reader a.values.now a.limit a.list.now a.log.now h.1 (ap passes h.1 ∙ h.0))
