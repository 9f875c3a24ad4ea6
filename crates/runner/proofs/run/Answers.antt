-- `run`: the script is run as far as it goes in an instant, then the instant changes.
use mathlib.Core.Path.{◌≡◌, refl, sym, ap, ◌∙◌, subst}
use mathlib.Core.Bool.{Bool, true, false, not, true≢false}
use mathlib.Core.Logic.{⊎_elim}
use Prim.Native.Nat.{ℕ, ◌/◌, ◌<◌}
use native.Mathlib.Nat.{le_antisymm}
use native.Mathlib.Numerals.{add-one}
use native.Mathlib.Omega.{arith}
use lib.ListN.{length}
use borrow.Author.Rules.{Fits-under}
use Rattle.language.specs.Steps.{suspended}
use Rattle.program.specs.Program.{seen_by}
use Rattle.inputs.specs.Promises.{Cursor}
use Rattle.moves.specs.declared.counts.Counts.{Counts}
use denote.Enum.Bare.{sameb}
use Rattle.moves.specs.contracts.counts.Reason.{the_type}
use Rattle.moves.specs.declared.counts.Reason.{Reason}
use Rattle.moves.specs.declared.counts.Reason.TheVariants.{Nil, Suspended, Spent, Full}
use Rattle.moves.specs.Moves.{Running, Ends}
use Rattle.moves.proofs.Advancing.{path_later, path_instants}
use Rattle.runner.specs.Promises.{script_at, ending_by}
use Rattle.runner.proofs.Whole.{Comes, comes_on, ends_so, comes_changed, comes_idle, runs_to}
use Rattle.runner.proofs.run.Goals as goal
use Rattle.runner.proofs.run.Goals.{After-after_changes-waited, After-run_instant-r, Else-limit-waited, Else-limit-r}

-- where the instant has come to, and why it goes no further
advanced :
    (c : After-run_instant-r) →
    let a = c.args in
    let r = c.run_instant-r in
    Comes a.program.now a.list.now a.limit (script_at a.program.now a.state.now a.values.now a.log.now a.from)
    r.new.state r.new.values r.new.log r.result.at
advanced c =
    let r = c.run_instant-r in
    comes_on _ _ _ _ c.loop-r.invariant.0 r.new.state r.new.values r.new.log r.result r.ensures r.auto.state
    r.auto.values r.auto.log

ends :
    (c : After-run_instant-r) →
    let a = c.args in
    let r = c.run_instant-r in
    Ends (seen_by a.program.now) a.limit (length a.log.now / 4)
    (script_at a.program.now r.new.state r.new.values r.new.log r.result.at) r.result.why
ends c =
    let r = c.run_instant-r in
    ends_so _ _ _ _ c.loop-r.invariant.0 r.new.state r.new.values r.new.log r.result r.ensures

-- the cursor stands where it stood, since moves count no instant
cursor-stays :
    (c : After-run_instant-r) →
    Cursor c.args.list.now c.run_instant-r.result.at.instants c.loop-r.cursor
cursor-stays c =
    subst (λ i. Cursor c.args.list.now i c.loop-r.cursor) (sym (path_instants c.run_instant-r.ensures.path))
    c.loop-r.invariant.1

-- the script is suspended
by_name : (why : Reason) {b : Bool} → b ≡ not (sameb the_type why Suspended) → b ≡ false → why ≡ Suspended
by_name Nil q e = absurd (true≢false (sym q ∙ e))
by_name Suspended q e = refl
by_name Spent q e = absurd (true≢false (sym q ∙ e))
by_name Full q e = absurd (true≢false (sym q ∙ e))

still :
    (c : Else-limit-r) →
    let r = c.run_instant-r in
    suspended (script_at c.args.program.now r.new.state r.new.values r.new.log r.result.at).process r.new.values
    ≡ true
still c =
    let r = c.run_instant-r in
    subst (Ends _ _ _ _) (by_name _ c.ne.ensures c.if-ne.false)
    (ends_so _ _ _ _ c.loop-r.invariant.0 r.new.state r.new.values r.new.log r.result r.ensures)

-- after the instants in which nothing changes
waited :
    (c : After-after_changes-waited) →
    let a = c.args in
    let r = c.run_instant-r in
    Comes a.program.now a.list.now a.limit (script_at a.program.now a.state.now a.values.now a.log.now a.from)
    r.new.state r.new.values r.new.log c.after_changes-waited.result
waited c =
    let r = c.run_instant-r in
    let u = c.loop-r.invariant in
    rw c.after_changes-waited.ensures
    (comes_idle _ _ _ _
    (comes_on _ _ _ _ u.0 r.new.state r.new.values r.new.log r.result r.ensures r.auto.state r.auto.values r.auto.log)
    (subst (Ends _ _ _ _) (by_name _ c.ne.ensures c.if-ne.false)
    (ends_so _ _ _ _ u.0 r.new.state r.new.values r.new.log r.result r.ensures))
    _
    (subst (λ i. Cursor c.args.list.now i c.loop-r.cursor) (sym (path_instants r.ensures.path)) u.1)
    _ c.idle_changes-idle.ensures)

cursor-waits :
    (c : After-after_changes-waited) →
    Cursor c.args.list.now c.after_changes-waited.result.instants c.loop-r.cursor
cursor-waits c = rw c.after_changes-waited.ensures c.idle_changes-idle.ensures.cursor

-- there are steps left
more : (c : Else-limit-waited) → c.after_changes-waited.result.steps < c.args.limit
more c = c.if-limit-waited.false

pub returns-then-ne : goal.returns-then-ne
returns-then-ne c =
    let u = advanced (goal.at.returns-then-ne c).After-run_instant-r in
    runs_to u c.run_instant-r.result.why (ends (goal.at.returns-then-ne c).After-run_instant-r)
    (λ e.
    ⊎_elim
    (λ t. absurd (true≢false (sym t ∙ c.ne.ensures ∙ ap (λ why. not (sameb the_type why Suspended)) e)))
    (λ t. le_antisymm u.can.counted.time t.1)
    c.then-ne.either)
    c.from-ending.ensures refl

pub idle_changes-idle-requires : goal.idle_changes-idle-requires
idle_changes-idle-requires c =
    let u = (advanced (goal.at.idle_changes-idle-requires c).After-run_instant-r).can in
    record {
      valued = u.valued;
      time = u.counted.time;
      rising = c.requires.right.rising;
      cursor = cursor-stays (goal.at.idle_changes-idle-requires c).After-run_instant-r;
    }

pub after_changes-waited-requires : goal.after_changes-waited-requires
after_changes-waited-requires c =
    let u = (advanced (goal.at.after_changes-waited-requires c).After-run_instant-r).can.counted in
    let time = c.idle_changes-idle.ensures.time in
    (omega (arith, time, u.most), omega (arith, u.instants, time, u.most))

pub returns-then-limit-waited : goal.returns-then-limit-waited
returns-then-limit-waited c =
    let u = waited (goal.at.returns-then-limit-waited c).After-after_changes-waited in
    runs_to u Suspended (still (goal.at.returns-then-limit-waited c).Else-limit-r)
    (λ e. le_antisymm u.can.counted.time c.if-limit-waited.true)
    (c.from-ending.ensures ∙ ap ending_by (by_name _ c.ne.ensures c.if-ne.false)) refl

pub overflow_add-waited : goal.overflow_add-waited
overflow_add-waited c =
    let u = (waited (goal.at.overflow_add-waited c).After-after_changes-waited).can.counted in
    Fits-under _ _ 4000000 (omega (arith, u.instants, u.time, u.most)) tt

pub next_instant-at-requires : goal.next_instant-at-requires
next_instant-at-requires c =
    let u = (waited (goal.at.next_instant-at-requires c).After-after_changes-waited).can in
    record {
      node = record { valued = u.valued; node = u.node };
      time = omega (arith, more (goal.at.next_instant-at-requires c).Else-limit-waited, u.counted.most);
      instants = u.counted.instants;
      right = c.requires.right;
      before = cursor-waits (goal.at.next_instant-at-requires c).After-after_changes-waited;
      after = subst (λ i. Cursor c.args.list.now i c.pass-to.result) (add-one c.after_changes-waited.result.instants) c.pass-to.ensures;
    }

pub loop-r-smaller : goal.loop-r-smaller
loop-r-smaller c =
    omega (
      arith,
      ap (λ (x : Running ℕ). x.steps) (c.next_instant-at.ensures c.args.log.now),
      ap (λ (x : Counts). x.steps) c.after_changes-waited.ensures,
      path_later c.run_instant-r.ensures.path,
      more (goal.at.loop-r-smaller c).Else-limit-waited,
    )

pub loop-r-preserved : goal.loop-r-preserved
loop-r-preserved c =
    let r = c.next_instant-at in
    let e = r.ensures c.args.log.now in (
      comes_changed _ _ _ _ (waited (goal.at.loop-r-preserved c).After-after_changes-waited) (still (goal.at.loop-r-preserved c).Else-limit-r) (more (goal.at.loop-r-preserved c).Else-limit-waited) r.auto.state r.auto.values (r.ensures _),
      rw (ap (λ (x : Running ℕ). x.instants) e, ← add-one c.after_changes-waited.result.instants) c.pass-to.ensures,
    )
