-- `count_fields`: the table has how often the fields below field f of part q use each part.
use mathlib.Core.Path.{◌≡◌, sym, subst}
use native.Mathlib.Omega.{arith}
use lib.Dec.{eqb}
use lib.ListN.{length-set}
use Rattle.prelude.proofs.Counts.{count_within, tally_hit, tally_miss}
use Rattle.layout.proofs.Layouts.{few_bounds}
use Rattle.fields.specs.Fields.{field_count}
use Rattle.uses.specs.Uses.{used}
use Rattle.uses.specs.Promises.{KeepsTimesTo}
use Rattle.uses.proofs.Used.{used_some, used_none, times_within, times_part}
use Rattle.uses.proofs.count_fields.Goals as goal
use Rattle.uses.proofs.count_fields.Goals.{in-Some+then-part-lt-MAX_PARTS, in-Some+else-part-lt-MAX_PARTS, in_default}

pub overflow_add-times : goal.overflow_add-times
overflow_add-times c =
    let file = c.args.file.now in
    let part = c.in-Some.part in
    omega (
      arith,
      few_bounds file.layout file.laid.few,
      c.loop-f.invariant.1 part c.if-part-lt-MAX_PARTS.true,
      times_within file.bytes.now part c.args.q,
      count_within (λ g. eqb (used file.bytes.now c.args.q g) part) c.loop-f.f,
    )

pub loop-f-preserved : goal.loop-f-preserved
loop-f-preserved c =
    let s = c.args.file.now.bytes.now in
    let loop = c.loop-f in
    let long = loop.invariant.0 in
    let tally = loop.invariant.1 in
    elim c.match-used_at.branch [
      | in-Some+then-part-lt-MAX_PARTS w ↦
          rw w.times-is (
            simp length-set long,
            tally_hit _ _ _ loop.times loop.f _ long w.if-part-lt-MAX_PARTS.true
                (sym (used_some s c.args.q loop.f (sym w.in-Some.ensures))) tally,
          )
      | in-Some+else-part-lt-MAX_PARTS w ↦
          rw w.times-is (
            long,
            tally_miss _ _ _ loop.times loop.f
                (rw (used_some s c.args.q loop.f (sym w.in-Some.ensures)) w.if-part-lt-MAX_PARTS.false) tally,
          )
      | in_default w ↦
          rw w.times-is
          (long, tally_miss _ _ _ loop.times loop.f (omega (arith, used_none s c.args.q loop.f (sym w.in_default.ensures))) tally)
    ]

pub returns : goal.returns
returns c =
    let all : c.loop-f.f ≡ field_count = omega arith in
    let s = c.args.file.now.bytes.now in
    times_part s c.args.q c.loop-f.times (subst (λ f. KeepsTimesTo s c.args.q f c.loop-f.times) all c.loop-f.invariant)
