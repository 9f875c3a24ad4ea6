-- `sweep_level`: the pairs before j are taken up (`Sweeps`).
use Rattle.std.proofs.Common.{◌≡◌, sym, ap, ◌∙◌, rules, arith}
use Rattle.prelude.specs.Search.{lesser}
use Rattle.pairs.specs.Sweeping.{pair_number}
use Rattle.pairs.proofs.Numbers.{next_number, next_row, level_end, before_here, before_next, before_more}
use Rattle.pairs.proofs.Sweeps.{next, stops}
use Rattle.pairs.proofs.sweep_level.Goals as goal

pub returns-in_default : goal.returns-in_default
returns-in_default c = λ t w.
    let here = before_here _ _ _ c.loop-j.invariant.0 c.if-most-taken.false in
    stops _ _ c.args.both.now.up.in_order.few _ _ _ (c.loop-j.invariant.1 t w) _ (omega arith) _ _ (omega arith) c.loop-j-test.true here
    c.if-most-taken.false (search (rules, c.in_default.ensures))

pub loop-j-preserved : goal.loop-j-preserved
loop-j-preserved c =
    let b = c.args.both.now.up.book in
    let before = c.loop-j.invariant.0 in
    let more = c.if-most-taken.false in (
      before_next _ _ _ before more ∙ ap (lesser c.args.most) (sym (next_number b.count c.args.i c.loop-j.j (omega arith))),
      λ t w.
          next _ _ c.args.both.now.up.in_order.few _ _ _ (c.loop-j.invariant.1 t w) _ _ _ _ (omega arith) c.loop-j-test.true
          (before_here _ _ _ before more) (search (rules, c.in-Some.ensures)) _ c.store.ensures.entries c.store-in-loop-j.ensures.entries,
    )

pub returns-after-loop-j : goal.returns-after-loop-j
returns-after-loop-j c = λ t w.
    let b = c.args.both.now.up.book in
    let last : c.loop-j.j ≡ b.count = omega arith in
    (c.loop-j.invariant.0 ∙ ap (λ j. lesser c.args.most (pair_number b.count c.args.i j)) last ∙ ap (lesser c.args.most) (next_row b.count c.args.i), c.loop-j.invariant.1 t w)

pub returns-then-most-taken : goal.returns-then-most-taken
returns-then-most-taken c = λ t w.
    let b = c.args.both.now.up.book in
    (before_more _ _ _ c.loop-j.invariant.0 c.if-most-taken.true _ (level_end b.count c.args.i c.loop-j.j (omega arith) c.loop-j-test.true), c.loop-j.invariant.1 t w)
