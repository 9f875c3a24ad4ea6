-- `sweep`: the pairs of the levels before i are taken up (`Sweeps`), and none of them lacks a level.
use Rattle.std.proofs.Common.{◌≡◌, ℕ, ◌+◌, ◌≤◌, refl, sym, ap, subst, ◌∙◌, arith}
use Rattle.prelude.specs.Search.{lesser}
use Rattle.prelude.proofs.Searches.{lesser_right}
use Rattle.book.specs.declared.Book.{Book}
use Rattle.book.specs.LevelBook.{at_or_below}
use Rattle.pairs.specs.declared.Swept.{Swept}
use Rattle.pairs.specs.declared.table.Tables.{Tables}
use Rattle.pairs.specs.Sweeping.{pair_number, level_pairs, Sweeps}
use Rattle.pairs.proofs.Numbers.{first_number, row_within, last_row, before_more}
use Rattle.pairs.proofs.Sweeps.{start, ended, stopped}
use Rattle.pairs.proofs.sweep.Goals as goal

-- a sweep of a book
abbrev SweepsOf : ℕ → Tables → Tables → Swept → Book → Type 0
SweepsOf k t t' r b = Sweeps (at_or_below b.rows) b.count k t t' r

pub pairs-init : goal.pairs-init
pairs-init c =
    let b = c.of-both.result.up.book in
    (refl, (sym (ap (lesser c.args.most) (first_number b.count) ∙ lesser_right c.args.most 0 (omega arith)), start (at_or_below b.rows) b.count c.args.tables.now))

pub returns-after-pairs : goal.returns-after-pairs
returns-after-pairs c =
    let b = c.of-both.result.up.book in
    let inv = c.pairs.invariant in
    let last : c.pairs.i ≡ b.count = omega (arith, ap (λ x. x.count) c.of-both.ensures) in
    let all : c.pairs.swept.taken ≡ lesser c.args.most (level_pairs b.count) =
    inv.1.0 ∙ ap (λ i. lesser c.args.most (pair_number b.count i (i + 1))) last ∙ ap (lesser c.args.most) (last_row b.count)
    in
    subst (SweepsOf c.args.most c.args.tables.now c.pairs.tables c.pairs.swept) c.of-both.ensures
    (ended _ _ c.of-both.result.up.in_order.few _ _ _ inv.1.1 _ all _ refl inv.0)

pub returns-then-most-swept : goal.returns-then-most-swept
returns-then-most-swept c =
    let b = c.of-both.result.up.book in
    let inv = c.pairs.invariant in
    let within : c.pairs.i ≤ b.count = omega (arith, ap (λ x. x.count) c.of-both.ensures, c.pairs-test.true) in
    let all = before_more _ _ _ inv.1.0 (omega (arith, c.if-most-swept.true)) _ (row_within b.count c.pairs.i within) in
    subst (SweepsOf c.args.most c.args.tables.now c.pairs.tables c.pairs.swept) c.of-both.ensures
    (ended _ _ c.of-both.result.up.in_order.few _ _ _ inv.1.1 _ all _ refl inv.0)

pub returns-then-is_some : goal.returns-then-is_some
returns-then-is_some c =
    let w = c.sweep_level-swept.ensures c.args.tables.now c.pairs.invariant.1.1 in
    subst (SweepsOf c.args.most c.args.tables.now c.sweep_level-swept.new.tables c.sweep_level-swept.result) c.of-both.ensures
    (stopped c.pairs.i c.sweep_level-swept.result (sym c.is_some.ensures ∙ c.if-is_some.true) w)
