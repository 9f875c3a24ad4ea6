-- `sweep_level`: the pairs before j are taken up (`Sweeps`).
use Rattle.std.proofs.Common.{◌≡◌}
use Rattle.book.specs.LevelBook.{at_or_below}
use Rattle.pairs.specs.declared.table.Tables.{Tables}
use Rattle.pairs.specs.Promises.{taken_before, Upto}
use Rattle.pairs.proofs.sweep_level.Given as goal

abbrev pub invariant-loop-j : goal.invariant-loop-j
invariant-loop-j l =
    let b = l.both.up.book in
    (l.taken ≡ taken_before b.count l.most l.i l.j)
    × ((t : Tables) → Upto (at_or_below b.rows) b.count l.initial.taken t l.initial.tables → Upto (at_or_below b.rows) b.count l.taken t l.tables)
