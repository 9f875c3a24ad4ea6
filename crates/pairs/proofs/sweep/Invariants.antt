-- `sweep`: the pairs of the levels before i are taken up (`Sweeps`), and none of them lacks a level.
use Rattle.std.proofs.Common.{◌≡◌, ◌+◌, None}
use Rattle.book.specs.LevelBook.{at_or_below}
use Rattle.pairs.specs.Promises.{taken_before, Upto}
use Rattle.pairs.proofs.sweep.Given as goal

abbrev pub invariant-pairs : goal.invariant-pairs
invariant-pairs l =
    let b = l.both.up.book in
    (l.swept.place ≡ None)
    × ((l.swept.taken ≡ taken_before b.count l.most l.i (l.i + 1))
    × Upto (at_or_below b.rows) b.count l.swept.taken l.initial.tables l.tables)
