-- `common`: what the rows below i share.
use Rattle.prelude.specs.Search.{all}
use Rattle.prelude.specs.Sets.{IsSet}
use Rattle.book.specs.LevelBook.{most_levels, at_or_below}
use Rattle.lattice.proofs.common.Given as goal

abbrev pub invariant-loop-i : goal.invariant-loop-i
invariant-loop-i l = IsSet most_levels (λ t. all (λ k. at_or_below l.b.rows k t) l.i) l.set
