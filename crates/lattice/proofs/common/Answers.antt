-- `common`: with no row, all levels.
use Rattle.std.proofs.Common.{sym, ◌∙◌}
use borrow.Author.Count.{below_none}
use Rattle.prelude.proofs.Searches.{all_intro}
use Rattle.prelude.proofs.Sets.{has_full}
use Rattle.book.specs.LevelBook.{most_levels}
use Rattle.lattice.proofs.common.Goals as goal

pub loop-i-init : goal.loop-i-init
loop-i-init c = λ t l. has_full most_levels t l ∙ sym (all_intro _ 0 (below_none _))
