-- `filled`: each entry of each row is the level.
use Rattle.std.proofs.Common.{[], get_or, ap, ◌∙◌}
use lib.ListN.{replicate, get_or-replicate}
use Rattle.book.specs.LevelBook.{most_levels}
use Rattle.pairs.proofs.table.PairTable.filled.Goals as goal

pub returns : goal.returns
returns c = λ i j hi hj.
    let row = replicate most_levels c.args.level in
    ap (λ r. get_or r j 0) (get_or-replicate most_levels i row [] hi) ∙ get_or-replicate most_levels j c.args.level 0 hj
