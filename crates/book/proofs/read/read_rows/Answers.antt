-- `read_rows`: each row is that of the bytes.
use Rattle.std.proofs.Common.{rules}
use Rattle.prelude.proofs.Tables.{is_table}
use Rattle.book.specs.LevelBook.{most_levels, row}
use Rattle.book.proofs.read.read_rows.Goals as goal

pub returns : goal.returns
returns c =
    is_table 0 c.from_fn.result (row c.args.s.now) most_levels c.from_fn.ensures.items.long (λ i h.
    let called = c.from_fn.ensures.items.at i 0 h in search rules)
