-- `of`: each row is the one that was given.
use Rattle.std.proofs.Common.{[], rules}
use Rattle.std.proofs.lemmas.List.{ext_get_or}
use Rattle.pairs.proofs.table.PairTable.of.Goals as goal

pub returns : goal.returns
returns c =
    ext_get_or [] _ _ (search rules) (λ i h.
    let called = c.map.ensures.items.at i [] [] (search rules) in search rules)
