-- What functions ask of a file that refusals 6 to 9 leave, no part of what is promised.
use Rattle.std.specs.Prelude.{◌≡◌, List, ℕ, suc, ◌<◌}
use Rattle.layout.specs.Layout.{part_count}
use Rattle.entries.specs.Promises.{Sound}
use Rattle.uses.specs.Uses.{times_used}

-- what refusals 6 to 9 leave: names and parts that are right by themselves, and each part but the last is used once
pub record Joined (s : List ℕ) : Type 0 where
  pub sound : Sound s
  pub once : (q : ℕ) → suc q < part_count s → times_used s q ≡ 1
