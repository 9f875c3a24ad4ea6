-- What functions ask of a file whose entries are right by themselves, no part of what is promised.
use Rattle.std.specs.Prelude.{◌≡◌, true, List, ℕ, ◌<◌}
use Rattle.layout.specs.Layout.{name_count, part_count}
use Rattle.entries.specs.Faults.{owner_is_right, part_is_right}

-- what refusals 6, 7 and 8 leave: each name has its owner, each part is right
pub record Sound (s : List ℕ) : Type 0 where
  pub owners : (x : ℕ) → x < name_count s → owner_is_right s x ≡ true
  pub parts : (q : ℕ) → q < part_count s → part_is_right s q ≡ true
