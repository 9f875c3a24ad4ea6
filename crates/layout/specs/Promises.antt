-- What functions over a file ask of its layout, no part of what is promised.
use Rattle.std.specs.Prelude.{◌≡◌, true, List, ℕ, ◌+◌, ◌*◌, ◌<◌, ◌≤◌, length}
use Rattle.layout.specs.declared.Script.{Script}
use Rattle.layout.specs.declared.parts.Part.{Part}
use Rattle.layout.specs.Layout.{expressions_at, layout_of, counts_are_right}

-- the layout of a file that refusals 4 and 5 let through
pub record Laid (s : List ℕ) (c : Script) : Type 0 where
  pub same : c ≡ layout_of s
  pub few : counts_are_right c ≡ true
  pub touching : c.offset ≡ 4 * c.names
  pub whole : length s ≡ c.offset + 8 * (c.expressions + c.nodes) + 8

-- q is the number of a part
abbrev pub IsPart : Script → ℕ → Type 0
IsPart c q = q < c.expressions + c.nodes

-- the parts begin at this offset, and part q lies in the file
pub record PartWithin (s : List ℕ) (offset q : ℕ) : Type 0 where
  pub start : offset ≡ expressions_at s
  pub whole : offset + 8 * q + 8 ≤ length s

-- the fields of a part have two bytes each
abbrev pub SmallFields : Part → Type 0
SmallFields p = (p.a < 65536) × ((p.b < 65536) × (p.c < 65536))
