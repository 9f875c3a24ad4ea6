-- What a file has that refusals 4 to 10 leave.
use Rattle.std.specs.Prelude.{◌≡◌, true, false, List, ℕ, ◌≤◌, ◌<◌}
use Rattle.layout.specs.Layout.{name_count, part_count, tail_is_right, layout_of}
use Rattle.layout.specs.Promises.{Laid}
use Rattle.layout.specs.Entries.{name_of}
use Rattle.scope.specs.Joined.{Joined}
use Rattle.scope.specs.Reach.{is_out_of_reach}

-- What a file that is not refused guarantees, as one record: the walks of later layers ask for it.
pub record Checked (s : List ℕ) : Type 0 where
  -- its tail has the mark, and points at itself and at lists of whole entries
  pub tail : tail_is_right s ≡ true
  -- its lists touch and are not too long
  pub laid : Laid s (layout_of s)
  -- a name is a register or a signal
  pub kinds : (x : ℕ) → x < name_count s → (name_of s x).kind ≤ 1
  -- an owned name is declared by its owner; each part's fields hold what its kind asks for: smaller operands and
  -- children, names of the right kind, the name that it owns; each part but the last is used once
  pub joined : Joined s
  -- an owned name is used only inside the body of its declaration
  pub reach : (q : ℕ) → q < part_count s → is_out_of_reach s q ≡ false

-- each name has a level of the book
abbrev pub Levelled : List ℕ → ℕ → Type 0
Levelled s levels = (x : ℕ) → x < name_count s → (name_of s x).level < levels
