-- What functions over the values and the list ask, no part of what is promised.
use Rattle.std.specs.Prelude.{◌≡◌, true, List, ℕ, ◌<◌, ℤ, length}
use Rattle.inputs.specs.Lists.{pair_count, signal_at}
use Rattle.inputs.specs.Promises.{Rising}
use Rattle.layout.specs.declared.Script.{Script}
use Rattle.layout.specs.Layout.{name_count}
use Rattle.layout.specs.Promises.{Laid}
use Rattle.tree.specs.Tree.{names_of}

-- what row 15 leaves of a list
pub record ListRight (s list : List ℕ) : Type 0 where
  pub rising : Rising list
  pub known : (k : ℕ) → k < pair_count list → signal_at list k < name_count s
  pub signals : (k : ℕ) → k < pair_count list → (names_of s).is_signal (signal_at list k) ≡ true
  pub session : (k : ℕ) → k < pair_count list → (names_of s).is_session (signal_at list k) ≡ true
