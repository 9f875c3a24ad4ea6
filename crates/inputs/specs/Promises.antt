-- What the functions over a list ask and leave, no part of what is promised.
use Rattle.std.specs.Prelude.{List, ℕ, suc, ◌≤◌, ◌<◌}
use Rattle.inputs.specs.Lists.{pair_count, instant_at}

-- 'with instants never falling'
abbrev pub Rising : List ℕ → Type 0
Rising list = (k : ℕ) → suc k < pair_count list → instant_at list k ≤ instant_at list (suc k)

-- the pairs before c are those of instants up to i
pub record Cursor (list : List ℕ) (i c : ℕ) : Type 0 where
  pub within : c ≤ pair_count list
  pub passed : (k : ℕ) → k < c → instant_at list k ≤ i
  pub ahead : (k : ℕ) → c ≤ k → k < pair_count list → i < instant_at list k

-- the pairs before c are of instants up to i, and so may others be
pub record CanPass (list : List ℕ) (c i : ℕ) : Type 0 where
  pub rising : Rising list
  pub within : c ≤ pair_count list
  pub passed : (k : ℕ) → k < c → instant_at list k ≤ i
