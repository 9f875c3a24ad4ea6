-- What is proved about the tree of a checked file.
use Rattle.std.specs.Prelude.{◌≡◌, Bool, List, ℕ, suc, ◌≤◌, ◌<◌}
use Rattle.language.specs.NameKinds.{Kind}
use Rattle.language.specs.Scope.{Scoped, Declared, Once}
use Rattle.layout.specs.Layout.{name_count, node_count}
use Rattle.layout.specs.Entries.{is_session, is_session_name, nodes_with}
use Rattle.script.specs.Checked.{Checked}
use Rattle.language.specs.NodeCounts.{counted, size}
use Rattle.tree.specs.Tree.{names_of, process_of, tree}

-- The script of a checked file is scoped as the theorems about scripts ask.
abbrev pub TreeScoped : Type 0
TreeScoped = (s : List ℕ) → Checked s → Scoped (names_of s) (is_session s) (tree s)

-- Its names: it is scoped in the session's names of the file, and each of its declarations is of a name of the file, no
-- name twice.
pub record TreeNamed (s : List ℕ) : Type 0 where
  pub scoped : Scoped (names_of s) (is_session_name s) (tree s)
  pub once : Once (tree s)
  pub declared : (k : Kind) (y : ℕ) → Declared k y (tree s) → y < name_count s

-- Every node of a checked file is in its script, by its kind, and no process is larger than its node's place allows.
pub record NodesCounted : Type 0 where
  pub kinds : (s : List ℕ) → Checked s → (f : ℕ → Bool) → counted (tree s) f ≡ nodes_with s f
  pub whole : (s : List ℕ) → Checked s → size (tree s) ≡ node_count s
  pub within : (s : List ℕ) → Checked s → (k : ℕ) → k < node_count s → size (process_of s k) ≤ suc k
