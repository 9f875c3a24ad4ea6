-- 02 (e): 'give for each level the set of other levels to which data must be let flow'.
use Rattle.std.specs.Prelude.{Bool, not, ◌&&◌, List, ℕ, eqb}
use Rattle.prelude.specs.Sets.{set_of}
use Rattle.prelude.specs.Table.{table}
use Rattle.book.specs.LevelBook.{most_levels}
use Rattle.language.specs.RequiredFlows.{must_flow}
use Rattle.tree.specs.Tree.{names_of, tree}

-- of the script of a file data must be let flow from level i to another level j
abbrev pub flows_to : List ℕ → ℕ → ℕ → Bool
flows_to s i j = not (eqb i j) && must_flow (names_of s) (tree s) i j

-- a set for each level that a book can have
unfoldable pub flows_of : List ℕ → List ℕ
flows_of s = table (λ i. set_of (flows_to s i) most_levels) most_levels
