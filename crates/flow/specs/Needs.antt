-- 01, the table of refusals, row 11: the first node whose need fails.
use Rattle.std.specs.Prelude.{Bool, not, List, ℕ}
use Rattle.prelude.specs.Search.{first}
use Rattle.lattice.specs.Lattice.{Lattice}
use Rattle.language.specs.Levels.{need}
use Rattle.layout.specs.Layout.{node_count}
use Rattle.tree.specs.Tree.{names_of, process_of}

-- row 11: 'a need above fails', at 'first node': node k has its need
abbrev pub need_at : Lattice ℕ → List ℕ → ℕ → Bool
need_at 𝓛 s k = need 𝓛 (names_of s) (process_of s k)

-- the first node whose need fails, or the number of nodes
abbrev pub first_failing : Lattice ℕ → List ℕ → ℕ
first_failing 𝓛 s = first (λ k. not (need_at 𝓛 s k)) (node_count s)
