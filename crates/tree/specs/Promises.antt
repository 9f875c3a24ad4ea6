-- What the functions over the nodes of a file ask and give, no part of what is promised.
use Rattle.std.specs.Prelude.{◌≡◌, List, ℕ, ◌+◌, ◌<◌, get_or}
use Rattle.language.specs.NodeCounts.{size}
use Rattle.language.specs.declared.process_kinds.ProcessKind.{ProcessKind}
use Rattle.language.specs.KindNumbers.{process_number}
use Rattle.layout.specs.declared.parts.Part.{Part}
use Rattle.layout.specs.Layout.{node_count}
use Rattle.layout.specs.Entries.{part_of, node}
use Rattle.fields.specs.declared.children.Children.{Children}
use Rattle.fields.specs.declared.children.Children.TheVariants.{None, One, Two}
use Rattle.tree.specs.Tree.{process_of}

-- p has the bytes of node k, which is of this kind
pub record IsNodeAt (s : List ℕ) (kind : ProcessKind) (p : Part) (k : ℕ) : Type 0 where
  pub known : k < node_count s
  pub same : p ≡ part_of s (node s k)
  pub kinded : process_number kind ≡ p.kind

abbrev pub IsNode : List ℕ → ProcessKind → Part → Type 0
IsNode s kind p = (k : ℕ) × IsNodeAt s kind p k

-- node k has these children, which come before it: its process has their nodes and one more
abbrev pub SizeFrom : List ℕ → ℕ → Children → Type 0
SizeFrom s k None = size (process_of s k) ≡ 1
SizeFrom s k (One i) = (i < k) × (size (process_of s k) ≡ 1 + size (process_of s i))
SizeFrom s k (Two i j) =
    (i < k) × ((j < k) × (size (process_of s k) ≡ 1 + size (process_of s i) + size (process_of s j)))

-- a table that keeps for each of the first n nodes the size of its process; what stands past them is left free
abbrev pub KeepsSizes : List ℕ → ℕ → List ℕ → Type 0
KeepsSizes s n sizes = (k : ℕ) → k < n → get_or sizes k 0 ≡ size (process_of s k)
