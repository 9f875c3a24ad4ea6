-- The theorems about the tree of a checked file. Their statements stand in specs/Results.antt.
use mathlib.Core.List.{List}
use Prim.Native.Nat.{ℕ}
use Rattle.script.specs.Checked.{Checked}
use Rattle.tree.specs.Results.{TreeScoped, TreeNamed, NodesCounted}
use Rattle.tree.proofs.Scoping as scoping
use Rattle.tree.proofs.Declaring as declaring
use Rattle.tree.proofs.NodeCounts.{whole_counted}
use Rattle.tree.proofs.NodeSizes.{whole_size, size_within}

pub tree_scoped : TreeScoped
tree_scoped = scoping.tree_scoped

pub tree_named : (s : List ℕ) → Checked s → TreeNamed s
tree_named = declaring.tree_named

pub nodes_counted : NodesCounted
nodes_counted = record { kinds = whole_counted; whole = whole_size; within = size_within }
