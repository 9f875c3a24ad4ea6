-- What the script of a checked file writes are names of the file.
use mathlib.Core.Path.{sym, subst}
use mathlib.Core.List.{List}
use Prim.Native.Nat.{ℕ, zero, suc, ◌-◌, ◌<◌}
use native.Mathlib.Nat.{not-suc-le-zero}
use native.Mathlib.Omega.{arith}
use Rattle.language.specs.Syntax.{Proc}
use Rattle.language.proofs.Naming.{WritesOnly}
use Rattle.layout.specs.Layout.{layout_of, name_count, node_count}
use Rattle.script.specs.Checked.{Checked}
use Rattle.tree.specs.Tree.{process_of, tree}
use Rattle.layout.proofs.Layouts.{few_bounds}
use Rattle.tree.proofs.Views.{NodeView, a_nil, an_assign, a_let, an_if, a_while, a_sequence, an_emit, a_local, a_watching, a_when, a_parallel, node_view}

module _ (s : List ℕ) (ok : Checked s) where
  abbrev Writes : Proc ℕ → Type 0
  Writes = WritesOnly (λ x. x < name_count s)

  node_writes : (n k : ℕ) → k < n → k < node_count s → Writes (process_of s k)
  node_writes zero k l h = absurd (not-suc-le-zero l)
  node_writes (suc n) k l h = at_node (λ j b. node_writes n j (omega arith) (omega arith)) (node_view s ok k h)
    where
      at_node : ((j : ℕ) → j < k → Writes (process_of s j)) → NodeView s k → Writes (process_of s k)
      at_node go (a_nil n q) = subst Writes (sym q) tt
      at_node go (an_assign n q x e) = subst Writes (sym q) x.known
      at_node go (a_let n q x e p) = subst Writes (sym q) (tt, go _ p.before)
      at_node go (an_if n q e p r) = subst Writes (sym q) (λ x o. tt, go _ p.before, go _ r.before)
      at_node go (a_while n q e p) = subst Writes (sym q) (λ x o. tt, go _ p.before)
      at_node go (a_sequence n q p r) = subst Writes (sym q) (go _ p.before, go _ r.before)
      at_node go (an_emit n q x) = subst Writes (sym q) x.known
      at_node go (a_local n q x p) = subst Writes (sym q) (tt, go _ p.before)
      at_node go (a_watching n q x p) = subst Writes (sym q) (tt, go _ p.before)
      at_node go (a_when n q x p) = subst Writes (sym q) (tt, go _ p.before)
      at_node go (a_parallel n q p r) = subst Writes (sym q) (go _ p.before, go _ r.before)

  pub tree_writes : WritesOnly (λ x. x < name_count s) (tree s)
  tree_writes =
      let last : node_count s - 1 < node_count s = omega (arith, (few_bounds (layout_of s) ok.laid.few).1.1.0) in
      node_writes (node_count s) (node_count s - 1) last last
