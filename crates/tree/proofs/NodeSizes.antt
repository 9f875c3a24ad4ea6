-- The sizes of a checked file's processes: each is one more than those of the node's children, none is above the node's
-- own place, and the script has all nodes.
use mathlib.Core.Path.{◌≡◌, refl, ap, ◌∙◌}
use mathlib.Core.Bool.{Bool, true}
use mathlib.Core.List.{List, [], ◌∷◌}
use Prim.Native.Nat.{ℕ, suc, ◌+◌, ◌≤◌, ◌<◌}
use native.Mathlib.Nat.{le_trans}
use native.Mathlib.Omega.{arith}
use Rattle.prelude.proofs.Counts.{count_within, count_every}
use Rattle.layout.specs.declared.parts.Part.{Part}
use Rattle.layout.specs.Layout.{node_count}
use Rattle.layout.specs.Entries.{part_of, node}
use Rattle.fields.specs.declared.children.Children as fields
use Rattle.fields.specs.declared.children.Children.TheVariants.{None, One, Two}
use Rattle.fields.specs.Children.{child_count, first_child, second_child, AreChildren}
use Rattle.script.specs.Checked.{Checked}
use Rattle.language.specs.Syntax.{Proc, nil, assign, let_in, if_then_else, while, sequence, emit, local, watching, when, parallel}
use Rattle.language.specs.KindGroups.{children_of}
use Rattle.language.specs.NodeCounts.{size, counted}
use Rattle.tree.specs.Tree.{process_of, tree}
use Rattle.tree.specs.Promises.{SizeFrom}
use Rattle.tree.proofs.NodeCounts as counts
use Rattle.tree.proofs.Shapes.{Children, none, one, two, children}

-- every kind counts
abbrev every : ℕ → Bool
every kind = true

-- the sizes of some processes together
abbrev sizes_of : List (Proc ℕ) → ℕ
sizes_of [] = 0
sizes_of (p ∷ ps) = size p + sizes_of ps

size_by_children : (p : Proc ℕ) → size p ≡ suc (sizes_of (children_of p))
unfolding counted children_of
size_by_children nil = refl
size_by_children (assign x e) = refl
size_by_children (let_in x δ e p) = omega arith
size_by_children (if_then_else e p q) = omega arith
size_by_children (while e p) = omega arith
size_by_children (sequence p q) = omega arith
size_by_children (emit a) = refl
size_by_children (local a δ p) = omega arith
size_by_children (watching a p) = omega arith
size_by_children (when a p) = omega arith
size_by_children (parallel p q) = omega arith

module _ (s : List ℕ) (ok : Checked s) where
  abbrev pub node_size : ℕ → ℕ
  node_size k = size (process_of s k)

  pub size_within : (k : ℕ) → k < node_count s → node_size k ≤ suc k
  size_within k h = le_trans (counts.counted_within s ok every k h) (count_within _ (suc k))

  pub whole_size : size (tree s) ≡ node_count s
  whole_size = counts.whole_counted s ok every ∙ count_every _ (node_count s) (λ k. refl)

  -- the size of node k, from those of its children, which come before it
  module _ (k : ℕ) (h : k < node_count s) where
    abbrev part : Part
    part = part_of s (node s k)

    by_children : (ps : List (Proc ℕ)) → children_of (process_of s k) ≡ ps → node_size k ≡ suc (sizes_of ps)
    by_children ps e = size_by_children (process_of s k) ∙ ap (λ ps. suc (sizes_of ps)) e

    size_none : child_count part.kind ≡ 0 → SizeFrom s k None
    size_none e = go (children s ok k h)
      where
        go : Children s k → SizeFrom s k None
        go (none n q) = by_children [] q
        go (one n q u) = absurd (omega arith)
        go (two n q u v) = absurd (omega arith)

    size_one : child_count part.kind ≡ 1 → SizeFrom s k (One (first_child part))
    size_one e = go (children s ok k h)
      where
        go : Children s k → SizeFrom s k (One (first_child part))
        go (none n q) = absurd (omega arith)
        go (one n q u) = (omega (arith, u.before), omega (arith, by_children _ q))
        go (two n q u v) = absurd (omega arith)

    size_two : child_count part.kind ≡ 2 → SizeFrom s k (Two (first_child part) (second_child part))
    size_two e = go (children s ok k h)
      where
        go : Children s k → SizeFrom s k (Two (first_child part) (second_child part))
        go (none n q) = absurd (omega arith)
        go (one n q u) = absurd (omega arith)
        go (two n q u v) = (omega (arith, u.before), (omega (arith, v.before), omega (arith, by_children _ q)))

    pub size_from : (r : fields.Children) → AreChildren part r → SizeFrom s k r
    size_from None a = size_none a
    size_from (One i) a = rw a.1 (size_one a.0)
    size_from (Two i j) a = rw (a.1.0, a.1.1) (size_two a.0)
