-- `children_at`: the part that was read is that of the node.
use mathlib.Core.Path.{ap, ◌∙◌, subst}
use Prim.Native.Nat.{◌+◌, ◌<◌}
use native.Mathlib.Omega.{arith}
use Rattle.layout.specs.Layout.{node_count}
use Rattle.layout.specs.Entries.{part_of}
use Rattle.layout.proofs.Layouts.{expressions_are, nodes_are}
use Rattle.fields.specs.Children.{AreChildren}
use Rattle.tree.proofs.NodeSizes.{size_within, size_from}
use Rattle.tree.proofs.sizes.children_at.Goals as goal

pub returns-clause-sizes : goal.returns-clause-sizes
returns-clause-sizes c =
    let file = c.args.checked.now.file in
    let s = file.bytes.now in
    let k = c.args.k in
    let known : k < node_count s = omega (arith, c.requires, nodes_are file.laid) in
    size_from s c.args.checked.now.checked k known c.children_of.result
    (subst (λ p. AreChildren p c.children_of.result)
    (c.part.ensures.part ∙ ap (λ e. part_of s (e + k)) (expressions_are file.laid))
    c.children_of.ensures)

pub returns-clause-small : goal.returns-clause-small
returns-clause-small c =
    let file = c.args.checked.now.file in
    size_within file.bytes.now c.args.checked.now.checked c.args.k (omega (arith, c.requires, nodes_are file.laid))
