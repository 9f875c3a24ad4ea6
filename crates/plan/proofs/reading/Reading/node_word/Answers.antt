-- `node_word`: the entry, its children, the size of the first and the mark, packed.
use mathlib.Core.Path.{◌∙◌}
use Prim.Native.Nat.{◌<◌}
use native.Mathlib.Omega.{arith}
use Rattle.layout.specs.Layout.{most_nodes}
use Rattle.layout.proofs.Layouts.{few_bounds}
use Rattle.tree.specs.Promises.{IsNodeAt}
use Rattle.tree.proofs.NodeChildren.{node_read}
use Rattle.tree.proofs.Views.{kind_below}
use Rattle.plan.proofs.Watching.{each_below, watches_told}
use Rattle.plan.proofs.Plans.{packed_at}
use Rattle.plan.proofs.reading.Reading.node_word.Goals as goal
use Rattle.plan.proofs.reading.Reading.node_word.Goals.{After-from_number}

-- the part that was read is that of node k
read : (c : After-from_number) → IsNodeAt c.args.self.now.checked.file.bytes.now c.from_number.result c.part-p.result c.args.k
read c = node_read c.args.self.now.checked c.requires.known c.part-p.ensures.part c.from_number.ensures

pub has_watching-watches-requires : goal.has_watching-watches-requires
has_watching-watches-requires c =
    each_below c.args.self.now.checked (read c) c.children_of-children.result c.children_of-children.ensures

pub node_fields-requires : goal.node_fields-requires
node_fields-requires c =
    each_below c.args.self.now.checked (read (goal.at.node_fields-requires c).After-from_number) c.children_of-children.result
    c.children_of-children.ensures

pub returns : goal.returns
returns c =
    let f = c.args.self.now.checked in
    let s = f.file.bytes.now in
    let at = read (goal.at.returns c).After-from_number in
    let r = c.children_of-children.result in
    let known : c.args.k < most_nodes = omega (arith, c.requires.known, few_bounds f.file.layout f.file.laid.few) in
    rw (c.pack_node.ensures, c.forms_of.ensures, c.node_fields.ensures, c.mark.ensures)
    (packed_at s c.args.k f.checked at.known (kind_below s f.checked c.args.k at.known) (omega (arith, known)) _
    (c.has_watching-watches.ensures ∙ watches_told f at c.args.words.now c.requires.before r c.children_of-children.ensures)
    c.args.sizes.now
    (λ j l. c.requires.sized j (omega (arith, l, c.requires.known)))
    at.same
    r
    c.children_of-children.ensures)
