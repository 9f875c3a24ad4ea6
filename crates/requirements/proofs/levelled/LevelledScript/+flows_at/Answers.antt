-- `flows_at`: by how many children there are.
use native.Mathlib.Omega.{arith}
use Rattle.tree.proofs.NodeChildren.{node_read, one_before, first_before, second_before}
use Rattle.requirements.proofs.NodeReads.{none_leaves, one_leaves, two_leaves}
use Rattle.requirements.proofs.levelled.LevelledScript.+flows_at.Goals as goal

pub returns-in-None : goal.returns-in-None
returns-in-None t c =
    let f = c.args.self.now.checked in
    none_leaves f (node_read f c.requires c.part-p.ensures.part c.from_number-kind.ensures) c.own_levels-own.ensures
    (c.in-None.ensures)
    c.node_flows.ensures

pub flows_at-part-requires : goal.flows_at-part-requires
flows_at-part-requires t c =
    let f = c.args.self.now.checked in
    let b = one_before f (node_read f c.requires c.part-p.ensures.part c.from_number-kind.ensures) (c.in-One.ensures) in
    (omega (arith, b.0), b.1)

pub returns-in-One : goal.returns-in-One
returns-in-One t c =
    let f = c.args.self.now.checked in
    one_leaves f (node_read f c.requires c.part-p.ensures.part c.from_number-kind.ensures) c.own_levels-own.ensures
    (c.in-One.ensures)
    c.flows_at-part.ensures
    c.node_flows-in-One.ensures

pub flows_at-first-requires : goal.flows_at-first-requires
flows_at-first-requires t c =
    let f = c.args.self.now.checked in
    let b = first_before f (node_read f c.requires c.part-p.ensures.part c.from_number-kind.ensures) (c.in-Two.ensures) in
    (omega (arith, b.0), b.1)

pub flows_at-second-requires : goal.flows_at-second-requires
flows_at-second-requires t c =
    let f = c.args.self.now.checked in
    let b = second_before f (node_read f c.requires c.part-p.ensures.part c.from_number-kind.ensures) (c.in-Two.ensures) in
    (omega (arith, b.0), b.1)

pub returns-in-Two : goal.returns-in-Two
returns-in-Two t c =
    let f = c.args.self.now.checked in
    two_leaves f (node_read f c.requires c.part-p.ensures.part c.from_number-kind.ensures) c.own_levels-own.ensures
    (c.in-Two.ensures)
    c.flows_at-first.ensures
    c.flows_at-second.ensures
    c.pair_flows.ensures
