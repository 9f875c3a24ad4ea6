-- `flow_at`: by how many children there are.
use native.Mathlib.Omega.{arith}
use Rattle.tree.proofs.NodeChildren.{node_read, one_before, first_before, second_before}
use Rattle.flow.proofs.BookLevels.{node_asks, pair_asks}
use Rattle.flow.proofs.NodeReads.{found_none, found_one, found_two}
use Rattle.flow.proofs.levelled.LevelledScript.+flow_at.Goals as goal

pub returns-in-None : goal.returns-in-None
returns-in-None t c =
    let f = c.args.self.now.checked in
    found_none f c.args.self.now.levels (node_read f c.requires c.part-p.ensures.part c.from_number-kind.ensures)
    c.own_levels-own.ensures
    (c.in-None.ensures)
    c.node_flow.ensures

pub flow_at-part-requires : goal.flow_at-part-requires
flow_at-part-requires t c =
    let f = c.args.self.now.checked in
    let b = one_before f (node_read f c.requires c.part-p.ensures.part c.from_number-kind.ensures) (c.in-One.ensures) in
    (omega (arith, b.0), b.1)

pub node_flow-requires-in-One : goal.node_flow-requires-in-One
node_flow-requires-in-One t c =
    node_asks c.args.self.now.levels c.part-p.result.kind _ _ c.own_levels-own.ensures.inside c.flow_at-part.ensures.inside

pub returns-in-One : goal.returns-in-One
returns-in-One t c =
    let f = c.args.self.now.checked in
    found_one f c.args.self.now.levels (node_read f c.requires c.part-p.ensures.part c.from_number-kind.ensures)
    c.own_levels-own.ensures
    (c.in-One.ensures)
    c.flow_at-part.ensures
    c.node_flow-in-One.ensures

pub flow_at-first-requires : goal.flow_at-first-requires
flow_at-first-requires t c =
    let f = c.args.self.now.checked in
    let b = first_before f (node_read f c.requires c.part-p.ensures.part c.from_number-kind.ensures) (c.in-Two.ensures) in
    (omega (arith, b.0), b.1)

pub flow_at-second-requires : goal.flow_at-second-requires
flow_at-second-requires t c =
    let f = c.args.self.now.checked in
    let b = second_before f (node_read f c.requires c.part-p.ensures.part c.from_number-kind.ensures) (c.in-Two.ensures) in
    (omega (arith, b.0), b.1)

pub pair_flow-requires : goal.pair_flow-requires
pair_flow-requires t c =
    pair_asks c.args.self.now.levels c.part-p.result.kind _ _ c.flow_at-first.ensures.inside c.flow_at-second.ensures.inside
    c.own_levels-own.ensures.inside

pub returns-in-Two : goal.returns-in-Two
returns-in-Two t c =
    let f = c.args.self.now.checked in
    found_two f c.args.self.now.levels (node_read f c.requires c.part-p.ensures.part c.from_number-kind.ensures)
    c.own_levels-own.ensures
    (c.in-Two.ensures)
    c.flow_at-first.ensures
    c.flow_at-second.ensures
    c.pair_flow.ensures
