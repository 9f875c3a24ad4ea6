-- `first_out_of_reach`: the sets of the last part and of the parts that the fields of the parts from q on use are right,
-- and what is found among the parts from q on.
use mathlib.Core.Path.{refl, sym, ◌∙◌}
use Prim.Native.Nat.{◌-◌, ◌≤◌}
use native.Mathlib.Omega.{arith}
use lib.ListN.{replicate}
use Rattle.layout.specs.Layout.{most_parts, part_count}
use Rattle.layout.proofs.Layouts.{few_bounds, parts_are, few_parts}
use Rattle.scope.proofs.Finding.{from_end, from_hit, from_miss, from_start}
use Rattle.scope.proofs.ReachTables.{right_from, fill_last}
use Rattle.scope.proofs.first_out_of_reach.Goals as goal
use Rattle.scope.proofs.first_out_of_reach.Goals.{After-is_out_of_reach}

pub loop-q-init : goal.loop-q-init
loop-q-init c =
    let file = c.args.joined.now.file in (
      fill_last file.bytes.now c.args.joined.now.joined (few_parts file.laid) c.parts-n.result (c.parts-n.result - 1) _
          (replicate most_parts 0) refl
          (omega (arith, parts_are file.laid, c.parts-n.ensures))
          (omega (arith, parts_are file.laid, c.parts-n.ensures, few_bounds file.layout file.laid.few))
          c.session_names.ensures,
      from_end _ _ (omega (arith, parts_are file.laid, c.parts-n.ensures)),
    )

pub is_out_of_reach-requires-clause-in_reach : goal.is_out_of_reach-requires-clause-in_reach
is_out_of_reach-requires-clause-in_reach c =
    let file = c.args.joined.now.file in
    right_from file.bytes.now c.args.joined.now.joined (few_parts file.laid) _ _ c.enter_fields.ensures _
    (omega (arith, parts_are file.laid, c.parts-n.ensures)) (omega arith)

within : (c : After-is_out_of_reach) → c.loop-q.q ≤ part_count c.args.joined.now.file.bytes.now
within c = omega (arith, parts_are c.args.joined.now.file.laid, c.parts-n.ensures)

pub loop-q-preserved-then-is_out_of_reach : goal.loop-q-preserved-then-is_out_of_reach
loop-q-preserved-then-is_out_of_reach c = (
  c.enter_fields.ensures,
  from_hit _ _ c.loop-q.q (omega arith) (within (goal.at.loop-q-preserved-then-is_out_of_reach c).After-is_out_of_reach)
      (sym c.is_out_of_reach.ensures ∙ c.if-is_out_of_reach.true),
)

pub loop-q-preserved : goal.loop-q-preserved
loop-q-preserved c = (
  c.enter_fields.ensures,
  from_miss _ _ c.loop-q.q (omega arith) (within (goal.at.loop-q-preserved c).After-is_out_of_reach)
      (sym c.is_out_of_reach.ensures ∙ c.if-is_out_of_reach.false)
      c.loop-q.invariant.1,
)

pub returns : goal.returns
returns c = from_start _ _ (omega arith) c.loop-q.invariant.1
