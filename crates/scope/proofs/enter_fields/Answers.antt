-- `enter_fields`: the sets of the last part and of the parts that the fields from field f of part q on use are right.
use mathlib.Core.Path.{sym}
use Prim.Native.Nat.{◌-◌, ◌<◌}
use native.Mathlib.Omega.{arith}
use Rattle.layout.proofs.Layouts.{few_bounds, parts_are, few_parts}
use Rattle.uses.proofs.Used.{used_none}
use Rattle.scope.specs.Promises.{FieldUses}
use Rattle.scope.proofs.Joining.{uses_some}
use Rattle.scope.proofs.ReachTables.{fill_skip, fill_more}
use Rattle.scope.proofs.enter_fields.Goals as goal
use Rattle.scope.proofs.enter_fields.Goals.{After-entered}

-- the field at hand uses a part before its own
uses :
    (c : After-entered) → FieldUses c.args.joined.now.file.bytes.now c.args.q (c.loop-f.f - 1) c.in-Some.part
uses c =
    let file = c.args.joined.now.file in
    uses_some file.bytes.now c.args.joined.now.joined c.args.q (c.loop-f.f - 1) (omega (arith, parts_are file.laid))
    (omega arith) (sym c.in-Some.ensures)

-- so it is one that the table has
within : (c : After-entered) → c.in-Some.part < 512
within c =
    let file = c.args.joined.now.file in
    omega (arith, (uses c).before, few_bounds file.layout file.laid.few)

pub offset_bounds-sets-part : goal.offset_bounds-sets-part
offset_bounds-sets-part c = omega (arith, within c)

pub bounds-sets-part : goal.bounds-sets-part
bounds-sets-part c = within c

pub loop-f-preserved-in-Some : goal.loop-f-preserved-in-Some
loop-f-preserved-in-Some c =
    let file = c.args.joined.now.file in
    fill_more file.bytes.now c.args.joined.now.joined (few_parts file.laid) c.args.q c.loop-f.f (c.loop-f.f - 1) _ _
    c.loop-f.sets (omega arith) (uses c) c.entered.ensures c.loop-f.invariant

pub loop-f-preserved : goal.loop-f-preserved
loop-f-preserved c =
    let file = c.args.joined.now.file in
    fill_skip file.bytes.now c.args.joined.now.joined (few_parts file.laid) c.args.q c.loop-f.f (c.loop-f.f - 1)
    c.loop-f.sets (omega arith) (omega arith)
    (omega (arith, used_none file.bytes.now c.args.q (c.loop-f.f - 1) (sym c.in_default.ensures)))
    c.loop-f.invariant
