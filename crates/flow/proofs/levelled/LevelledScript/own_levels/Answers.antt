-- `own_levels`: kind by kind.
use Rattle.flow.proofs.BookLevels.{bottom_inside}
use Rattle.flow.proofs.OwnViews.{value_known, value_brings, condition_known, condition_brings, signal_known, signal_brings, nothing_brings}
use Rattle.flow.proofs.levelled.LevelledScript.own_levels.Goals as goal

pub level_of-requires : goal.level_of-requires
level_of-requires c = (value_known c.args.self.now c.requires c.in-Assign.is).1

pub name-requires : goal.name-requires
name-requires c = (value_known c.args.self.now c.requires c.in-Assign.is).0

pub returns-in-Assign : goal.returns-in-Assign
returns-in-Assign c =
    value_brings c.args.self.now c.requires c.in-Assign.is c.level_of.ensures c.name.ensures.name

pub level_of-requires-in-If : goal.level_of-requires-in-If
level_of-requires-in-If c = condition_known c.args.self.now c.requires c.in-If.is

pub returns-in-If : goal.returns-in-If
returns-in-If c =
    let l = c.args.self.now.levels in
    condition_brings c.args.self.now c.requires c.in-If.is c.level_of-in-If.ensures l.least (bottom_inside l)

pub name-level-requires : goal.name-level-requires
name-level-requires c = signal_known c.args.self.now c.requires c.in-Emit.is

pub returns-in-Emit : goal.returns-in-Emit
returns-in-Emit c = signal_brings c.args.self.now c.requires c.in-Emit.is c.name-level.ensures.name

pub returns-in-Nil : goal.returns-in-Nil
returns-in-Nil c =
    let l = c.args.self.now.levels in
    nothing_brings c.args.self.now c.requires c.in-Nil.is l.least (bottom_inside l)
