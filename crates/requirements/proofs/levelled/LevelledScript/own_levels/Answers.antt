-- `own_levels`: kind by kind.
use Rattle.requirements.proofs.OwnViews.{value_known, value_brings, condition_known, condition_brings, wait_known, wait_brings, emission_known, emission_brings, nothing_brings}
use Rattle.requirements.proofs.levelled.LevelledScript.own_levels.Goals as goal

pub levels_of-requires : goal.levels_of-requires
levels_of-requires c = (value_known c.args.self.now c.requires c.in-Assign.is).1

pub name_level-requires : goal.name_level-requires
name_level-requires c = (value_known c.args.self.now c.requires c.in-Assign.is).0

pub returns-in-Assign : goal.returns-in-Assign
returns-in-Assign c =
    value_brings c.args.self.now c.requires c.in-Assign.is c.levels_of.ensures c.name_level.ensures

pub levels_of-requires-in-If : goal.levels_of-requires-in-If
levels_of-requires-in-If c = condition_known c.args.self.now c.requires c.in-If.is

pub returns-in-If : goal.returns-in-If
returns-in-If c = condition_brings c.args.self.now c.requires c.in-If.is c.levels_of-in-If.ensures

pub name_level-requires-in-Watching : goal.name_level-requires-in-Watching
name_level-requires-in-Watching c = wait_known c.args.self.now c.requires c.in-Watching.is

pub returns-in-Watching : goal.returns-in-Watching
returns-in-Watching c = wait_brings c.args.self.now c.requires c.in-Watching.is c.name_level-in-Watching.ensures

pub name_level-requires-in-Emit : goal.name_level-requires-in-Emit
name_level-requires-in-Emit c = emission_known c.args.self.now c.requires c.in-Emit.is

pub returns-in-Emit : goal.returns-in-Emit
returns-in-Emit c = emission_brings c.args.self.now c.requires c.in-Emit.is c.name_level-in-Emit.ensures

pub returns-in-Nil : goal.returns-in-Nil
returns-in-Nil c = nothing_brings c.args.self.now c.requires c.in-Nil.is
