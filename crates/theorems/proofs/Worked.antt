-- The table of examples, computed from the definitions.
use mathlib.Core.Path.{refl}
use Rattle.prelude.specs.Search.{first_from, first, any, all, count, total}
use Rattle.prelude.specs.Course.{course, entry}
use Rattle.prelude.specs.Table.{table}
use Rattle.order.specs.Order.{least_upper, top}
use Rattle.order.specs.Refusals as orders
use Rattle.pairs.specs.Refusals as pairs
use Rattle.lattice.specs.Refusals as books
use Rattle.values.specs.Values.{clamped, rounded, quotient}
use Rattle.language.specs.Syntax.{is_nil}
use Rattle.language.specs.Levels.{exp_level, write_level, test_level, need}
use Rattle.language.specs.Steps.{evaluate, value, suspended, move, change, instant_start, step}
use Rattle.language.specs.Calls.{called_at, given_back, noted, reach, words}
use Rattle.entries.specs.Faults.{field_is_right, fault_refusal}
use Rattle.uses.specs.Uses.{used, times_used, use_refusal}
use Rattle.scope.specs.Reach.{is_out_of_reach, reach_refusal}
use Rattle.script.specs.Refusals as scripts
use Rattle.tree.specs.Tree.{expression_of, process_of}
use Rattle.bound.specs.Bound.{bound_of}
use Rattle.checker.specs.Refusals.{check_refusal}
use Rattle.inputs.specs.Lists.{listed}
use Rattle.arguments.specs.Refusals.{values_refusal, list_refusal, call_refusal, run_refusal}
use Rattle.engine.specs.Answers.{verdict, left}
use Rattle.theorems.specs.Examples.{ExamplesHold}

pub examples_hold : ExamplesHold
unfolding first_from first any all count total course entry table least_upper top orders.is_faulty orders.first_faulty orders.refusal pairs.first_lacking books.refusal clamped rounded quotient is_nil exp_level write_level test_level need evaluate value suspended move change instant_start step called_at given_back noted reach used times_used is_out_of_reach field_is_right fault_refusal use_refusal reach_refusal scripts.entry_refusal scripts.refusal expression_of process_of words bound_of check_refusal listed values_refusal list_refusal call_refusal run_refusal verdict left
examples_hold = refl
