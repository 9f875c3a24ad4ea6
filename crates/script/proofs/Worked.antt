-- The example files, computed from the definitions.
use mathlib.Core.Path.{◌≡◌, refl}
use mathlib.Core.Bool.{true}
use Rattle.prelude.specs.Search.{first_from, first, any, all, count, total}
use Rattle.prelude.specs.Course.{course, entry}
use Rattle.entries.specs.Faults.{field_is_right, fault_refusal}
use Rattle.uses.specs.Uses.{used, times_used, use_refusal}
use Rattle.scope.specs.Reach.{lies_in, in_body, is_out_of_reach, reach_refusal}
use Rattle.script.specs.Refusals.{entry_refusal, refusal}
use Rattle.script.specs.Examples.{files, all_come_out}

pub examples : all_come_out files ≡ true
unfolding first_from first any all count total course entry used times_used lies_in in_body is_out_of_reach field_is_right fault_refusal use_refusal reach_refusal entry_refusal refusal
examples = refl
