-- The example files, computed from the definitions.
use mathlib.Core.Path.{◌≡◌, refl}
use mathlib.Core.Bool.{true}
use Rattle.prelude.specs.Course.{course, entry}
use Rattle.prelude.specs.Sets.{set_of}
use Rattle.prelude.specs.Table.{table}
use Rattle.language.specs.RequiredFlows.{reads, tests, writes, needs_flow, must_flow}
use Rattle.tree.specs.Tree.{expression_of, process_of}
use Rattle.requirements.specs.Flows.{flows_of}
use Rattle.requirements.specs.Examples.{files, all_come_out}

pub examples : all_come_out files ≡ true
unfolding course entry set_of table reads tests writes needs_flow must_flow expression_of process_of flows_of
examples = refl
