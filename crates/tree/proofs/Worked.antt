-- The example's tree, computed from the definitions.
use mathlib.Core.Path.{◌≡◌, refl}
use Rattle.prelude.specs.Course.{course, entry}
use Rattle.layout.specs.Files.{every}
use Rattle.tree.specs.Tree.{expression_of, process_of, tree}
use Rattle.tree.specs.Examples.{every_kind}

pub example_tree : tree every ≡ every_kind
unfolding course entry expression_of process_of
example_tree = refl
