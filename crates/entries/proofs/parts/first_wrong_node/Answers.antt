-- `first_wrong_node`: the nodes are the parts behind the expressions.
use mathlib.Core.Path.{◌≡◌, ap, ap₂, ◌∙◌}
use mathlib.Core.Bool.{not}
use Prim.Native.Nat.{ℕ, ◌+◌}
use Rattle.prelude.specs.Promises.{found}
use Rattle.layout.proofs.Layouts.{expressions_are, nodes_are}
use Rattle.entries.specs.Faults.{part_is_right}
use Rattle.entries.proofs.parts.first_wrong_node.Goals as goal

pub returns : goal.returns
returns c =
    let f = c.args.file.now in
    c.first_wrong_part.ensures
    ∙ ap₂ (λ (e n : ℕ). found (λ k. not (part_is_right f.bytes.now (e + k))) n) (expressions_are f.laid) (nodes_are f.laid)
