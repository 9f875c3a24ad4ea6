-- `first_wrong_expression`: the expressions are the first parts.
use mathlib.Core.Path.{◌≡◌, ap, ◌∙◌}
use mathlib.Core.Bool.{cond, not}
use Prim.Native.Nat.{ℕ}
use native.Mathlib.Omega.{arith}
use lib.Dec.{ltb}
use Rattle.std.proofs.Common.{Option, Some, None}
use Rattle.prelude.specs.Promises.{found}
use Rattle.prelude.proofs.Searches.{first_same}
use Rattle.layout.proofs.Layouts.{expressions_are}
use Rattle.entries.specs.Faults.{part_is_right}
use Rattle.entries.proofs.parts.first_wrong_expression.Goals as goal

pub returns : goal.returns
returns c =
    let f = c.args.file.now in
    let found_by : ℕ → Option ℕ = λ x. cond (ltb x f.layout.expressions) (Some x) None in
    c.first_wrong_part.ensures
    ∙ ap found_by (first_same _ _ f.layout.expressions (λ k h. ap (λ q. not (part_is_right f.bytes.now q)) (omega arith)))
    ∙ ap (found _) (expressions_are f.laid)
