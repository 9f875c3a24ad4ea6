-- `misses_name`: the field uses a name of the file, and the set has those in reach.
use mathlib.Core.Path.{sym, ap, ◌∙◌}
use mathlib.Core.Bool.{not}
use Prim.Native.Nat.{◌<◌}
use native.Mathlib.Omega.{arith}
use Rattle.layout.specs.Layout.{name_count}
use Rattle.layout.proofs.Layouts.{few_bounds, names_are, parts_are}
use Rattle.fields.specs.declared.Field.{Field}
use Rattle.fields.specs.Roles.{is_use}
use Rattle.entries.proofs.Naming.{named_use}
use Rattle.scope.proofs.misses_name.Goals as goal
use Rattle.scope.proofs.misses_name.Goals.{Then-is_use}

known : (c : Then-is_use) → c.field_at-field.result.value < name_count c.args.joined.now.file.bytes.now
known c =
    let file = c.args.joined.now.file in
    let field = c.field_at-field.ensures.field in
    let name =
    named_use file.bytes.now c.args.joined.now.joined.sound c.args.q c.args.f (omega (arith, parts_are file.laid))
    c.requires.inside.1
    (ap (λ f. is_use f.role) (sym field) ∙ sym c.if-is_use.ensures) in
    omega (arith, ap (λ f. f.value) field, name.known)

pub has-requires : goal.has-requires
has-requires c =
    let file = c.args.joined.now.file in
    omega (arith, known c, names_are file.laid, few_bounds file.layout file.laid.few)

pub returns-then-is_use : goal.returns-then-is_use
returns-then-is_use c =
    let field = c.field_at-field.ensures.field in
    let used = ap (λ (z : Field). is_use z.role) (sym field) ∙ sym c.if-is_use.ensures in
    ap not (c.has.ensures ∙ c.requires.in_reach _ (known (goal.at.returns-then-is_use c).Then-is_use))
    ∙ rw (used, ap (λ (z : Field). z.value) field)
