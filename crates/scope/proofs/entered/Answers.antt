-- `entered`: past both tests the field is the body of a declaration.
use mathlib.Core.Path.{sym, ap, ◌∙◌}
use native.Mathlib.Omega.{arith}
use borrow.Author.Rules.{rules}
use denote.Enum.Bare.{differs_false}
use Rattle.layout.proofs.Layouts.{few_bounds, names_are, parts_are}
use Rattle.fields.specs.declared.Field.{Field}
use Rattle.fields.specs.contracts.roles.Role.{the_type}
use Rattle.fields.specs.declared.roles.Role.TheVariants.{Child}
use Rattle.fields.specs.Roles.{is_child, is_new}
use Rattle.entries.proofs.Naming.{named_new}
use Rattle.scope.proofs.entered.Goals as goal

pub with-requires : goal.with-requires
with-requires c =
    let file = c.args.joined.now.file in
    let field = c.field_at-declared.ensures.field in
    let name =
    named_new file.bytes.now c.args.joined.now.joined.sound c.args.q 0 (omega (arith, parts_are file.laid)) (omega arith)
    (ap (λ f. is_new f.role) (sym field) ∙ sym c.if-is_new.ensures) in
    omega (arith, ap (λ f. f.value) field, name.known, names_are file.laid, few_bounds file.layout file.laid.few)

pub returns-then-is_new : goal.returns-then-is_new
returns-then-is_new c =
    let file = c.args.joined.now.file in
    let role = differs_false the_type (search rules) _ _ (sym c.if-ne.ensures) in
    let child = ap (λ (z : Field). is_child z.role) (sym c.field_at-field.ensures.field) ∙ ap is_child {y = Child} role in
    let declared = c.field_at-declared.ensures.field in
    let new = ap (λ (z : Field). is_new z.role) (sym declared) ∙ sym c.if-is_new.ensures in
    λ x h.
    c.with.ensures x (omega (arith, names_are file.laid, few_bounds file.layout file.laid.few))
    ∙ rw (child, new, ap (λ (z : Field). z.value) declared)
