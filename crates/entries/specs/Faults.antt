-- 01, the table of refusals, rows 6 to 8: what each name, expression and node must have by itself.
use Rattle.std.specs.Prelude.{Bool, true, false, cond, not, ◌&&◌, ◌||◌, List, ℕ, eqb, leb, ltb}
use Rattle.prelude.specs.declared.Refusal.{Refusal}
use Rattle.prelude.specs.Refusals.{refused_by, not_refused}
use Rattle.prelude.specs.Search.{all}
use Rattle.layout.specs.Layout.{name_count, expression_count, node_count}
use Rattle.layout.specs.Entries.{name_of, is_session, part_of, node}
use Rattle.layout.specs.Places.{at_first}
use Rattle.fields.specs.declared.Field.{Field}
use Rattle.fields.specs.declared.roles.Role.{Role}
use Rattle.fields.specs.declared.roles.Role.TheVariants.{Unused, Register, NewRegister, NewSignal, Expression, Child, Half}
use Rattle.fields.specs.Roles.{expression_kinds, node_kinds, is_new}
use Rattle.fields.specs.Fields.{field_count, field_of}

-- a field of this role declares a name of this kind
abbrev pub declares_as : ℕ → Role → Bool
declares_as kind NewRegister = eqb kind 0
declares_as kind NewSignal = not (eqb kind 0)
declares_as kind _ = false

-- row 6: 'a matching declaration of it': node k, whose field a declares a name of this kind, and that name is x
abbrev pub declares : List ℕ → ℕ → ℕ → ℕ → Bool
declares s k kind x =
    ltb k (node_count s)
    && (declares_as kind (field_of s (node s k) 0).role && eqb (field_of s (node s k) 0).value x)

abbrev pub owner_is_right : List ℕ → ℕ → Bool
owner_is_right s x = is_session s x || declares s (name_of s x).owner (name_of s x).kind x

-- row 6: 'kind, level, or owner not a matching declaration of it'
abbrev pub name_is_right : List ℕ → ℕ → ℕ → Bool
name_is_right s levels x =
    leb (name_of s x).kind 1 && (ltb (name_of s x).level levels && owner_is_right s x)

-- the kind of the names that a field of this role holds
abbrev pub kind_for : Role → ℕ
kind_for Register = 0
kind_for NewRegister = 0
kind_for _ = 1

-- a field of part q holds a name of the right kind; where it declares the name, part q owns it
abbrev pub holds_name : List ℕ → ℕ → Field → Bool
holds_name s q x =
    ltb x.value (name_count s)
    && (eqb (name_of s x.value).kind (kind_for x.role)
    && (not (is_new x.role) || eqb (node s (name_of s x.value).owner) q))

-- A field of part q holds what its role asks for: 'each unused field is 0', 'operands and child nodes have smaller
-- numbers than their parent', a name of the right kind, no 'name it doesn't own'.
unfoldable pub field_is_right : List ℕ → ℕ → Field → Bool
field_is_right s q x =
    elim x.role [
      | Unused ↦ eqb x.value 0
      | Half ↦ true
      | Expression ↦ ltb x.value (expression_count s) && ltb x.value q
      | Child ↦ ltb (node s x.value) q
      | _ ↦ holds_name s q x
    ]

-- how many kinds part q can have, where there are so many expressions
abbrev pub kinds_for : ℕ → ℕ → ℕ
kinds_for expressions q = cond (ltb q expressions) expression_kinds node_kinds

-- rows 7 and 8: 'kind, field, operand' and 'kind, field, child, or declares a name it doesn't own'
abbrev pub part_is_right : List ℕ → ℕ → Bool
part_is_right s q =
    ltb (part_of s q).kind (kinds_for (expression_count s) q)
    && (eqb (part_of s q).zero 0 && all (λ f. field_is_right s q (field_of s q f)) field_count)

-- rows 6 to 8: the smallest name, then expression, then node at fault
unfoldable pub fault_refusal : List ℕ → ℕ → Refusal
fault_refusal s levels =
    at_first (λ x. not (name_is_right s levels x)) (name_count s) (refused_by 6)
    (at_first (λ e. not (part_is_right s e)) (expression_count s) (refused_by 7)
    (at_first (λ k. not (part_is_right s (node s k))) (node_count s) (refused_by 8)
    not_refused))
