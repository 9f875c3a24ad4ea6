-- 01, 'Script file': 'Each expression, and each node but the last, is used exactly once.'
use Rattle.std.specs.Prelude.{Bool, not, List, ℕ, ◌+◌, ◌-◌, eqb, Option, Some, None}
use Rattle.std.specs.Option.{unwrap_or}
use Rattle.prelude.specs.declared.Refusal.{Refusal}
use Rattle.prelude.specs.Search.{count, total}
use Rattle.layout.specs.Layout.{most_parts, expression_count, part_count}
use Rattle.layout.specs.Places.{at_first_part}
use Rattle.fields.specs.declared.Field.{Field}
use Rattle.fields.specs.declared.roles.Role.TheVariants.{Expression, Child}
use Rattle.fields.specs.Fields.{field_count, field_of}

-- the part that a field uses, if it uses one
abbrev pub part_used : ℕ → Field → Option ℕ
part_used expressions x =
    elim x.role [
      | Expression ↦ Some x.value
      | Child ↦ Some (expressions + x.value)
      | _ ↦ None
    ]

-- its number; `most_parts`, which is the number of no part, if it uses none
abbrev pub used_by : ℕ → Field → ℕ
used_by expressions x = unwrap_or (part_used expressions x) most_parts

-- the part that field f of part p uses
unfoldable pub used : List ℕ → ℕ → ℕ → ℕ
used s p f = used_by (expression_count s) (field_of s p f)

-- how often part q is used in part p: by how many fields of p
abbrev pub times_in : List ℕ → ℕ → ℕ → ℕ
times_in s q p = count (λ f. eqb (used s p f) q) field_count

-- how often all parts together use part q
unfoldable pub times_used : List ℕ → ℕ → ℕ
times_used s q = total (times_in s q) (part_count s)

abbrev pub is_loose : List ℕ → ℕ → Bool
is_loose s q = not (eqb (times_used s q) 1)

-- row 9: 'used not exactly once', of all parts but the last, which is the last node
unfoldable pub use_refusal : List ℕ → Refusal
use_refusal s = at_first_part s 9 (is_loose s) (part_count s - 1)
