-- 01, 'Script file': the fields of the parts: what each is for, and what it holds.
use Rattle.std.specs.Prelude.{cond, List, ℕ, ◌+◌, ◌*◌, ltb}
use Rattle.layout.specs.Layout.{word_at, expression_count}
use Rattle.layout.specs.Entries.{part_at, part_of}
use Rattle.fields.specs.declared.Field.{Field}
use Rattle.fields.specs.declared.roles.Role.{Role}
use Rattle.fields.specs.Roles.{expression_rows, node_rows, role_in}

-- a, b and c: field 0 is a, 1 is b, 2 is c
abbrev pub field_count : ℕ
field_count = 3

abbrev pub value_of : List ℕ → ℕ → ℕ → ℕ
value_of s q f = word_at s (part_at s q + 2 * (f + 1))

-- what field f of part q is for, by the part's kind, where there are so many expressions
abbrev pub role_of : ℕ → ℕ → ℕ → ℕ → Role
role_of expressions q kind f = cond (ltb q expressions) (role_in expression_rows kind f) (role_in node_rows kind f)

-- field f of part q
abbrev pub field_of : List ℕ → ℕ → ℕ → Field
field_of s q f = record { role = role_of (expression_count s) q (part_of s q).kind f; value = value_of s q f }
