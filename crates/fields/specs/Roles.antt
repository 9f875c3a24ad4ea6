-- 01, 'Script file': what the fields a, b and c of each kind of entry hold.
use Rattle.std.specs.Prelude.{Bool, true, false, List, [], ◌∷◌, ℕ, get_or}
use Rattle.fields.specs.declared.roles.Role.{Role}
use Rattle.fields.specs.declared.roles.Role.TheVariants.{Unused, Register, Signal, NewRegister, NewSignal, Expression, Child, Half}

-- fields a, b, c
abbrev pub Row : Type 0
Row = List Role

abbrev pub fields : Role → Role → Role → Row
fields a b c = a ∷ b ∷ c ∷ []

-- 'Kind 0: constant, signed 32-bit in the last four, a = 0. 1: register a, rest 0. 2 add, 3 subtract, 4 multiply,
-- 5 divide, 6 less, 7 equal: operands a and b, b in bytes 4 and 5, then 0. 8 not: operand a, rest 0.'
abbrev pub expression_rows : List Row
expression_rows =
    fields Unused Half Half
    ∷ fields Register Unused Unused
    ∷ fields Expression Expression Unused
    ∷ fields Expression Expression Unused
    ∷ fields Expression Expression Unused
    ∷ fields Expression Expression Unused
    ∷ fields Expression Expression Unused
    ∷ fields Expression Expression Unused
    ∷ fields Expression Unused Unused
    ∷ []

-- '0 nil; 1 assign name a, expression b; 2 let name a, expression b, body c; 3 if expression a, then b, else c;
-- 4 while expression a, body b; 5 sequence a, b; 6 emit signal a; 7 local signal a, body b; 8 body b watching
-- signal a; 9 when signal a, body b; 10 parallel a, b.'
abbrev pub node_rows : List Row
node_rows =
    fields Unused Unused Unused
    ∷ fields Register Expression Unused
    ∷ fields NewRegister Expression Child
    ∷ fields Expression Child Child
    ∷ fields Expression Child Unused
    ∷ fields Child Child Unused
    ∷ fields Signal Unused Unused
    ∷ fields NewSignal Child Unused
    ∷ fields Signal Child Unused
    ∷ fields Signal Child Unused
    ∷ fields Child Child Unused
    ∷ []

abbrev pub expression_kinds : ℕ
expression_kinds = 9

abbrev pub node_kinds : ℕ
node_kinds = 11

-- the row of a kind; past the table every field is unused
abbrev pub row_of : List Row → ℕ → Row
row_of rows kind = get_or rows kind (fields Unused Unused Unused)

-- the role of a field in the row of its kind
abbrev pub role_in : List Row → ℕ → ℕ → Role
role_in rows kind f = get_or (row_of rows kind) f Unused

-- a field of this role holds the number of an expression, and of a child node
abbrev pub is_expression : Role → Bool
is_expression Expression = true
is_expression _ = false

abbrev pub is_child : Role → Bool
is_child Child = true
is_child _ = false

-- a field of this role uses a name
abbrev pub is_use : Role → Bool
is_use Register = true
is_use Signal = true
is_use _ = false

-- a field of this role declares a name
abbrev pub is_new : Role → Bool
is_new NewRegister = true
is_new NewSignal = true
is_new _ = false
