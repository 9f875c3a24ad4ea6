-- The names, expressions and processes that a file holds. 'Operands and child nodes have smaller numbers than their
-- parent': so each is made of earlier ones.
use Rattle.std.specs.Prelude.{List, [], ◌∷◌, ℕ, ◌+◌, ◌-◌, ◌*◌, eqb, ℤ, pos, get_or}
use Rattle.std.specs.Int.{w32}
use Rattle.std.proofs.Common.{to_z}
use Rattle.prelude.specs.Course.{entry}
use Rattle.language.specs.Syntax.{Names, add, subtract, multiply, divide, less, equal, Exp, constant, register, binary, negated, Proc, nil, assign, let_in, if_then_else, while, sequence, emit, local, watching, when, parallel}
use Rattle.layout.specs.declared.parts.Part.{Part}
use Rattle.layout.specs.Layout.{node_count}
use Rattle.layout.specs.Entries.{name_of, is_session, part_of, node}

-- 'kind (0 register, 1 signal), level, owner'
abbrev pub names_of : List ℕ → Names ℕ
names_of s =
    record {
      is_signal = λ x. eqb (name_of s x).kind 1;
      level = λ x. (name_of s x).level;
      is_session = λ x. is_session s x;
    }

-- 'constant, signed 32-bit in the last four'
abbrev pub constant_of : Part → ℤ
constant_of p = to_z w32 (65536 * p.b + p.c)

-- the expressions of the nine kinds, in the order of their numbers
abbrev pub expressions_from : Part → (ℕ → Exp) → List Exp
expressions_from p operand =
    let a : Exp = operand p.a in
    let b : Exp = operand p.b in
    constant (constant_of p)
    ∷ register p.a
    ∷ binary add a b
    ∷ binary subtract a b
    ∷ binary multiply a b
    ∷ binary divide a b
    ∷ binary less a b
    ∷ binary equal a b
    ∷ negated a
    ∷ []

abbrev pub no_expression : Exp
no_expression = constant (pos 0)

-- expression e
unfoldable pub expression_of : List ℕ → ℕ → Exp
expression_of s =
    entry
    (λ e earlier.
    get_or (expressions_from (part_of s e) (λ k. get_or earlier k no_expression)) (part_of s e).kind no_expression)

-- the processes of the eleven kinds, in the order of their numbers; a declaration carries its name's level
abbrev pub processes_from : List ℕ → Part → (ℕ → Proc ℕ) → List (Proc ℕ)
processes_from s p part =
    let level : ℕ → ℕ = λ x. (name_of s x).level in
    nil
    ∷ assign p.a (expression_of s p.b)
    ∷ let_in p.a (level p.a) (expression_of s p.b) (part p.c)
    ∷ if_then_else (expression_of s p.a) (part p.b) (part p.c)
    ∷ while (expression_of s p.a) (part p.b)
    ∷ sequence (part p.a) (part p.b)
    ∷ emit p.a
    ∷ local p.a (level p.a) (part p.b)
    ∷ watching p.a (part p.b)
    ∷ when p.a (part p.b)
    ∷ parallel (part p.a) (part p.b)
    ∷ []

-- node k
unfoldable pub process_of : List ℕ → ℕ → Proc ℕ
process_of s =
    entry
    (λ k earlier.
    get_or (processes_from s (part_of s (node s k)) (λ j. get_or earlier j nil)) (part_of s (node s k)).kind nil)

-- 'The last node is the script.'
abbrev pub tree : List ℕ → Proc ℕ
tree s = process_of s (node_count s - 1)
