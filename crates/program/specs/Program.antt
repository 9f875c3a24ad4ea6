-- A program: a word with the counts, then a word for each name, each expression and each node. Names, expressions and
-- processes are read off the words: 'operands and child nodes have smaller numbers than their parent', so each is made of
-- earlier ones.
use Rattle.std.specs.Prelude.{Bool, List, [], ◌∷◌, ℕ, ◌+◌, ◌-◌, ℤ, pos, get_or}
use Rattle.std.specs.Int.{w32}
use Rattle.std.proofs.Common.{to_z}
use Rattle.prelude.specs.Course.{entry}
use Rattle.language.specs.Syntax.{Names, Operator, add, subtract, multiply, divide, less, equal, Exp, constant, register, binary, negated, Proc, nil}
use Rattle.packing.specs.Packing.{kind_in, constant_in, operand_in, later_in, a_in, b_in, first_in, node_kind_in, level_in, signal_in, session_in, seen_in, names_in, expressions_in, nodes_in}
use Rattle.program.specs.Rows.{Fields, row_of}

-- 'at most 64 names, 256 expressions, 256 nodes'
abbrev pub most_names : ℕ
most_names = 64

abbrev pub most_expressions : ℕ
most_expressions = 256

abbrev pub most_nodes : ℕ
most_nodes = 256

-- where the names, the expressions and the nodes begin, and how many words there are
abbrev pub name_start : ℕ
name_start = 1

abbrev pub expression_start : ℕ
expression_start = name_start + most_names

abbrev pub node_start : ℕ
node_start = expression_start + most_expressions

abbrev pub word_count : ℕ
word_count = node_start + most_nodes

module _ (words : List ℕ) where
  abbrev pub name_count : ℕ
  name_count = names_in (get_or words 0 0)

  abbrev pub expression_count : ℕ
  expression_count = expressions_in (get_or words 0 0)

  abbrev pub node_count : ℕ
  node_count = nodes_in (get_or words 0 0)

  abbrev pub name_word : ℕ → ℕ
  name_word x = get_or words (name_start + x) 0

  abbrev pub expression_word : ℕ → ℕ
  expression_word e = get_or words (expression_start + e) 0

  abbrev pub node_word : ℕ → ℕ
  node_word k = get_or words (node_start + k) 0

  abbrev pub kind_at : ℕ → ℕ
  kind_at k = node_kind_in (node_word k)

  abbrev pub a_at : ℕ → ℕ
  a_at k = a_in (node_word k)

  abbrev pub b_at : ℕ → ℕ
  b_at k = b_in (node_word k)

  -- the children; a second stands in field b
  abbrev pub first_at : ℕ → ℕ
  first_at k = first_in (node_word k)

  abbrev pub second_at : ℕ → ℕ
  second_at k = b_in (node_word k)

  abbrev pub names_of : Names ℕ
  names_of =
      record {
        is_signal = λ x. signal_in (name_word x);
        level = λ x. level_in (name_word x);
        is_session = λ x. session_in (name_word x);
      }

  -- the names that the reader sees
  abbrev pub seen_by : ℕ → Bool
  seen_by x = seen_in (name_word x)

-- the operators of expressions, by their kinds
abbrev pub operator_of : ℕ → Operator
operator_of kind = get_or (equal ∷ equal ∷ add ∷ subtract ∷ multiply ∷ divide ∷ less ∷ []) kind equal

-- the expressions of the nine kinds, in the order of their numbers: of a value, and of a register or operands
abbrev pub expressions_by : ℤ → ℕ → ℕ → (ℕ → Exp) → List Exp
expressions_by v x y operand =
    let a : Exp = operand x in
    let b : Exp = operand y in
    constant v
    ∷ register x
    ∷ binary add a b
    ∷ binary subtract a b
    ∷ binary multiply a b
    ∷ binary divide a b
    ∷ binary less a b
    ∷ binary equal a b
    ∷ negated a
    ∷ []

-- those of a word
abbrev pub expressions_from : ℕ → (ℕ → Exp) → List Exp
expressions_from w = expressions_by (to_z w32 (constant_in w)) (operand_in w) (later_in w)

abbrev pub no_expression : Exp
no_expression = constant (pos 0)

-- expression e
unfoldable pub expression_of : List ℕ → ℕ → Exp
expression_of words =
    entry
    (λ e earlier.
    get_or (expressions_from (expression_word words e) (λ j. get_or earlier j no_expression)) (kind_in (expression_word words e))
    no_expression)

-- the fields of a node with word w, by the parts of these numbers
abbrev pub fields_of : List ℕ → ℕ → (ℕ → Proc ℕ) → Fields
fields_of words w part =
    record {
      a = a_in w;
      level = level_in (name_word words (a_in w));
      tested = expression_of words (a_in w);
      stored = expression_of words (b_in w);
      one = part (first_in w);
      two = part (b_in w);
    }

-- node k, by the row of its kind
unfoldable pub process_of : List ℕ → ℕ → Proc ℕ
process_of words =
    entry (λ k earlier. (row_of (kind_at words k)).makes (fields_of words (node_word words k) (λ j. get_or earlier j nil)))

-- the last node is the script
abbrev pub script : List ℕ → Proc ℕ
script words = process_of words (node_count words - 1)
