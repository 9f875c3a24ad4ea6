-- 01, 'Script file': where the lists of a file stand, and how many entries they have.
use Rattle.std.specs.Prelude.{Bool, cond, not, ◌&&◌, List, ℕ, ◌+◌, ◌-◌, ◌/◌, ◌%◌, eqb, leb, get_or, length}
use Rattle.prelude.specs.declared.Refusal.{Refusal}
use Rattle.prelude.specs.Numbers.{word}
use Rattle.prelude.specs.Refusals.{refused_by, not_refused}
use Rattle.layout.specs.declared.Script.{Script}

-- 'At most 64 names, 256 expressions, 256 nodes'
abbrev pub most_names : ℕ
most_names = 64

abbrev pub most_expressions : ℕ
most_expressions = 256

abbrev pub most_nodes : ℕ
most_nodes = 256

-- expressions and nodes together
abbrev pub most_parts : ℕ
most_parts = most_expressions + most_nodes

-- 'unsigned and big-endian; two-byte fields'
abbrev pub word_at : List ℕ → ℕ → ℕ
word_at s i = word (get_or s i 0) (get_or s (i + 1) 0)

-- 'then a tail of 8 bytes that points back: offset of the expressions, of the nodes, of the tail itself, and
-- hexadecimal 5354'
abbrev pub tail_at : List ℕ → ℕ
tail_at s = length s - 8

abbrev pub expressions_at : List ℕ → ℕ
expressions_at s = word_at s (tail_at s)

abbrev pub nodes_at : List ℕ → ℕ
nodes_at s = word_at s (tail_at s + 2)

abbrev pub pointed_tail : List ℕ → ℕ
pointed_tail s = word_at s (tail_at s + 4)

abbrev pub mark : List ℕ → ℕ
mark s = word_at s (tail_at s + 6)

-- 'Names start at offset 0. The lists hold whole entries and touch each other.' A name has 4 bytes, an expression
-- and a node 8.
abbrev pub offsets_are_right : ℕ → ℕ → ℕ → Bool
offsets_are_right expressions nodes tail =
    leb expressions nodes
    && (leb nodes tail
    && (eqb (expressions % 4) 0 && (eqb ((nodes - expressions) % 8) 0 && eqb ((tail - nodes) % 8) 0)))

-- what refusal 4 asks of a file
abbrev pub tail_is_right : List ℕ → Bool
tail_is_right s =
    leb 8 (length s)
    && (eqb (mark s) 21332
    && (eqb (pointed_tail s) (tail_at s) && offsets_are_right (expressions_at s) (nodes_at s) (tail_at s)))

abbrev pub name_count : List ℕ → ℕ
name_count s = expressions_at s / 4

abbrev pub expression_count : List ℕ → ℕ
expression_count s = (nodes_at s - expressions_at s) / 8

abbrev pub node_count : List ℕ → ℕ
node_count s = (tail_at s - nodes_at s) / 8

-- the parts of a file: its expressions, then its nodes
abbrev pub part_count : List ℕ → ℕ
part_count s = expression_count s + node_count s

-- the counts, and the offset of the parts, which the others follow from
abbrev pub layout_of : List ℕ → Script
layout_of s =
    record {
      names = name_count s;
      expressions = expression_count s;
      nodes = node_count s;
      offset = expressions_at s;
    }

-- what refusal 5 asks of the counts: 'at least one node', too
abbrev pub counts_are_right : Script → Bool
counts_are_right c =
    leb c.names most_names
    && (leb c.expressions most_expressions && (leb 1 c.nodes && leb c.nodes most_nodes))

-- rows 4 and 5
abbrev pub layout_refusal : List ℕ → Refusal
layout_refusal s =
    cond (not (tail_is_right s)) (refused_by 4 0)
    (cond (not (counts_are_right (layout_of s))) (refused_by 5 0)
    not_refused)
