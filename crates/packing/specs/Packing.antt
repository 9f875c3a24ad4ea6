-- The words of a program, as numbers: what each tells, and a word that tells it.
use Rattle.std.specs.Prelude.{Bool, cond, ℕ, ◌+◌, ◌*◌, ◌/◌, ◌%◌, ◌^◌, eqb}

-- a bit that is set or not
abbrev pub bit : Bool → ℕ
bit b = cond b 1 0

-- what the word of an expression tells: its kind; a constant's word; its name or first operand; its second operand
abbrev pub kind_in : ℕ → ℕ
kind_in w = w / 2 ^ 32

abbrev pub constant_in : ℕ → ℕ
constant_in w = w % 2 ^ 32

abbrev pub operand_in : ℕ → ℕ
operand_in w = w % 2 ^ 16

abbrev pub later_in : ℕ → ℕ
later_in w = w / 2 ^ 16 % 2 ^ 16

-- a word that tells these
abbrev pub packed_expression : ℕ → ℕ → ℕ → ℕ
packed_expression kind later operand = 2 ^ 32 * kind + (2 ^ 16 * later + operand)

-- what the word of a node tells: the form by its own byte; field a, a name or an expression; field b, an expression or
-- the second child; the first child, and its size; the kind, and whether a watching stands in the node
abbrev pub form_in : ℕ → ℕ → ℕ
form_in w tag = w / 2 ^ (4 * tag) % 16

abbrev pub a_in : ℕ → ℕ
a_in w = w / 2 ^ 16 % 1024

abbrev pub b_in : ℕ → ℕ
b_in w = w / 2 ^ 26 % 1024

abbrev pub first_in : ℕ → ℕ
first_in w = w / 2 ^ 36 % 1024

abbrev pub size_in : ℕ → ℕ
size_in w = w / 2 ^ 46 % 1024

abbrev pub node_kind_in : ℕ → ℕ
node_kind_in w = w / 2 ^ 56 % 128

abbrev pub watches_in : ℕ → Bool
watches_in w = eqb (w / 2 ^ 63) 1

-- a word that tells these
abbrev pub packed_fields : ℕ → ℕ → ℕ → ℕ → ℕ
packed_fields a b first size = a % 1024 + 1024 * (b % 1024 + 1024 * (first % 1024 + 1024 * (size % 1024)))

abbrev pub marked : ℕ → Bool → ℕ
marked kind watches = kind + 128 * bit watches

abbrev pub packed_node : ℕ → ℕ → ℕ → ℕ
packed_node forms fields kind = forms + 2 ^ 16 * (fields + 2 ^ 40 * kind)

-- what the word of a name tells: its level, whether it is a signal, whether it is the session's, whether the reader sees it
abbrev pub level_in : ℕ → ℕ
level_in w = w % 256

abbrev pub signal_in : ℕ → Bool
signal_in w = eqb (w / 256 % 2) 1

abbrev pub session_in : ℕ → Bool
session_in w = eqb (w / 512 % 2) 1

abbrev pub seen_in : ℕ → Bool
seen_in w = eqb (w / 1024) 1

-- a word that tells these
abbrev pub packed_name : ℕ → ℕ → Bool → Bool → ℕ
packed_name level kind session seen = level + 256 * (kind + 2 * (bit session + 2 * bit seen))

-- what the word of the counts tells: how many names, expressions and nodes there are
abbrev pub names_in : ℕ → ℕ
names_in w = w % 2 ^ 16

abbrev pub expressions_in : ℕ → ℕ
expressions_in w = w / 2 ^ 16 % 2 ^ 16

abbrev pub nodes_in : ℕ → ℕ
nodes_in w = w / 2 ^ 32

-- a word that tells these
abbrev pub packed_counts : ℕ → ℕ → ℕ → ℕ
packed_counts names expressions nodes = names + 2 ^ 16 * (expressions + 2 ^ 16 * nodes)
