-- The program of a checked file, for a reader: what its words hold, and what that makes of it.
use Rattle.std.specs.Prelude.{◌≡◌, ⊤, Bool, false, ◌||◌, cond, List, ℕ, ◌+◌, ◌*◌, ◌^◌, ◌≤◌, ◌<◌, eqb, leb, get_or, length}
use Rattle.book.specs.declared.Book.{Book}
use Rattle.book.specs.LevelBook.{most_levels, at_or_below}
use Rattle.packing.specs.Packing.{kind_in, constant_in, operand_in, later_in, form_in, a_in, b_in, first_in, size_in, node_kind_in, watches_in, level_in, signal_in, session_in, seen_in, packed_fields}
use Rattle.language.specs.NodeCounts.{size}
use Rattle.language.specs.Shapes.{watches}
use Rattle.layout.specs.declared.parts.Part.{Part}
use Rattle.layout.specs.Layout.{most_nodes, name_count, expression_count, node_count}
use Rattle.layout.specs.Entries.{name_of, is_session, part_of, node}
use Rattle.fields.specs.declared.children.Children.{Children}
use Rattle.fields.specs.declared.children.Children.TheVariants.{None, One, Two}
use Rattle.fields.specs.Children.{first_child, second_child}
use Rattle.script.specs.Checked.{Levelled}
use Rattle.tree.specs.Tree.{expression_of, process_of}
use Rattle.program.specs.Program.{name_word, seen_by, expression_word, node_word, word_count}
use Rattle.program.specs.Program as program
use Rattle.program.specs.Forms.{form_of}
use Rattle.program.specs.Runnable.{Runnable}

-- a book that has the level of each name, and a level of the book: the reader's
pub record CanPlan (s : List ℕ) (b : Book) (level : ℕ) : Type 0 where
  pub levelled : Levelled s b.count
  pub levels : b.count ≤ most_levels
  pub reader : level < b.count

-- a reader sees the names at or below its level
abbrev pub sees_in : Book → List ℕ → ℕ → ℕ → Bool
sees_in b s reader x = at_or_below b.rows (name_of s x).level reader

-- the word of name x
pub record NamePacked (s : List ℕ) (sees : ℕ → Bool) (x w : ℕ) : Type 0 where
  pub level : level_in w ≡ (name_of s x).level
  pub signal : signal_in w ≡ eqb (name_of s x).kind 1
  pub session : session_in w ≡ is_session s x
  pub seen : seen_in w ≡ sees x

-- the word of expression e
pub record ExpressionPacked (s : List ℕ) (e w : ℕ) : Type 0 where
  pub kind : kind_in w ≡ (part_of s e).kind
  pub constant : (part_of s e).kind ≡ 0 → constant_in w ≡ 2 ^ 16 * (part_of s e).b + (part_of s e).c
  pub operand : ((part_of s e).kind ≡ 0 → ⊥) → operand_in w ≡ (part_of s e).a
  pub later : later_in w ≡ (part_of s e).b

-- the word of node k; of fields past 1023, and of children that a node has not, what it tells is of no meaning
pub record NodePacked (s : List ℕ) (k w : ℕ) : Type 0 where
  pub forms : (tag : ℕ) → tag < 4 → form_in w tag ≡ form_of (part_of s (node s k)).kind tag
  pub kind : node_kind_in w ≡ (part_of s (node s k)).kind
  pub watches : watches_in w ≡ watches (process_of s k)
  pub a : (part_of s (node s k)).a < 1024 → a_in w ≡ (part_of s (node s k)).a
  pub b : (part_of s (node s k)).kind ≤ 2 → (part_of s (node s k)).b < 1024 → b_in w ≡ (part_of s (node s k)).b
  pub second :
      2 < (part_of s (node s k)).kind → second_child (part_of s (node s k)) < k → b_in w ≡ second_child (part_of s (node s k))
  pub first : first_child (part_of s (node s k)) < k → first_in w ≡ first_child (part_of s (node s k))
  pub size : first_child (part_of s (node s k)) < k → size_in w ≡ size (process_of s (first_child (part_of s (node s k))))

-- the words of the first n nodes stand in a table
abbrev pub KeepsNodes : List ℕ → ℕ → List ℕ → Type 0
KeepsNodes s n words = (k : ℕ) → k < n → NodePacked s k (node_word words k)

-- and those of the first names and expressions, so many of each
pub record Keeps (s : List ℕ) (sees : ℕ → Bool) (names expressions nodes : ℕ) (words : List ℕ) : Type 0 where
  pub long : length words ≡ word_count
  pub name : (x : ℕ) → x < names → NamePacked s sees x (name_word words x)
  pub expression : (e : ℕ) → e < expressions → ExpressionPacked s e (expression_word words e)
  pub node : KeepsNodes s nodes words

-- these children are among the nodes that a file can have
abbrev pub Below : Children → Type 0
Below None = ⊤
Below (One i) = i < most_nodes
Below (Two i j) = (i < most_nodes) × (j < most_nodes)

-- What the words of the nodes before a node tell of one of this kind with these children: it is a watching, or one stands
-- in a child.
abbrev pub child_watches : List ℕ → Children → Bool
child_watches words None = false
child_watches words (One i) = watches_in (node_word words i)
child_watches words (Two i j) = watches_in (node_word words i) || watches_in (node_word words j)

abbrev pub watches_by : List ℕ → ℕ → Children → Bool
watches_by words kind children = eqb kind 8 || child_watches words children

-- field b of a word: up to a let an expression, past it the second child
abbrev pub field_b : Part → ℕ → ℕ
field_b p second = cond (leb p.kind 2) p.b second

-- the fields of a word: field a; field b; the first child and its size; a child that a node has not is 0
abbrev pub fields_by : List ℕ → Part → Children → ℕ
fields_by sizes p None = packed_fields p.a (field_b p 0) 0 (get_or sizes 0 0)
fields_by sizes p (One i) = packed_fields p.a (field_b p 0) i (get_or sizes i 0)
fields_by sizes p (Two i j) = packed_fields p.a (field_b p j) i (get_or sizes i 0)

-- The program of a file, for a reader who sees these names: it can be run, and what it holds is what the file holds.
pub record ProgramOf (s : List ℕ) (sees : ℕ → Bool) (words : List ℕ) : Type 0 where
  pub runnable : Runnable words
  pub names : program.name_count words ≡ name_count s
  pub expressions : program.expression_count words ≡ expression_count s
  pub nodes : program.node_count words ≡ node_count s
  pub named : (x : ℕ) → x < name_count s → NamePacked s sees x (name_word words x)
  pub seen : (x : ℕ) → x < name_count s → seen_by words x ≡ sees x
  pub expression : (e : ℕ) → e < expression_count s → program.expression_of words e ≡ expression_of s e
  pub process : (k : ℕ) → k < node_count s → program.process_of words k ≡ process_of s k
