-- What a run asks of a program.
use Rattle.std.specs.Prelude.{◌≡◌, true, List, ℕ, suc, ◌≤◌, ◌<◌, ℤ, length}
use Rattle.language.specs.NodeCounts.{size}
use Rattle.language.specs.Shapes.{watches, leaves_alone}
use Rattle.packing.specs.Packing.{kind_in, operand_in, later_in, form_in, size_in, watches_in, signal_in}
use Rattle.program.specs.Rows.{Role, nothing, name, expression, part, row_of}
use Rattle.program.specs.Program.{most_names, most_expressions, most_nodes, name_count, expression_count, node_count, name_word, expression_word, node_word, kind_at, a_at, b_at, first_at, process_of, script}
use Rattle.program.specs.Forms.{form_of}

-- field v of part k holds what it is for
abbrev pub Holds : List ℕ → ℕ → Role → ℕ → Type 0
Holds words k nothing v = Unit {0}
Holds words k name v = v < name_count words
Holds words k expression v = v < expression_count words
Holds words k part v = v < k

-- the first child, and how many nodes it has
pub record FirstPart (words : List ℕ) (k : ℕ) : Type 0 where
  pub before : first_at words k < k
  pub sized : size_in (node_word words k) ≡ size (process_of words (first_at words k))

abbrev pub Leads : List ℕ → ℕ → Role → Type 0
Leads words k nothing = Unit {0}
Leads words k name = Unit {0}
Leads words k expression = Unit {0}
Leads words k part = FirstPart words k

pub record ExpressionRuns (words : List ℕ) (e : ℕ) : Type 0 where
  pub kind : kind_in (expression_word words e) < 9
  pub register : kind_in (expression_word words e) ≡ 1 → operand_in (expression_word words e) < name_count words
  pub first : 1 < kind_in (expression_word words e) → operand_in (expression_word words e) < e
  pub second :
      1 < kind_in (expression_word words e) → kind_in (expression_word words e) < 8 → later_in (expression_word words e) < e

pub record NodeRuns (words : List ℕ) (k : ℕ) : Type 0 where
  pub kind : kind_at words k < 11
  pub forms : (tag : ℕ) → tag < 4 → form_in (node_word words k) tag ≡ form_of (kind_at words k) tag
  pub a : Holds words k (row_of (kind_at words k)).a (a_at words k)
  pub b : Holds words k (row_of (kind_at words k)).b (b_at words k)
  pub first : Leads words k (row_of (kind_at words k)).first
  pub watches : watches_in (node_word words k) ≡ watches (process_of words k)
  -- a node is used once at most
  pub small : size (process_of words k) ≤ suc k
  -- a watching waits for a signal; that of a when is left alone in its body
  pub signal : kind_at words k ≡ 8 → signal_in (name_word words (a_at words k)) ≡ true
  pub alone : kind_at words k ≡ 9 → leaves_alone (a_at words k) (process_of words (first_at words k)) ≡ true

pub record Runnable (words : List ℕ) : Type 0 where
  pub few_names : name_count words ≤ most_names
  pub few_expressions : expression_count words ≤ most_expressions
  pub few_nodes : node_count words ≤ most_nodes
  pub some : 1 ≤ node_count words
  -- the last node is the script, and every node is in it
  pub whole : size (script words) ≡ node_count words
  pub expressions : (e : ℕ) → e < expression_count words → ExpressionRuns words e
  pub nodes : (k : ℕ) → k < node_count words → NodeRuns words k

-- and with a value for each name
pub record Valued (words : List ℕ) (values : List ℤ) : Type 0 where
  pub runnable : Runnable words
  pub named : length values ≡ name_count words
