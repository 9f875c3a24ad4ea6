-- Write level, test level and first failing node of a checked script under a checked book: what the walks ask and give,
-- no part of what is promised.
use Rattle.std.specs.Prelude.{◌≡◌, true, false, List, ℕ, ◌≤◌, ◌<◌}
use Rattle.book.specs.declared.Book.{Book}
use Rattle.order.specs.Order as orders
use Rattle.order.specs.Order.{LevelLattice}
use Rattle.order.specs.Rows.{order_of}
use Rattle.book.specs.LevelBook.{most_levels}
use Rattle.lattice.specs.Lattice.{Lattice, lattice_of}
use Rattle.language.specs.Levels.{exp_level, write_level, test_level}
use Rattle.language.specs.declared.process_kinds.ProcessKind.{ProcessKind}
use Rattle.layout.specs.declared.parts.Part.{Part}
use Rattle.layout.specs.Layout.{node_count}
use Rattle.layout.specs.Entries.{node}
use Rattle.scope.specs.Reach.{lies_in}
use Rattle.tree.specs.Promises.{IsNodeAt}
use Rattle.tree.specs.Tree.{names_of, expression_of, process_of, tree}
use Rattle.flow.specs.declared.nodes.Flow.{Flow}
use Rattle.flow.specs.declared.nodes.Own.{Own}
use Rattle.flow.specs.Needs.{need_at, first_failing}
use Rattle.flow.specs.Nodes.{own_of, OwnWithin, FlowWithin}

-- the smallest number that P holds of, or n if it holds of none below n
pub record Smallest (P : ℕ → Type 0) (n r : ℕ) : Type 0 where
  pub within : r ≤ n
  pub holds : r < n → P r
  pub least : (j : ℕ) → P j → r ≤ j

-- the nodes in node k whose need fails
abbrev pub FailsIn : Lattice ℕ → List ℕ → ℕ → ℕ → Type 0
FailsIn 𝓛 s k j = (lies_in s (node s j) (node s k) ≡ true) × (need_at 𝓛 s j ≡ false)

-- a book with its top and bottom, and its lattice
pub record Levels : Type 0 where
  pub book : Book
  pub top : ℕ
  pub bottom : ℕ

abbrev pub levels_of : Book → Levels
levels_of b = record { book = b; top = orders.top (order_of b) b.count; bottom = orders.bottom (order_of b) b.count }

abbrev pub lattice_by : Book → Lattice ℕ
lattice_by b = lattice_of (order_of b) b.count

abbrev pub lattice : Levels → Lattice ℕ
lattice l = lattice_by l.book

-- the book is a lattice of at most 16 levels, and beside it stand its own top and bottom
pub record Ordered (l : Levels) : Type 0 where
  pub laws : LevelLattice (order_of l.book) l.book.count
  pub few : l.book.count ≤ most_levels
  pub own : l ≡ levels_of l.book

-- What the walks find: of an expression, ..
pub record LevelAt (b : Book) (s : List ℕ) (e level : ℕ) : Type 0 where
  pub same : level ≡ exp_level (lattice_by b) (names_of s) (expression_of s e)
  pub inside : level < b.count

-- .. of what a node with these bytes brings itself, ..
pub record OwnOf (b : Book) (s : List ℕ) (kind : ProcessKind) (p : Part) (own : Own) : Type 0 where
  pub same : (k : ℕ) → IsNodeAt s kind p k → own ≡ own_of (lattice_by b) (names_of s) (process_of s k)
  pub inside : OwnWithin b.count own

-- .. of a node with all that lies under it, ..
pub record FlowAt (b : Book) (s : List ℕ) (k : ℕ) (f : Flow) : Type 0 where
  pub write : f.write ≡ write_level (lattice_by b) (names_of s) (process_of s k)
  pub test : f.test ≡ test_level (lattice_by b) (names_of s) (process_of s k)
  pub inside : FlowWithin b.count f
  pub failing : Smallest (FailsIn (lattice_by b) s k) (node_count s) f.failing

-- .. of the whole script
pub record FlowOf (l : Levels) (s : List ℕ) (f : Flow) : Type 0 where
  pub write : f.write ≡ write_level (lattice l) (names_of s) (tree s)
  pub test : f.test ≡ test_level (lattice l) (names_of s) (tree s)
  pub inside : FlowWithin l.book.count f
  pub failing : f.failing ≡ first_failing (lattice l) s
