-- What is proved about the flow of scripts.
use Rattle.std.specs.Prelude.{◌≡◌, true, List, ℕ, ◌<◌, eqb}
use Rattle.lattice.specs.Refusals.{is_accepted}
use Rattle.book.specs.Load.{book_of}
use Rattle.lattice.specs.Lattice.{Lattice}
use Rattle.language.specs.Levels.{needs}
use Rattle.layout.specs.Layout.{node_count}
use Rattle.tree.specs.Tree.{names_of, tree}
use Rattle.script.specs.Checked.{Checked}
use Rattle.flow.specs.Flow.{levels_of, Ordered}
use Rattle.flow.specs.Needs.{need_at, first_failing}

-- The needs of a checked script hold exactly when every node of the file has its own, so exactly when no node is the
-- first that fails: under any lattice.
pub record NeedsEverywhere : Type 0 where
  pub everywhere :
      (𝓛 : Lattice ℕ) (s : List ℕ) → Checked s → needs 𝓛 (names_of s) (tree s) ≡ true →
      (k : ℕ) → k < node_count s → need_at 𝓛 s k ≡ true
  pub enough :
      (𝓛 : Lattice ℕ) (s : List ℕ) → Checked s → ((k : ℕ) → k < node_count s → need_at 𝓛 s k ≡ true) →
      needs 𝓛 (names_of s) (tree s) ≡ true
  pub first :
      (𝓛 : Lattice ℕ) (s : List ℕ) → Checked s →
      needs 𝓛 (names_of s) (tree s) ≡ eqb (first_failing 𝓛 s) (node_count s)

-- What a caller of `find_flow` has of a book that rows 1 to 3 let through.
abbrev pub BooksOrdered : Type 0
BooksOrdered = (b : List ℕ) → is_accepted b ≡ true → Ordered (levels_of (book_of b))
