-- What a check has found: no part of what is promised.
use Rattle.std.specs.Prelude.{◌≡◌, List, ℕ, ◌≤◌}
use Rattle.book.specs.LevelBook.{most_levels}
use Rattle.book.specs.Load.{book_of}
use Rattle.lattice.specs.Lattice.{book_lattice}
use Rattle.language.specs.Levels.{write_level, test_level}
use Rattle.tree.specs.Tree.{names_of, tree}
use Rattle.checker.specs.declared.Prepared.{Prepared}

-- Of a book b and a script s that no row refuses: the book, the script's bytes, and W and T under the book's lattice.
pub record Prepares (b s : List ℕ) (p : Prepared) : Type 0 where
  pub book : p.book ≡ book_of b
  pub bytes : p.checked.file.bytes.now ≡ s
  pub write : p.write ≡ write_level (book_lattice b) (names_of s) (tree s)
  pub test : p.test ≡ test_level (book_lattice b) (names_of s) (tree s)
  pub few : (p.write ≤ most_levels) × (p.test ≤ most_levels)
