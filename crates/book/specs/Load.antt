-- What reading a level book gives.
use Rattle.std.specs.Prelude.{List, ℕ}
use Rattle.book.specs.declared.Book.{Book}
use Rattle.book.specs.LevelBook.{count, rows}

abbrev pub book_of : List ℕ → Book
book_of s = record { count = count s; rows = rows s }
