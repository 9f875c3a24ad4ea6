-- The theorems about the flow of scripts. Their statements stand in specs/Results.antt.
use mathlib.Core.Path.{refl}
use Rattle.lattice.proofs.Theorems.{level_lattice, book_few}
use Rattle.flow.specs.Results.{NeedsEverywhere, BooksOrdered}
use Rattle.flow.proofs.Everywhere as everywhere
use Rattle.flow.proofs.Everywhere.{enough, needs_first}

pub needs_everywhere : NeedsEverywhere
needs_everywhere = record { everywhere = everywhere.everywhere; enough = enough; first = needs_first }

pub books_ordered : BooksOrdered
books_ordered b accepted = record { laws = level_lattice b accepted; few = book_few b accepted; own = refl }
