-- A book of the right size: 1 to 16 levels, and as many rows.
use mathlib.Core.Path.{◌≡◌, refl, ap}
use mathlib.Core.Bool.{Bool, true, false, cond}
use mathlib.Core.List.{List}
use Prim.Native.Nat.{ℕ, ◌+◌, ◌*◌, ◌≤◌, ◌<◌}
use native.Mathlib.Omega.{arith}
use lib.Dec.{leb, eqb}
use lib.ListN.{length}
use borrow.Author.Tests.{leb-true, eqb-true}
use Rattle.std.proofs.Common.{Option, Some, None, rules}
use Rattle.prelude.proofs.Bools.{and_left, and_right}
use Rattle.book.specs.declared.Book.{Book}
use Rattle.book.specs.LevelBook.{most_levels, count, size_is_right}
use Rattle.book.specs.Load.{book_of}

module _ (s : List ℕ) (size : size_is_right s ≡ true) where
  pub some : 0 < count s
  some = leb-true 1 (count s) (and_left _ _ size)

  pub few : count s ≤ most_levels
  few = leb-true (count s) most_levels (and_left _ (eqb (length s) (1 + 2 * count s)) (and_right (leb 1 (count s)) _ size))

  pub right_size : length s ≡ 1 + 2 * count s
  right_size =
      eqb-true (length s) (1 + 2 * count s) (and_right (leb (count s) most_levels) _ (and_right (leb 1 (count s)) _ size))

  pub few_read : (b : Book) → b ≡ book_of s → b.count ≤ most_levels
  few_read b e = omega (arith, few, ap (λ x. x.count) e)

-- what reading answers: the book of bytes of the right size, or none
module _ (s : List ℕ) where
  pub read_some :
      {b : Book} → cond (size_is_right s) (Some (book_of s)) None ≡ Some b → (size_is_right s ≡ true) × (book_of s ≡ b)
  read_some = go (size_is_right s)
    where
      go : (right : Bool) {b : Book} → ◌≡◌ {A = Option Book} (cond right (Some (book_of s)) None) (Some b) → (right ≡ true) × (book_of s ≡ b)
      go true e = (refl, search rules)
      go false e = search rules

  pub read_none : ◌≡◌ {A = Option Book} (cond (size_is_right s) (Some (book_of s)) None) None → size_is_right s ≡ false
  read_none = go (size_is_right s)
    where
      go : (right : Bool) → ◌≡◌ {A = Option Book} (cond right (Some (book_of s)) None) None → right ≡ false
      go true e = search rules
      go false e = refl
