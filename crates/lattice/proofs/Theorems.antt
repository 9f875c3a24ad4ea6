-- The theorems of the level book, for every list of bytes that is not refused.
use mathlib.Core.Path.{◌≡◌, sym}
use mathlib.Core.Bool.{true}
use mathlib.Core.List.{List}
use Prim.Native.Nat.{ℕ, ◌≤◌, ◌<◌}
use native.Mathlib.Decide.{dec_lt}
use native.Mathlib.Omega.{arith}
use borrow.Author.Tests.{lt-ltb, le-ltb}
use Rattle.order.specs.Order.{Relation, least_upper, greatest_lower, LevelLattice}
use Rattle.book.specs.LevelBook.{most_levels, count, rows, at_or_below}
use Rattle.lattice.specs.Refusals.{is_accepted}
use Rattle.book.proofs.Sizes.{some, few}
use Rattle.order.proofs.Duals.{dual}
use Rattle.pairs.proofs.Orders.{least_uppers}
use Rattle.lattice.specs.Lattice.{Laws, as_level, lattice_of, book_lattice}
use Rattle.lattice.proofs.Passing.{Passing, passing, uppers, lowers}
use Rattle.lattice.proofs.Tops.{greatest}

-- A passing book is a lattice: a partial order in which every pair has a least common upper and a greatest common
-- lower level, with a greatest level, top, and a least, bottom.
pub level_lattice : (s : List ℕ) → is_accepted s ≡ true → LevelLattice (at_or_below (rows s)) (count s)
level_lattice s h =
    let w : Passing s = passing s h in
    let o = w.ordered.order in
    let d = dual _ _ o in
    let joins = least_uppers _ _ o (uppers s w) in
    let meets = least_uppers _ _ d (lowers s w) in
    record {
      order = o;
      joins = joins;
      meets = meets;
      greatest = greatest _ _ o joins (some s w.size);
      least = greatest _ _ d meets (some s w.size);
    }

module _ (n : ℕ) where
  as_level_in : (a : ℕ) → 0 < n → as_level n a < n
  as_level_in a h =
      elim (dec_lt a n) [
        | yes l ↦ rw (lt-ltb a n l) l
        | no l ↦ rw (le-ltb a n (omega arith)) h
      ]

  -- a level counts as itself
  pub as_level_own : (a : ℕ) → a < n → as_level n a ≡ a
  as_level_own a h = rw (lt-ltb a n h)

-- The laws of the language's lattice, for any number of levels.
pub lattice_laws : (R : Relation) (n : ℕ) → LevelLattice R n → Laws (lattice_of R n)
lattice_laws R n w =
    let h : 0 < n = omega (arith, w.greatest.within) in
    let lv : (a : ℕ) → as_level n a < n = λ a. as_level_in n a h in
    let j = w.joins in
    let m = w.meets in
    record {
      reflexive = λ a. w.order.reflexive (as_level n a) (lv a);
      transitive = λ a b c. w.order.transitive (as_level n a) (as_level n b) (as_level n c) (lv a) (lv b) (lv c);
      join_left = λ a b. rw (as_level_own n _ (j.within _ _ (lv a) (lv b))) (j.left _ _ (lv a) (lv b));
      join_right = λ a b. rw (as_level_own n _ (j.within _ _ (lv a) (lv b))) (j.right _ _ (lv a) (lv b));
      join_least = λ a b c. rw (as_level_own n _ (j.within _ _ (lv a) (lv b))) (j.least _ _ _ (lv a) (lv b) (lv c));
      meet_left = λ a b. rw (as_level_own n _ (m.within _ _ (lv a) (lv b))) (m.left _ _ (lv a) (lv b));
      meet_right = λ a b. rw (as_level_own n _ (m.within _ _ (lv a) (lv b))) (m.right _ _ (lv a) (lv b));
      meet_greatest = λ a b c. rw (as_level_own n _ (m.within _ _ (lv a) (lv b))) (m.least _ _ _ (lv a) (lv b) (lv c));
      below_top = λ a. rw (as_level_own n _ w.greatest.within) (w.greatest.above (as_level n a) (lv a));
      above_bottom = λ a. rw (as_level_own n _ w.least.within) (w.least.above (as_level n a) (lv a));
    }

pub book_laws : (s : List ℕ) → is_accepted s ≡ true → Laws (book_lattice s)
book_laws s h = lattice_laws (at_or_below (rows s)) (count s) (level_lattice s h)

-- Its joins and meets are levels, and of two levels each at or below the other both are one.
module _ (R : Relation) (n : ℕ) (w : LevelLattice R n) where
  level_in_lem : (a : ℕ) → as_level n a < n
  level_in_lem a = as_level_in n a (omega (arith, w.greatest.within))

  pub join_in : (a b : ℕ) → (lattice_of R n).join a b < n
  join_in a b = w.joins.within _ _ (level_in_lem a) (level_in_lem b)

  pub meet_in : (a b : ℕ) → (lattice_of R n).meet a b < n
  meet_in a b = w.meets.within _ _ (level_in_lem a) (level_in_lem b)

  pub one_level :
      (a b : ℕ) → a < n → b < n → (lattice_of R n).leq a b ≡ true → (lattice_of R n).leq b a ≡ true → a ≡ b
  one_level a b ha hb h g =
      w.order.antisymmetric a b ha hb (rw (as_level_own n a ha, as_level_own n b hb) at h)
      (rw (as_level_own n a ha, as_level_own n b hb) at g)

-- What is kept and tested of two levels is what the lattice says of them.
module _ (s : List ℕ) (i j : ℕ) (hi : i < count s) (hj : j < count s) where
  pub order_at : at_or_below (rows s) i j ≡ (book_lattice s).leq i j
  order_at = sym (rw (lt-ltb i (count s) hi, lt-ltb j (count s) hj))

  pub join_at : least_upper (at_or_below (rows s)) (count s) i j ≡ (book_lattice s).join i j
  join_at = sym (rw (lt-ltb i (count s) hi, lt-ltb j (count s) hj))

  pub meet_at : greatest_lower (at_or_below (rows s)) (count s) i j ≡ (book_lattice s).meet i j
  meet_at = sym (rw (lt-ltb i (count s) hi, lt-ltb j (count s) hj))

-- A book that passes has no more levels than a book can have.
pub book_few : (s : List ℕ) → is_accepted s ≡ true → count s ≤ most_levels
book_few s h = few s (passing s h).size
