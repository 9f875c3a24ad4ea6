-- What each way out of `load` has to show, and what a book that it does not refuse is.
use mathlib.Core.Path.{◌≡◌, refl, sym, ap, subst}
use mathlib.Core.Bool.{Bool, true, false, cond, not, false≢true}
use mathlib.Core.List.{List}
use Prim.Native.Nat.{ℕ, ◌≤◌}
use native.Mathlib.Omega.{arith}
use lib.Dec.{ltb}
use borrow.Author.Tests.{ltb-false, not-false}
use Rattle.std.proofs.Common.{Some, None, Ok, Err}
use Rattle.prelude.specs.Search.{first}
use Rattle.prelude.specs.Refusals.{refused_by, not_refused, passes}
use Rattle.prelude.specs.Promises.{found, outcome}
use Rattle.prelude.proofs.Searches.{first_within, first_at_end}
use Rattle.prelude.proofs.Found.{given_found, given_nothing, found_nothing}
use Rattle.book.specs.declared.Book.{Book}
use Rattle.book.specs.LevelBook.{most_levels, count, size_is_right, rows}
use Rattle.order.specs.Rows.{InOrder}
use Rattle.order.specs.Refusals.{is_faulty, first_faulty, refusal}
use Rattle.book.specs.Load.{book_of}
use Rattle.book.proofs.Sizes.{few, read_some, read_none}
use Rattle.order.proofs.Faultless.{in_order}

-- no book
pub unread : (s : List ℕ) → cond (size_is_right s) (Some (book_of s)) None ≡ None → outcome (refusal s) (book_of s) ≡ Err (refused_by 1 0)
unfolding refusal
unread s e = rw (read_none s e)

-- the book that was read
module _ (s : List ℕ) {b : Book} (e : cond (size_is_right s) (Some (book_of s)) None ≡ Some b) where
  pub few_levels : b.count ≤ most_levels
  few_levels = let h = read_some s e in subst (λ (x : Book). x.count ≤ most_levels) h.1 (few s h.0)

  pub faulty : {i : ℕ} → found (is_faulty b.rows b.count) b.count ≡ Some i → outcome (refusal s) (book_of s) ≡ Err (refused_by 2 i)
  unfolding refusal first_faulty
  faulty {i} q =
      let h = read_some s e in
      let at = subst (λ (x : Book). found (is_faulty x.rows x.count) x.count ≡ Some i) (sym h.1) q in
      rw (h.0, given_found (is_faulty (rows s) (count s)) (count s) (refused_by 2) not_refused at) refl

  module _ (none : found (is_faulty b.rows b.count) b.count ≡ None) where
    pub faultless : outcome (refusal s) (book_of s) ≡ Ok b
    unfolding refusal first_faulty
    faultless =
        let h = read_some s e in
        let at = subst (λ (x : Book). found (is_faulty x.rows x.count) x.count ≡ None) (sym h.1) none in
        rw (h.0, given_nothing (is_faulty (rows s) (count s)) (count s) (refused_by 2) not_refused at) (ap Ok h.1)

    pub ordered : InOrder b.rows b.count
    ordered = in_order b.rows b.count (found_nothing (is_faulty b.rows b.count) b.count none) few_levels

-- the two tests of a refusal fail
parts :
    (a b : Bool) (p : ℕ) → passes (cond a (refused_by 1 0) (cond b (refused_by 2 p) not_refused)) ≡ true →
    (a ≡ false) × (b ≡ false)
parts true b p h = absurd (false≢true h)
parts false true p h = absurd (false≢true h)
parts false false p h = (refl, refl)

-- A book that passes has the right size, and its levels are in order.
module _ (s : List ℕ) (h : passes (refusal s) ≡ true) where
  both : (not (size_is_right s) ≡ false) × (ltb (first_faulty (rows s) (count s)) (count s) ≡ false)
  unfolding refusal
  both = parts _ _ _ h

  pub passing_size : size_is_right s ≡ true
  passing_size = not-false _ both.0

  pub passing_refusal : refusal s ≡ not_refused
  unfolding refusal
  passing_refusal = rw (both.0, both.1)

  pub passing_order : InOrder (rows s) (count s)
  unfolding first_faulty
  passing_order =
      let f : ℕ → Bool = is_faulty (rows s) (count s) in
      let n : ℕ = count s in
      in_order (rows s) n
      (first_at_end f n (omega (arith, first_within f n, ltb-false (first f n) n both.1)))
      (few s passing_size)
