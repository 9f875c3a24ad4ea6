-- What a book that is not refused shows, read off the definition of its refusal.
use mathlib.Core.Path.{◌≡◌, refl, sym, ◌∙◌}
use mathlib.Core.Bool.{Bool, true, false, cond, ◌||◌, false≢true}
use mathlib.Core.List.{List}
use Prim.Native.Nat.{ℕ, ◌+◌, ◌*◌, ◌≤◌, ◌<◌}
use native.Mathlib.Decide.{dec_lt}
use native.Mathlib.Omega.{arith}
use lib.Dec.{ltb, eqb}
use borrow.Author.Tests.{ltb-false, eqb-false, lt-ltb}
use Rattle.prelude.specs.declared.Refusal.{Refusal}
use Rattle.prelude.specs.Search.{first}
use Rattle.prelude.specs.Refusals.{refused_by, not_refused, passes}
use Rattle.prelude.proofs.Bools.{or_left, or_right}
use Rattle.prelude.proofs.Searches.{first_within, first_at_end, NoneBelow}
use Rattle.order.specs.Order.{Relation, converse, is_least_upper, least_upper}
use Rattle.book.specs.LevelBook.{most_levels, count, size_is_right, rows, at_or_below}
use Rattle.order.specs.Rows.{InOrder}
use Rattle.order.specs.Refusals as orders
use Rattle.order.proofs.Loads.{passing_size, passing_order}
use Rattle.pairs.specs.Refusals.{lacks_upper, first_lacking}
use Rattle.pairs.proofs.Lacks.{quotient, remainder}
use Rattle.lattice.specs.Refusals.{refusal, is_accepted}

-- no refusal of the first two, and the test of the third fails
parts :
    (r : Refusal) (b c : Bool) (q : ℕ) → passes r ≡ b →
    passes (cond b (cond c (refused_by 3 q) not_refused) r) ≡ true → (b ≡ true) × (c ≡ false)
parts r true true q e h = absurd (false≢true h)
parts r true false q e h = (refl, refl)
parts r false c q e h = absurd (false≢true (sym e ∙ h))

-- the size is right, the levels are in order, and no pair lacks a common level
pub record Passing (s : List ℕ) : Type 0 where
  pub size : size_is_right s ≡ true
  pub ordered : InOrder (rows s) (count s)
  pub complete :
      NoneBelow
      (λ p. lacks_upper (at_or_below (rows s)) (count s) p || lacks_upper (converse (at_or_below (rows s))) (count s) p)
      (most_levels * most_levels)

pub passing : (s : List ℕ) → is_accepted s ≡ true → Passing s
unfolding refusal first_lacking
passing s h =
    let R : Relation = at_or_below (rows s) in
    let n : ℕ = count s in
    let most : ℕ = most_levels * most_levels in
    let g : ℕ → Bool = λ p. lacks_upper R n p || lacks_upper (converse R) n p in
    let w : (passes (orders.refusal s) ≡ true) × (ltb (first g most) most ≡ false) = parts (orders.refusal s) _ _ _ refl h in
    record {
      size = passing_size s w.0;
      ordered = passing_order s w.0;
      complete = first_at_end g most (omega (arith, first_within g most, ltb-false (first g most) most w.1));
    }

-- a pair that does not lack its least common upper level has it
has_upper :
    (R : Relation) (n : ℕ) → n ≤ most_levels → (i j : ℕ) → i < j → j < n → lacks_upper R n (most_levels * i + j) ≡ false →
    least_upper R n i j < n
unfolding least_upper
has_upper R n small i j a b h =
    let e : eqb (least_upper R n i j) n ≡ false =
    rw (quotient i j (omega arith), remainder i j (omega arith), lt-ltb i j a, lt-ltb j n b) at h
    in
    let u = first_within (is_least_upper R n i j) n in
    let v = eqb-false (least_upper R n i j) n e in
    elim (dec_lt (least_upper R n i j) n) [
      | yes l ↦ l
      | no l ↦ absurd (v (omega arith))
    ]

module _ (s : List ℕ) (w : Passing s) where
  pub uppers : (i j : ℕ) → i < j → j < count s → least_upper (at_or_below (rows s)) (count s) i j < count s
  uppers i j a b =
      let small = w.ordered.few in
      has_upper (at_or_below (rows s)) (count s) small i j a b (or_left _ _ (w.complete (most_levels * i + j) (omega arith)))

  pub lowers : (i j : ℕ) → i < j → j < count s → least_upper (converse (at_or_below (rows s))) (count s) i j < count s
  lowers i j a b =
      let small = w.ordered.few in
      has_upper (converse (at_or_below (rows s))) (count s) small i j a b
      (or_right (lacks_upper (at_or_below (rows s)) (count s) (most_levels * i + j)) _ (w.complete (most_levels * i + j) (omega arith)))
