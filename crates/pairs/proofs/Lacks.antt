-- Refusal 3: the pair that stands at a place, and the pair that lacks a level.
use mathlib.Core.Path.{◌≡◌, sym, ap, ◌∙◌}
use mathlib.Core.Bool.{true, ◌&&◌, ◌||◌, and-or_distrib_left}
use Prim.Native.Nat.{ℕ, ◌+◌, ◌*◌, ◌/◌, ◌%◌, ◌≤◌, ◌<◌}
use native.Mathlib.Omega.{arith}
use lib.Dec.{eqb, ltb}
use borrow.Author.Tests.{lt-ltb, ltb-true}
use Rattle.prelude.proofs.Bools.{and_left, and_right}
use Rattle.prelude.proofs.Searches.{first_holds, first_within}
use Rattle.order.specs.Order.{Relation, converse, least_upper, greatest_lower}
use Rattle.book.specs.LevelBook.{most_levels}
use Rattle.pairs.specs.Refusals.{lacks_upper, first_lacking}
use Rattle.pairs.specs.Sweeping.{lacks_one}

-- place and pair
pub quotient : (i j : ℕ) → j < most_levels → (most_levels * i + j) / most_levels ≡ i
quotient i j h = omega arith

pub remainder : (i j : ℕ) → j < most_levels → (most_levels * i + j) % most_levels ≡ j
remainder i j h = omega arith

-- the test of refusal 3 at a place, of the pair that stands there
pub lacks_there :
    (R : Relation) (n p : ℕ) →
    (lacks_upper R n p || lacks_upper (converse R) n p)
    ≡ (ltb (p / most_levels) (p % most_levels) && (ltb (p % most_levels) n && lacks_one R n (p / most_levels) (p % most_levels)))
lacks_there R n p =
    let i : ℕ = p / most_levels in
    let j : ℕ = p % most_levels in
    sym
    (ap (λ b. ltb i j && b) (and-or_distrib_left (ltb j n) (eqb (least_upper R n i j) n) (eqb (greatest_lower R n i j) n))
    ∙ and-or_distrib_left (ltb i j) _ _)

-- i < j are a pair of n levels that lacks a level
pub record Lacking (R : Relation) (n i j : ℕ) : Type 0 where
  pub order : i < j
  pub within : j < n
  pub lacks : lacks_one R n i j ≡ true

pub lacking_pair :
    (R : Relation) (n p : ℕ) → (lacks_upper R n p || lacks_upper (converse R) n p) ≡ true →
    Lacking R n (p / most_levels) (p % most_levels)
lacking_pair R n p e =
    let i : ℕ = p / most_levels in
    let j : ℕ = p % most_levels in
    let t = sym (lacks_there R n p) ∙ e in
    let rest = and_right (ltb i j) _ t in
    record {
      order = ltb-true i j (and_left (ltb i j) _ t);
      within = ltb-true j n (and_left (ltb j n) _ rest);
      lacks = and_right (ltb j n) _ rest;
    }

-- where no pair lacks a level the place is past all
pub within_places : (R : Relation) (n : ℕ) → first_lacking R n ≤ most_levels * most_levels
unfolding first_lacking
within_places R n = first_within _ _

-- the pair of refusal 3
pub refused_pair :
    (R : Relation) (n : ℕ) → first_lacking R n < most_levels * most_levels →
    Lacking R n (first_lacking R n / most_levels) (first_lacking R n % most_levels)
unfolding first_lacking
refused_pair R n l = lacking_pair R n (first_lacking R n) (first_holds _ _ l)

-- the same test at the place of a pair
pub lacks_at :
    (R : Relation) (n i j : ℕ) → n ≤ most_levels → i < j → j < n →
    (lacks_upper R n (most_levels * i + j) || lacks_upper (converse R) n (most_levels * i + j)) ≡ lacks_one R n i j
lacks_at R n i j few h l =
    lacks_there R n (most_levels * i + j)
    ∙ rw (quotient i j (omega arith), remainder i j (omega arith), lt-ltb i j h, lt-ltb j n l)
