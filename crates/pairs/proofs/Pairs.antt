-- A sweep over all pairs, of new tables: the place of refusal 3, and both levels of every pair where there is none.
use mathlib.Core.Path.{◌≡◌, refl, sym, ap, ◌∙◌, subst}
use mathlib.Core.Bool.{true, false, not, or-true, true≢false}
use mathlib.Core.List.{List}
use Rattle.std.proofs.Common.{None, Ok}
use Rattle.std.specs.Prelude.{⊤}
use Prim.Native.Nat.{ℕ, ◌+◌, ◌*◌, ◌≤◌, ◌<◌}
use native.Mathlib.Decide.{dec_lt}
use native.Mathlib.Omega.{arith}
use borrow.Author.Tests.{lt-ltb, le-ltb, eq-eqb}
use Rattle.prelude.proofs.Bools.{and_intro}
use Rattle.prelude.proofs.Searches.{first_at_end, lesser_right}
use Rattle.prelude.proofs.Outcomes.{ok_passes}
use Rattle.prelude.specs.Promises.{outcome}
use Rattle.prelude.specs.Refusals.{passes}
use Rattle.book.specs.declared.Book.{Book}
use Rattle.order.specs.Order.{Relation, converse, least_upper, greatest_lower}
use Rattle.order.specs.Rows.{InOrder}
use Rattle.order.proofs.Duals.{dual}
use Rattle.book.specs.LevelBook.{most_levels, at_or_below}
use Rattle.pairs.specs.declared.Swept.{Swept}
use Rattle.pairs.specs.declared.table.Tables.{Tables}
use Rattle.pairs.specs.Promises.{KeepsAll, pair_refusal, place_or_end}
use Rattle.pairs.specs.Refusals.{first_lacking, lack_refusal}
use Rattle.pairs.specs.Table.{kept, Keeps, new_level}
use Rattle.pairs.specs.Sweeping.{level_pairs, pair_number, lacks_one, refused_number, taken_up, place_within, is_found, kept_after, Sweeps}
use Rattle.pairs.proofs.Orders.{least_above}
use Rattle.pairs.proofs.Lacks.{within_places, refused_pair, lacks_at}
use Rattle.pairs.proofs.Numbers.{number_within}

-- What is found of all pairs: the place of refusal 3; where no pair lacks a level, both are kept for every pair.
pub record Paired (R : Relation) (n : ℕ) (t : Tables) (place : ℕ) : Type 0 where
  pub first_place : place ≡ first_lacking R n
  pub joins : place ≡ most_levels * most_levels → Keeps t.join n (least_upper R n)
  pub meets : place ≡ most_levels * most_levels → Keeps t.meet n (greatest_lower R n)

module _ (R : Relation) (n k : ℕ) (few : n ≤ most_levels) (enough : level_pairs n ≤ k) where
  -- the place is that of refusal 3
  any_place : place_or_end (place_within R n k) ≡ first_lacking R n
  any_place =
      elim (dec_lt (first_lacking R n) (most_levels * most_levels)) [
        | yes l ↦
            let q = refused_pair R n l in
            rw (
              lt-ltb _ _ l,
              lt-ltb (refused_number R n) k (omega (arith, number_within n _ _ q.order q.within)),
            )
        | no l ↦ rw (le-ltb (first_lacking R n) (most_levels * most_levels) (omega arith)) (omega (arith, within_places R n))
      ]

  -- where a sweep of all pairs gives no place, no pair lacks a level
  pub none_lacks : place_within R n k ≡ None → first_lacking R n ≡ most_levels * most_levels
  none_lacks e = sym any_place ∙ ap place_or_end e

  module _ (none : first_lacking R n ≡ most_levels * most_levels) where
    all_taken : taken_up R n k ≡ level_pairs n
    all_taken = rw (none, lesser_right k (level_pairs n) enough)

    all_found : (i j : ℕ) → i < j → j < n → is_found R n k i j ≡ true
    unfolding first_lacking
    all_found i j h l =
        let p : ℕ = most_levels * i + j in
        let has : lacks_one R n i j ≡ false = sym (lacks_at R n i j few h l) ∙ first_at_end _ _ none p (omega arith) in
        and_intro _ _ (lt-ltb i j h)
        (and_intro _ _ (lt-ltb j n l)
        (and_intro _ _
        (lt-ltb (pair_number n i j) (taken_up R n k) (subst (λ m. pair_number n i j < m) (sym all_taken) (number_within n i j h l)))
        (ap not has)))

    -- a table that was new keeps the level of every two levels
    all_kept :
        (level : ℕ → ℕ → ℕ) → ((i : ℕ) → i < n → level i i ≡ i) → (t t' : List (List ℕ)) → Keeps t most_levels new_level →
        ((i j : ℕ) → kept t' i j ≡ kept_after R n k level t i j) → Keeps t' n level
    all_kept level own t t' new after i j hi hj =
        elim (dec_lt i j) [
          | yes u ↦ after i j ∙ rw (all_found i j u hj)
          | no u ↦
              elim (dec_lt j i) [
                | yes v ↦ after i j ∙ rw (all_found j i v hi, or-true (is_found R n k i j))
                | no v ↦
                    let e : i ≡ j = omega arith in
                    subst (λ x. kept t' i x ≡ level i x) e
                    (after i i
                    ∙ rw (le-ltb i i (omega arith), new i i (omega arith) (omega arith), eq-eqb i i refl) (sym (own i hi)))
              ]
        ]

-- a sweep over all pairs, of new tables
module _ (rs : List ℕ) (n k : ℕ) (w : InOrder rs n) (enough : level_pairs n ≤ k) where
  pub paired :
      (t t' : Tables) (r : Swept) → Keeps t.join most_levels new_level → Keeps t.meet most_levels new_level →
      Sweeps (at_or_below rs) n k t t' r → Paired (at_or_below rs) n t' (place_or_end r.place)
  paired t t' r u v swept =
      let R : Relation = at_or_below rs in
      let place : place_or_end r.place ≡ first_lacking R n = ap place_or_end swept.place ∙ any_place R n k w.few enough in
      let o = w.order in
      record {
        first_place = place;
        joins =
            λ e.
            all_kept R n k w.few enough (sym place ∙ e) (least_upper R n)
            (λ i h. least_above R n o i i h h (o.reflexive i h)) t.join t'.join u swept.joins;
        meets =
            λ e.
            all_kept R n k w.few enough (sym place ∙ e) (greatest_lower R n)
            (λ i h. least_above (converse R) n (dual R n o) i i h h (o.reflexive i h)) t.meet t'.meet v swept.meets;
      }

-- a place that is not refused is past all
not_refused_lem : (p : ℕ) → passes (lack_refusal p) ≡ true → most_levels * most_levels ≤ p
not_refused_lem p e =
    elim (dec_lt p (most_levels * most_levels)) [
      | yes l ↦ absurd (true≢false (sym e ∙ rw (lt-ltb p (most_levels * most_levels) l) refl))
      | no l ↦ omega arith
    ]

-- where the place of all pairs is not refused, no pair of the book lacks a level, and the tables keep both of each
pub keeps_all :
    (b : Book) (k : ℕ) → InOrder b.rows b.count → level_pairs b.count ≤ k → (t t' : Tables) (r : Swept) → Keeps t.join most_levels new_level →
    Keeps t.meet most_levels new_level → Sweeps (at_or_below b.rows) b.count k t t' r → {u : ⊤} →
    outcome (lack_refusal (place_or_end r.place)) tt ≡ Ok u → (passes (pair_refusal b) ≡ true) × KeepsAll b t'
keeps_all b k w enough t t' r u v swept e =
    let p = paired b.rows b.count k w enough t t' r u v swept in
    let passed = ok_passes (lack_refusal (place_or_end r.place)) tt e in
    let none : place_or_end r.place ≡ most_levels * most_levels =
    omega (arith, not_refused_lem _ passed, p.first_place, within_places (at_or_below b.rows) b.count)
    in
    (subst (λ q. passes (lack_refusal q) ≡ true) p.first_place passed, record { joins = p.joins none; meets = p.meets none })
