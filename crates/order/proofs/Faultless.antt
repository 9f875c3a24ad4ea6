-- Refusal 2: the faults of a level on whole sets of levels, and the order of levels that have none.
use mathlib.Core.Path.{◌≡◌, refl, sym, ap, ◌∙◌}
use mathlib.Core.Bool.{Bool, true, false, not, ◌&&◌, true≢false, false≢true}
use mathlib.Core.List.{List}
use Prim.Native.Nat.{ℕ, ◌-◌, ◌/◌, ◌^◌, ◌≤◌, ◌<◌}
use native.Mathlib.Decide.{ℕ_discrete}
use lib.Dec.{eqb, ltb}
use lib.ListN.{get_or}
use borrow.Author.Tests.{eqb-true, eq-eqb, ne_eqb, not-true, not-false}
use Rattle.prelude.specs.Search.{any}
use Rattle.prelude.specs.Sets.{has, outside}
use Rattle.prelude.proofs.Bools.{fails, and_intro, and_left, and_right, and_second, or_left, or_right, or_first, or-true, or_cases, same_truth}
use Rattle.prelude.proofs.Searches.{NoneBelow, any_same, any_none, any_some, some_of_any, none_of_any}
use Rattle.prelude.proofs.Sets.{none_beyond, out_same, out_other, out_none}
use Rattle.order.specs.Order.{both_ways, gap, shows_fault, PartialOrder}
use Rattle.book.specs.LevelBook.{most_levels, at_or_below}
use Rattle.order.specs.Rows.{InOrder}
use Rattle.order.specs.Refusals.{is_faulty}

no_first : (a b : Bool) → a ≡ false → (a && b) ≡ false
no_first true b h = absurd (true≢false h)
no_first false b h = refl

never : (a b : Bool) → (a && (b && not b)) ≡ false
never true true = refl
never true false = refl
never false b = refl

module _ (rs : List ℕ) (n i : ℕ) (h : i < n) (own : at_or_below rs i i ≡ true) where
  -- the other levels that i is at or below
  abbrev pub others : ℕ
  others = get_or rs i 0 - 2 ^ i

  not_own : has others i ≡ false
  not_own = out_same (get_or rs i 0) i own

  is_other : (j : ℕ) → (j ≡ i → ⊥) → has others j ≡ at_or_below rs i j
  is_other j e = out_other (get_or rs i 0) i own j e

  module _ (j : ℕ) (e : j ≡ i → ⊥) (above : at_or_below rs i j ≡ true) where
    shown : shows_fault (at_or_below rs) n i j ≡ true → outside (get_or rs j 0) others n ≡ true
    shown w =
        or_cases (both_ways (at_or_below rs) i j) (any (gap (at_or_below rs) i j) n) w
        (λ u.
        let back = and_right (at_or_below rs i j) (at_or_below rs j i) (and_right (not (eqb i j)) _ u) in
        any_some _ n i h (and_intro _ _ back (ap not not_own)))
        (λ u.
        let k = some_of_any (gap (at_or_below rs) i j) n u in
        let rest = and_right (at_or_below rs i j) _ k.2 in
        let lacks : at_or_below rs i k.0 ≡ false = not-true _ (and_right (at_or_below rs j k.0) _ rest) in
        any_some _ n k.0 k.1
        (and_intro _ _ (and_left (at_or_below rs j k.0) _ rest)
        (ap not (out_none (get_or rs i 0) i own k.0 lacks))))

    shows : outside (get_or rs j 0) others n ≡ true → shows_fault (at_or_below rs) n i j ≡ true
    shows w =
        let k = some_of_any _ n w in
        let at : at_or_below rs j k.0 ≡ true = and_left _ _ k.2 in
        let lacks : has others k.0 ≡ false = not-true _ (and_right (at_or_below rs j k.0) _ k.2) in
        elim (ℕ_discrete k.0 i) [
          | yes q ↦
              or_first _ _
              (and_intro _ _ (ap not (ne_eqb i j (λ x. e (sym x)))) (and_intro _ _ above (ap (at_or_below rs j) (sym q) ∙ at)))
          | no q ↦
              or-true (both_ways (at_or_below rs) i j) _
              (any_some (gap (at_or_below rs) i j) n k.0 k.1
              (and_intro _ _ above (and_intro _ _ at (ap not (sym (is_other k.0 q) ∙ lacks)))))
        ]

  at_own : shows_fault (at_or_below rs) n i i ≡ false
  at_own =
      rw (eq-eqb i i refl)
      (any_none (gap (at_or_below rs) i i) n (λ k l. never (at_or_below rs i i) (at_or_below rs i k)))

  not_above : (j : ℕ) → at_or_below rs i j ≡ false → shows_fault (at_or_below rs) n i j ≡ false
  not_above j u =
      fails _ (λ w.
      or_cases (both_ways (at_or_below rs) i j) (any (gap (at_or_below rs) i j) n) w
      (λ v. true≢false (sym (and_left (at_or_below rs i j) _ (and_right (not (eqb i j)) _ v)) ∙ u))
      (λ v.
      let k = some_of_any (gap (at_or_below rs) i j) n v in true≢false (sym (and_left (at_or_below rs i j) _ k.2) ∙ u)))

  by_sets : (j : ℕ) → shows_fault (at_or_below rs) n i j ≡ (has others j && outside (get_or rs j 0) others n)
  by_sets j =
      elim (ℕ_discrete j i) [
        | yes e ↦ ap (shows_fault (at_or_below rs) n i) e ∙ at_own ∙ sym (no_first _ _ (ap (has others) e ∙ not_own))
        | no e ↦ go e (at_or_below rs i j) refl
      ]
    where
      go :
          (j ≡ i → ⊥) → (b : Bool) → at_or_below rs i j ≡ b →
          shows_fault (at_or_below rs) n i j ≡ (has others j && outside (get_or rs j 0) others n)
      go e true u = same_truth _ _ (shown j e u) (shows j e u) ∙ sym (and_second _ _ (is_other j e ∙ u))
      go e false u = not_above j u ∙ sym (no_first _ _ (is_other j e ∙ u))

  pub faults_by_sets :
      any (shows_fault (at_or_below rs) n i) n ≡ any (λ j. has others j && outside (get_or rs j 0) others n) n
  faults_by_sets = any_same _ _ n (λ j l. by_sets j)

-- levels with no fault, over the rows and any number of levels
module _ (rs : List ℕ) (n : ℕ) (faultless : NoneBelow (is_faulty rs n) n) where
  own : (i : ℕ) → i < n → at_or_below rs i i ≡ true
  unfolding is_faulty
  own i h = not-false _ (or_left _ _ (faultless i h))

  inside : (i : ℕ) → i < n → get_or rs i 0 < 2 ^ n
  unfolding is_faulty
  inside i h =
      none_beyond (get_or rs i 0) n
      (or_left (ltb 0 (get_or rs i 0 / 2 ^ n)) _ (or_right (not (at_or_below rs i i)) _ (faultless i h)))

  at_pair : (i j : ℕ) → i < n → j < n → shows_fault (at_or_below rs) n i j ≡ false
  unfolding is_faulty
  at_pair i j h l =
      none_of_any (shows_fault (at_or_below rs) n i) n
      (or_right (ltb 0 (get_or rs i 0 / 2 ^ n)) _ (or_right (not (at_or_below rs i i)) _ (faultless i h))) j l

  partial_order : PartialOrder (at_or_below rs) n
  partial_order =
      record {
        reflexive = own;
        antisymmetric =
            λ i j a b u v.
            eqb-true i j (not-false _ (fails _ (λ e.
            false≢true (sym (or_left _ _ (at_pair i j a b)) ∙ and_intro _ _ e (and_intro _ _ u v)))));
        transitive =
            λ i j k a b c u v.
            not-false _ (fails _ (λ e.
            false≢true
            (sym (none_of_any (gap (at_or_below rs) i j) n (or_right (both_ways (at_or_below rs) i j) _ (at_pair i j a b)) k c)
            ∙ and_intro _ _ u (and_intro _ _ v e))));
      }

  pub in_order : n ≤ most_levels → InOrder rs n
  in_order l = record { few = l; inside = inside; order = partial_order }
