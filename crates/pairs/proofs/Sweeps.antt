-- The sweep over the pairs: what holds when the first m pairs are taken up, and what it comes to in the end.
use mathlib.Core.Path.{◌≡◌, sym, ap, ◌∙◌, subst}
use mathlib.Core.Bool.{true, false, not, ◌||◌, true≢false}
use Rattle.std.proofs.Common.{Option, Some, None, MatchOption, rules}
use Rattle.std.specs.Option.{is_some}
use mathlib.Core.Logic.{◌⊎◌, ⊎_elim}
use Prim.Native.Nat.{ℕ, ◌+◌, ◌*◌, ◌/◌, ◌%◌, ◌≤◌, ◌<◌}
use native.Mathlib.Nat.{le_refl}
use native.Mathlib.Decide.{ℕ_discrete, dec_lt}
use native.Mathlib.Omega.{arith}
use lib.Dec.{ltb}
use borrow.Author.Tests.{lt-ltb, ltb-true, ne_eqb, not-true}
use Rattle.prelude.specs.Search.{lesser}
use Rattle.prelude.proofs.Bools.{fails, and_intro, and_left, and_right, same_truth}
use Rattle.prelude.proofs.Searches.{first_is, lesser_left, lesser_right}
use Rattle.order.specs.Order.{Relation, converse, least_upper, greatest_lower}
use Rattle.book.specs.LevelBook.{most_levels}
use Rattle.pairs.specs.declared.Swept.{Swept}
use Rattle.pairs.specs.declared.table.Tables.{Tables}
use Rattle.pairs.specs.Refusals.{lacks_upper, first_lacking}
use Rattle.pairs.specs.Table.{Stores}
use Rattle.pairs.specs.Promises.{BothLevels, is_taken, Upto, SweptLevel}
use Rattle.pairs.specs.Sweeping.{level_pairs, pair_number, lacks_one, refused_number, is_refused, taken_up, place_within, is_found, Sweeps}
use Rattle.pairs.proofs.Orders.{least_swap}
use Rattle.pairs.proofs.Lacks.{quotient, remainder, Lacking, lacking_pair, refused_pair, lacks_at}
use Rattle.pairs.proofs.Numbers.{earlier_row, earlier_here, number_within, one_number, before_both}
use Rattle.pairs.proofs.Fills.{taken_order, taken_within, taken_number, is_taken_lem, none_taken, filled_none, filled_next}

pub start : (R : Relation) (n : ℕ) (t : Tables) → Upto R n 0 t t
start R n t =
    record {
      complete = λ a b taken. absurd (true≢false (sym taken ∙ none_taken n a b));
      joins = filled_none n _ t.join;
      meets = filled_none n _ t.meet;
    }

module _ (R : Relation) (n : ℕ) (few : n ≤ most_levels) where
  has_levels : (i j u l : ℕ) → BothLevels R n i j u l → lacks_one R n i j ≡ false
  has_levels i j u l found =
      rw (
        ne_eqb (least_upper R n i j) n (λ e. omega (arith, found.upper, found.upper_within)),
        ne_eqb (greatest_lower R n i j) n (λ e. omega (arith, found.lower, found.lower_within)),
      )

  module _ (m : ℕ) (t t' : Tables) (w : Upto R n m t t') where
    -- one more pair, which has both levels
    pub next :
        (i j u l : ℕ) → i < j → j < n → m ≡ pair_number n i j → BothLevels R n i j u l →
        (t'' : Tables) → Stores t'.join i j u t''.join → Stores t'.meet i j l t''.meet → Upto R n (m + 1) t t''
    next i j u l h k e found t'' sj sm =
        record {
          complete =
              λ a b q.
              elim (ℕ_discrete (pair_number n a b) m) [
                | yes x ↦
                    let p = one_number n a b i j (taken_order n (m + 1) a b q) (taken_within n (m + 1) a b q) h k (x ∙ e) in
                    rw (p.0, p.1) (has_levels i j u l found)
                | no x ↦
                    w.complete a b
                    (is_taken_lem n m a b (taken_order n (m + 1) a b q) (taken_within n (m + 1) a b q) (omega (arith, taken_number n (m + 1) a b q)))
              ];
          joins = filled_next n m i j h k e (least_upper R n) (least_swap R n j i) t.join t'.join t''.join u found.upper sj w.joins;
          meets =
              filled_next n m i j h k e (greatest_lower R n) (least_swap (converse R) n j i) t.meet t'.meet t''.meet l found.lower sm
              w.meets;
        }

    -- what the sweep leaves, of the number that it takes up: those of its pairs that have both levels are the first m
    left_by_lem :
        (k : ℕ) (r : Swept) → r.taken ≡ taken_up R n k → r.place ≡ place_within R n k →
        ((a b : ℕ) → is_found R n k a b ≡ is_taken n m a b) → Sweeps R n k t t' r
    left_by_lem k r et ep same =
        record {
          taken = et;
          place = ep;
          joins = λ a b. w.joins a b ∙ sym (rw (same a b, same b a));
          meets = λ a b. w.meets a b ∙ sym (rw (same a b, same b a));
        }

    -- a pair that lacks a level is not among the first m
    lacks_late : (a b : ℕ) → Lacking R n a b → m ≤ pair_number n a b
    lacks_late a b q =
        elim (dec_lt (pair_number n a b) m) [
          | yes x ↦ absurd (true≢false (sym q.lacks ∙ w.complete a b (is_taken_lem n m a b q.order q.within x)))
          | no x ↦ omega arith
        ]

    -- the pairs that are found are the first m, if the others that are taken up lack a level
    found_is :
        (k taken : ℕ) → taken_up R n k ≡ taken → m ≤ taken →
        ((a b : ℕ) → a < b → b < n → pair_number n a b < taken → lacks_one R n a b ≡ false → pair_number n a b < m) →
        (a b : ℕ) → is_found R n k a b ≡ is_taken n m a b
    found_is k taken e h only a b =
        same_truth _ _
        (λ f.
        let u = ltb-true a b (and_left (ltb a b) _ f) in
        let rest = and_right (ltb a b) _ f in
        let v = ltb-true b n (and_left (ltb b n) _ rest) in
        let last = and_right (ltb b n) _ rest in
        let number : ℕ = pair_number n a b in
        let less = ltb-true number (taken_up R n k) (and_left (ltb number (taken_up R n k)) _ last) in
        is_taken_lem n m a b u v
        (only a b u v (subst (λ x. number < x) e less) (not-true _ (and_right (ltb number (taken_up R n k)) _ last))))
        (λ t.
        let less : pair_number n a b < taken = omega (arith, taken_number n m a b t) in
        and_intro _ _ (lt-ltb a b (taken_order n m a b t))
        (and_intro _ _ (lt-ltb b n (taken_within n m a b t))
        (and_intro _ _ (lt-ltb (pair_number n a b) (taken_up R n k) (subst (λ x. pair_number n a b < x) (sym e) less))
        (ap not (w.complete a b t)))))

    module _ (k : ℕ) (held : m ≤ k) where
      -- the sweep has taken up k pairs, or all, and none of them lacks a level
      module _ (within : m ≤ level_pairs n) (done : (k ≤ m) ⊎ (level_pairs n ≤ m)) where
        not_refused_lem : is_refused R n k ≡ false
        not_refused_lem =
            fails _ (λ t.
            let q = refused_pair R n (ltb-true (first_lacking R n) (most_levels * most_levels) (and_left _ _ t)) in
            let late : m ≤ refused_number R n = lacks_late _ _ q in
            let early : refused_number R n < level_pairs n = number_within n _ _ q.order q.within in
            let first : refused_number R n < k =
            ltb-true (refused_number R n) k (and_right (ltb (first_lacking R n) (most_levels * most_levels)) _ t)
            in
            ⊎_elim (λ x. omega arith) (λ x. omega arith) done)

        all_or_k : taken_up R n k ≡ m
        all_or_k =
            rw not_refused_lem
            (⊎_elim
            (λ x. lesser_left k (level_pairs n) (omega arith) ∙ omega arith)
            (λ x. lesser_right k (level_pairs n) (omega arith) ∙ omega arith)
            done)

        no_refusal : place_within R n k ≡ None
        no_refusal = rw not_refused_lem

        pub ends : (r : Swept) → r.taken ≡ m → r.place ≡ None → Sweeps R n k t t' r
        ends r p e = left_by_lem k r (p ∙ sym all_or_k) (e ∙ sym no_refusal) (found_is k m all_or_k (le_refl m) (λ a b h l x y. x))

      -- the sweep has taken up one pair more, and this one lacks a level
      module _ (i j : ℕ) (h : i < j) (l : j < n) (e : m ≡ pair_number n i j) (more : m < k) (lacks : lacks_one R n i j ≡ true) where
        sooner : (p : ℕ) → p < most_levels * i + j → (lacks_upper R n p || lacks_upper (converse R) n p) ≡ false
        sooner p u =
            fails _ (λ t.
            let q = lacking_pair R n p t in
            let late = lacks_late _ _ q in
            elim (dec_lt (p / most_levels) i) [
              | yes x ↦ omega (arith, earlier_row n _ _ i j q.order q.within x)
              | no x ↦
                  let same : p / most_levels ≡ i = omega (arith, q.within) in
                  let here = earlier_here n i (p % most_levels) j (omega (arith, q.order)) (omega (arith, q.within)) in
                  omega (arith, subst (λ a. pair_number n a (p % most_levels) < pair_number n i j) (sym same) here)
            ])

        this_place : first_lacking R n ≡ most_levels * i + j
        unfolding first_lacking
        this_place = first_is _ _ _ (omega arith) (lacks_at R n i j few h l ∙ lacks) sooner

        this_number : refused_number R n ≡ m
        this_number = rw (this_place, quotient i j (omega arith), remainder i j (omega arith)) (sym e)

        is_refused_lem : is_refused R n k ≡ true
        is_refused_lem =
            and_intro _ _
            (lt-ltb (first_lacking R n) (most_levels * most_levels) (omega (arith, this_place)))
            (lt-ltb (refused_number R n) k (omega (arith, this_number)))

        one_more : taken_up R n k ≡ m + 1
        one_more = rw is_refused_lem (omega (arith, this_number))

        refused : place_within R n k ≡ Some (most_levels * i + j)
        refused = rw is_refused_lem (ap Some this_place)

        pub stops : Sweeps R n k t t' (record { taken = m + 1; place = Some (most_levels * i + j) })
        stops =
            left_by_lem k (record { taken = m + 1; place = Some (most_levels * i + j) }) (sym one_more) (sym refused)
            (found_is k (m + 1) one_more (omega arith) (λ a b u v x y.
            elim (ℕ_discrete (pair_number n a b) m) [
              | yes z ↦ let o = one_number n a b i j u v h l (z ∙ e) in absurd (true≢false (sym lacks ∙ rw (o.0, o.1) at y))
              | no z ↦ omega arith
            ]))

    -- the sweep has taken up the first k pairs, or all if there are fewer, and none of them lacks a level
    pub ended : (k : ℕ) → m ≡ lesser k (level_pairs n) → (r : Swept) → r.taken ≡ m → r.place ≡ None → Sweeps R n k t t' r
    ended k all = let h = before_both k (level_pairs n) m all in ends k h.0 h.1.0 h.1.1

-- where the pairs of a level ended at one that lacks a level
pub stopped :
    {R : Relation} {n k : ℕ} (i : ℕ) {t t' : Tables} (r : Swept) → is_some r.place ≡ true → SweptLevel R n k i t t' r → Sweeps R n k t t' r
stopped i r = go _ r.place
  where
    go : {A : Type 0} (B : Type 0) (place : Option ℕ) → is_some place ≡ true → MatchOption place B (λ _. A) → A
    go B (Some p) e w = w
    go B None e w = search rules
