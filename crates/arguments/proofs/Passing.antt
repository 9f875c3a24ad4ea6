-- What a call of run that is not refused has: of its book and script, of its values, of its reader and its limit, of its
-- list.
use mathlib.Core.Path.{◌≡◌, refl, sym, ◌∙◌}
use mathlib.Core.Bool.{Bool, true, false, cond, not, ◌&&◌, ◌||◌, false≢true}
use mathlib.Core.List.{List}
use Prim.Native.Nat.{ℕ, suc, ◌-◌, ◌≤◌, ◌<◌}
use native.Mathlib.Decide.{dec_lt}
use native.Mathlib.Omega.{arith}
use lib.Dec.{eqb, ltb, leb}
use lib.IntN.{ℤ, pos}
use lib.ListN.{length, get_or-eq_default}
use borrow.Author.Tests.{eqb-true, ltb-true, ltb-false, leb-true, not-false}
use Rattle.language.specs.Calls.{most_steps}
use Rattle.prelude.specs.declared.Refusal.{Refusal}
use Rattle.prelude.specs.Search.{lesser}
use Rattle.prelude.specs.Refusals.{refused_by, passes}
use Rattle.prelude.proofs.Bools.{and_left, and_right, or_second}
use Rattle.prelude.proofs.Searches.{first_within, first_at_end}
use Rattle.book.specs.LevelBook.{count}
use Rattle.values.specs.Values.{same_value}
use Rattle.values.proofs.Signed.{same_is}
use Rattle.language.specs.Steps.{held}
use Rattle.inputs.specs.Lists.{instant_at, signal_at, pair_count, pairs_begun}
use Rattle.layout.specs.Layout.{name_count}
use Rattle.layout.specs.Entries.{is_session_name}
use Rattle.tree.specs.Tree.{names_of}
use Rattle.checker.specs.Refusals.{check_refusal}
use Rattle.prelude.proofs.Refusing.{passes_test, passes_both}
use Rattle.checker.proofs.Rows.{found_passes}
use Rattle.checker.proofs.Passing.{Accepted, accepted}
use Rattle.arguments.specs.Refusals.{value_is_right, first_wrong, values_refusal, is_session_signal, pair_is_right, first_faulty, last_place, list_refusal, call_refusal, run_refusal}
use Rattle.arguments.specs.Promises.{ListRight}

module _ (s : List ℕ) (values : List ℤ) where
  -- what row 13 leaves, as far as demand 3 needs it: 'owned names 0'; past the names nothing is held
  pub record Started : Type 0 where
    pub named : length values ≡ name_count s
    pub past : (x : ℕ) → name_count s ≤ x → held values x ≡ pos 0
    pub owned : (x : ℕ) → (names_of s).is_session x ≡ false → held values x ≡ pos 0

  right_owned : (x : ℕ) → value_is_right s values x ≡ true → (names_of s).is_session x ≡ false → held values x ≡ pos 0
  right_owned x h n =
      let v : ℤ = held values x in
      let signal = not ((names_of s).is_signal x) || (same_value v (pos 0) || same_value v (pos 1)) in
      let owned = (names_of s).is_session x || same_value v (pos 0) in
      same_is v (pos 0) (sym (or_second ((names_of s).is_session x) _ n) ∙ and_right signal owned h)

  started : passes (values_refusal s values) ≡ true → Started
  unfolding values_refusal
  started h =
      let n : ℕ = name_count s in
      let w : ℕ = first_wrong s values in
      let t = passes_test (eqb (length values) n) (refused_by 13 0) _ refl h in
      let named : length values ≡ n = eqb-true _ _ t.0 in
      let none : w ≡ n = eqb-true w n (sym (found_passes 13 w refl w n (first_within _ n)) ∙ t.1) in
      let past : (x : ℕ) → n ≤ x → held values x ≡ pos 0 =
      λ x l. get_or-eq_default values (pos 0) (omega (arith, named)) in
      record {
        named = named;
        past = past;
        owned =
            λ x k.
            elim (dec_lt x n) [
              | yes l ↦ right_owned x (not-false _ (first_at_end _ n none x l)) k
              | no l ↦ past x (omega arith)
            ];
      }

-- what row 15 leaves
list_right : (s list : List ℕ) → passes (list_refusal s list) ≡ true → ListRight s list
unfolding list_refusal
list_right s list h =
    record {
      rising =
          λ k l.
          let e : suc k - 1 ≡ k = omega arith in
          let u : instant_at list (suc k - 1) ≤ instant_at list (suc k) =
          leb-true _ _ (and_left (leb (instant_at list (suc k - 1)) (instant_at list (suc k))) _ (later (suc k) l)) in
          rw e at u;
      known = λ k l. ltb-true _ _ (and_left (ltb (signal_at list k) (name_count s)) _ (and_left _ _ (names k l)));
      signals = λ k l. and_right (is_session_name s (signal_at list k)) _ (names k l);
      session = λ k l. and_right (ltb (signal_at list k) (name_count s)) _ (and_left _ _ (names k l));
    }
  where
    n : ℕ
    n = pairs_begun list

    none : first_faulty s list ≡ n
    none =
        eqb-true _ n
        (sym (found_passes 15 (lesser (first_faulty s list) last_place) refl (first_faulty s list) n (first_within _ n)) ∙ h)

    right : (k : ℕ) → k < pair_count list → pair_is_right s list k ≡ true
    right k l = not-false _ (first_at_end _ n none k (omega arith))

    -- a pair's tests, from the third on
    later :
        (k : ℕ) → k < pair_count list →
        (leb (instant_at list (k - 1)) (instant_at list k) && is_session_signal s (signal_at list k)) ≡ true
    later k l = and_right (ltb 0 (instant_at list k)) _ (and_right (ltb k (pair_count list)) _ (right k l))

    names : (k : ℕ) → k < pair_count list → is_session_signal s (signal_at list k) ≡ true
    names k l = and_right (leb (instant_at list (k - 1)) (instant_at list k)) _ (later k l)

module _ (b s : List ℕ) (reader : ℕ) (values : List ℤ) (limit : ℕ) (list : List ℕ)
    (h : passes (run_refusal b s reader values limit list) ≡ true)
  where
    -- after rows 1 to 11, and after row 12
    checks : (passes (check_refusal b s) ≡ true) × (passes (call_refusal (count b) s reader values limit list) ≡ true)
    unfolding run_refusal
    checks = passes_both (check_refusal b s) (call_refusal (count b) s reader values limit list) h

    abbrev last_rows : Refusal
    last_rows = cond (ltb most_steps limit) (refused_by 14 0) (list_refusal s list)

    calls : (ltb reader (count b) ≡ true) × (passes (values_refusal s values) ≡ true) × (passes last_rows ≡ true)
    unfolding call_refusal
    calls =
        let two = passes_test (ltb reader (count b)) (refused_by 12 0) _ refl checks.1 in
        let rest = passes_both (values_refusal s values) _ two.1 in
        (two.0, rest.0, rest.1)

    pub run_accepted : Accepted b s × Started s values
    run_accepted = (accepted b s checks.0, started s values calls.1)

    -- rows 14 and 15
    ends : (limit ≤ most_steps) × (passes (list_refusal s list) ≡ true)
    ends = in_limit_lem (ltb most_steps limit) refl calls.2
      where
        in_limit_lem :
            (t : Bool) → ltb most_steps limit ≡ t → passes (cond t (refused_by 14 0) (list_refusal s list)) ≡ true →
            (limit ≤ most_steps) × (passes (list_refusal s list) ≡ true)
        in_limit_lem true e k = absurd (false≢true k)
        in_limit_lem false e k = (ltb-false most_steps limit e, k)

    pub run_bounds : (reader < count b) × (limit ≤ most_steps)
    run_bounds = (ltb-true reader (count b) calls.0, ends.0)

    pub run_listed : ListRight s list
    run_listed = list_right s list ends.1
