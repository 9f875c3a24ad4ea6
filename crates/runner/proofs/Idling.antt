-- Where no signal is present and none is listed an instant change changes nothing: a suspended script stays as it is.
use mathlib.Core.Path.{◌≡◌, refl, sym, ap, ◌∙◌}
use mathlib.Core.Bool.{Bool, true, false, cond, true≢false}
use mathlib.Core.List.{List}
use Prim.Native.Nat.{ℕ, zero, suc, ◌+◌, ◌≤◌, ◌<◌}
use native.Mathlib.Decide.{dec_lt}
use native.Mathlib.Nat.{add-zero, add-suc}
use native.Mathlib.Omega.{arith}
use lib.IntN.{ℤ, pos, negsuc}
use lib.ListN.{length, get_or-eq_default}
use lib.Seq.{ext_get_or}
use Rattle.prelude.proofs.Bools.{and_second, by_cases}
use Rattle.prelude.proofs.Searches.{none_of_any}
use Rattle.values.specs.Values.{holds, truth}
use Rattle.language.specs.Syntax.{Names, Proc}
use Rattle.language.specs.Steps.{held, present, suspended, change, Inputs, instant_start}
use Rattle.language.proofs.Stores.{instant_at_lem, instant_length}
use Rattle.program.specs.Program.{node_count, names_of, process_of}
use Rattle.program.specs.Runnable.{Runnable}
use Rattle.program.proofs.Views.{NodeView, a_nil, an_assign, a_let, an_if, a_while, a_sequence, an_emit, a_local, a_watching, a_when, a_parallel, node_view}
use Rattle.residual.specs.Residual.{residual}
use Rattle.residual.proofs.Staying.{Still, residual_stays}
use Rattle.moves.specs.declared.counts.Counts.{Counts}
use Rattle.moves.specs.Moves.{Running}
use Rattle.moves.specs.Promises.{after_changes, running_with}
use Rattle.runner.specs.Outcome.{outcome}
use Rattle.instants.specs.Promises.{is_present_signal, some_signal_present}
use Rattle.runner.proofs.Outcomes.{outcome_changes}

zero_of : (z : ℤ) → holds z ≡ false → z ≡ pos 0
zero_of (pos zero) h = refl
zero_of (pos (suc n)) h = absurd (true≢false h)
zero_of (negsuc n) h = absurd (true≢false h)

module _ (names : Names ℕ) (values : List ℤ) (none : some_signal_present names values ≡ false) where
  absent : (a : ℕ) → names.is_signal a ≡ true → present values a ≡ false
  absent a h =
      elim (dec_lt a (length values)) [
        | yes i ↦ sym (and_second (names.is_signal a) (present values a) h)
            ∙ none_of_any (is_present_signal names values) (length values) none a i
        | no o ↦ ap holds (get_or-eq_default values (pos 0) (omega arith))
      ]

  -- what is left of a node stays as it is: each signal that a watching waits for is absent
  module _ (words : List ℕ) (ok : Runnable words) (same : (x : ℕ) → names.is_signal x ≡ (names_of words).is_signal x) where
    still_view :
        (k : ℕ) → ((j : ℕ) → j < k → Still values (process_of words j)) → NodeView words k → Still values (process_of words k)
    still_view k go (a_nil e q) = rw q tt
    still_view k go (an_assign e q x y) = rw q tt
    still_view k go (a_let e q x y p) = rw q (go _ p.before)
    still_view k go (an_if e q y p r) = rw q (go _ p.before, go _ r)
    still_view k go (a_while e q y p) = rw q (go _ p.before)
    still_view k go (a_sequence e q p r) = rw q (go _ p.before, go _ r)
    still_view k go (an_emit e q x) = rw q tt
    still_view k go (a_local e q x p) = rw q (go _ p.before)
    still_view k go (a_watching e q x p g) = rw q (absent _ (same _ ∙ g), go _ p.before)
    still_view k go (a_when e q x p l) = rw q (go _ p.before)
    still_view k go (a_parallel e q p r) = rw q (go _ p.before, go _ r)

    still_below : (n k : ℕ) → k < n → k < node_count words → Still values (process_of words k)
    still_below zero k l h = absurd (omega (arith, l))
    still_below (suc n) k l h =
        still_view k (λ j e. still_below n j (omega (arith, e, l)) (omega (arith, e, h))) (node_view words ok k h)

    pub idle_stays :
        (k : ℕ) → k < node_count words → (st : List ℕ) →
        change (residual (process_of words k) st) values ≡ residual (process_of words k) st
    idle_stays k h = residual_stays values (process_of words k) (still_below (suc k) k (omega arith) h)

  -- and so do the values
  module _ (listed : ℕ → Bool) (unlisted : (x : ℕ) → listed x ≡ false) where
    same_at : (x : ℕ) → held values x ≡ cond (names.is_signal x) (truth (listed x)) (held values x)
    same_at x =
        by_cases (λ z. held values x ≡ z) (names.is_signal x)
        (λ h. zero_of (held values x) (absent x h) ∙ sym (ap truth (unlisted x)))
        (λ h. refl)

    pub values_stay : instant_start names listed values ≡ values
    values_stay =
        let n = instant_length names listed values in
        ext_get_or (pos 0) _ _ n (λ x h. instant_at_lem names listed values x (rw n at h) ∙ sym (same_at x))

-- however many instant changes are made
pub outcome_idle :
    (names : Names ℕ) (inputs : Inputs) (seen : ℕ → Bool) (limit room : ℕ) {p : Proc ℕ} {s : List ℤ} (log : List ℕ)
    (at : Counts) → suspended p s ≡ true → change p s ≡ p → (n : ℕ) →
    ((k : ℕ) → k < n → instant_start names (inputs (suc (at.instants + k))) s ≡ s) → at.steps + n ≤ limit →
    outcome names inputs seen limit room (running_with p s log (after_changes at n))
    ≡ outcome names inputs seen limit room (running_with p s log at)
outcome_idle names inputs seen limit room log at w p zero v t = rw (add-zero at.steps, add-zero at.instants)
outcome_idle names inputs seen limit room log at w p (suc n) v t =
    let here : Running ℕ = running_with _ _ log (after_changes at n) in
    rw (add-suc at.steps n, add-suc at.instants n)
    (rw (p, v n (omega arith)) at (outcome_changes names inputs seen limit room here w (omega (arith, t)))
    ∙ outcome_idle names inputs seen limit room log at w p n (λ k l. v k (omega arith)) (omega (arith, t)))
