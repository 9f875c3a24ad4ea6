-- An instant begins with the signals that the list names for it: those of the pairs between two cursors.
use mathlib.Core.Path.{◌≡◌, refl, sym, ap, ◌∙◌}
use mathlib.Core.Bool.{Bool, true, false, cond, true≢false}
use mathlib.Core.List.{List}
use Prim.Native.Nat.{ℕ, suc, ◌≤◌, ◌<◌}
use native.Mathlib.Nat.{le_refl}
use native.Mathlib.Decide.{dec_lt}
use native.Mathlib.Omega.{arith}
use lib.IntN.{ℤ, pos}
use lib.ListN.{length}
use lib.Seq.{ext_get_or}
use Rattle.values.specs.Values.{truth}
use Rattle.language.specs.Syntax.{Names}
use Rattle.language.specs.Steps.{held, no_signal, instant_start}
use Rattle.language.proofs.Stores.{instant_at_lem, instant_length}
use Rattle.inputs.specs.Lists.{pair_count, instant_at, signal_at, listed}
use Rattle.inputs.specs.Promises.{Cursor}
use Rattle.inputs.proofs.Lists.{listed_by, listed_where}
use Rattle.instants.specs.Promises.{MadePresent}

-- the later cursor stands behind
pub in_order : {list : List ℕ} {i c d : ℕ} → Cursor list i c → Cursor list (suc i) d → c ≤ d
in_order {list} {i} {c} {d} u v =
    elim (dec_lt d c) [
      | yes l ↦ absurd (omega (arith, u.passed d l, v.ahead d (le_refl d) (omega (arith, u.within))))
      | no l ↦ omega arith
    ]

module _ (names : Names ℕ) (list : List ℕ) (i c d : ℕ) (before : Cursor list i c) (after : Cursor list (suc i) d)
    (signals : (k : ℕ) → k < pair_count list → names.is_signal (signal_at list k) ≡ true)
  where
    -- the pairs of instant suc i
    first_of : (k : ℕ) → instant_at list k ≡ suc i → c ≤ k
    first_of k e =
        elim (dec_lt k c) [ yes l ↦ absurd (omega (arith, before.passed k l)) | no l ↦ omega arith ]

    last_of : (k : ℕ) → k < pair_count list → instant_at list k ≡ suc i → k < d
    last_of k l e =
        elim (dec_lt k d) [ yes h ↦ h | no h ↦ absurd (omega (arith, after.ahead k (omega arith) l)) ]

    instant_of : (k : ℕ) → c ≤ k → k < d → instant_at list k ≡ suc i
    instant_of k l h = omega (arith, before.ahead k l (omega (arith, after.within)), after.passed k h)

    module _ (s : List ℤ) {cleared entered : List ℤ} (e : cleared ≡ instant_start names no_signal s)
        (m : MadePresent list c d cleared entered) where
      long : length entered ≡ length s
      long = m.same ∙ ap length e ∙ instant_length names no_signal s

      named_at :
          (x : ℕ) → x < length s → (b : Bool) → listed list (suc i) x ≡ b →
          held entered x ≡ cond (names.is_signal x) (truth b) (held s x)
      named_at x l true h =
          let u = listed_where list (suc i) x h in
          let shown = m.named u.0 (first_of u.0 u.2) (last_of u.0 u.1 u.2) in
          let signal : names.is_signal x ≡ true = rw u.3 at (signals u.0 u.1) in
          rw signal (rw u.3 at shown)
      named_at x l false h =
          m.others x
          (λ k g n q.
          true≢false
          (sym (listed_by list (suc i) x k (omega (arith, after.within)) (instant_of k g n) q) ∙ h))
          ∙ ap (λ v. held v x) e
          ∙ instant_at_lem names no_signal s x l

      pub entered_is : entered ≡ instant_start names (listed list (suc i)) s
      entered_is =
          let n = instant_length names (listed list (suc i)) s in
          ext_get_or (pos 0) _ _ (long ∙ sym n)
          (λ x h.
          let l : x < length s = omega (arith, long, h) in
          named_at x l (listed list (suc i) x) refl ∙ sym (instant_at_lem names (listed list (suc i)) s x l))
