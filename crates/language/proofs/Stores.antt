-- What the names hold after a store, at the start of an instant, and when a run gives its values back.
use Prim.Native.Nat.{ℕ, ◌≤◌, ◌<◌}
use native.Mathlib.Decide.{dec_lt, ℕ_discrete}
use native.Mathlib.Omega.{arith}
use mathlib.Core.Path.{◌≡◌, refl, sym, ap, ap₂, ◌∙◌}
use mathlib.Core.Bool.{Bool, true, false, cond, true≢false}
use mathlib.Core.List.{List}
use lib.IntN.{ℤ, pos}
use lib.ListN.{set, length, length-set, get_or-eq_default}
use lib.Seq.{get_or-set_same, get_or-set_other, set_out}
use Rattle.prelude.specs.Table.{table}
use Rattle.prelude.proofs.Bools.{by_cases}
use Rattle.prelude.proofs.Tables.{length_table, table_at}
use Rattle.values.specs.Values.{truth}
use Rattle.language.specs.Syntax.{Names}
use Rattle.language.specs.Steps.{held, instant_start}
use Rattle.language.specs.Calls.{given_back}

-- a store at a name of which P fails is not seen where P holds
pub set_unseen :
    (P : ℕ → Bool) (s : List ℤ) (x y : ℕ) (v : ℤ) → P x ≡ false → P y ≡ true → held (set s x v) y ≡ held s y
set_unseen P s x y v h k = get_or-set_other s x y v (pos 0) (λ e. true≢false (sym k ∙ ap P e ∙ h))

-- two lists of one length that agree on the low names
pub record LowEqual (low : ℕ → Bool) (s t : List ℤ) : Type 0 where
  pub lengths : length s ≡ length t
  pub agree : (x : ℕ) → low x ≡ true → held s x ≡ held t x

module _ (low : ℕ → Bool) (s t : List ℤ) (q : LowEqual low s t) where
  -- after stores at one name, of equal values if it is low
  pub set_low : (x : ℕ) (v w : ℤ) → (low x ≡ true → v ≡ w) → LowEqual low (set s x v) (set t x w)
  set_low x v w h =
      record {
        lengths = length-set s x v ∙ q.lengths ∙ sym (length-set t x w);
        agree =
            λ y l.
            elim (ℕ_discrete y x) [
              | yes e ↦ ap (held (set s x v)) e
                  ∙ stored (h (ap low (sym e) ∙ l)) (ap low (sym e) ∙ l)
                  ∙ ap (held (set t x w)) (sym e)
              | no n ↦ get_or-set_other s x y v (pos 0) n ∙ q.agree y l ∙ sym (get_or-set_other t x y w (pos 0) n)
            ];
      }
    where
      stored : v ≡ w → low x ≡ true → held (set s x v) x ≡ held (set t x w) x
      stored e l =
          elim (dec_lt x (length s)) [
            | yes i ↦
                get_or-set_same s x v (pos 0) i ∙ e ∙ sym (get_or-set_same t x w (pos 0) (omega (arith, q.lengths)))
            | no o ↦
                ap (λ z. held z x) (set_out s x v (omega arith))
                ∙ q.agree x l
                ∙ sym (ap (λ z. held z x) (set_out t x w (omega (arith, q.lengths))))
          ]

-- a table that is 0 beyond the list
mapped : (f : ℕ → ℤ) (s : List ℤ) (x : ℕ) → (length s ≤ x → f x ≡ pos 0) → held (table f (length s)) x ≡ f x
mapped f s x h =
    elim (dec_lt x (length s)) [
      | yes i ↦ table_at f (length s) x (pos 0) i
      | no o ↦
          get_or-eq_default (table f (length s)) (pos 0) (omega (arith, length_table f (length s)))
          ∙ sym (h (omega arith))
    ]

module _ {L : Type 0} (names : Names L) (listed : ℕ → Bool) (s : List ℤ) where
  pub instant_at_lem :
      (x : ℕ) → x < length s →
      held (instant_start names listed s) x ≡ cond (names.is_signal x) (truth (listed x)) (held s x)
  unfolding instant_start
  instant_at_lem x l = table_at _ (length s) x (pos 0) l

  pub instant_length : length (instant_start names listed s) ≡ length s
  unfolding instant_start
  instant_length = length_table _ (length s)

  instant_past : (x : ℕ) → length s ≤ x → held (instant_start names listed s) x ≡ held s x
  instant_past x o =
      get_or-eq_default (instant_start names listed s) (pos 0) (omega (arith, instant_length))
      ∙ sym (get_or-eq_default s (pos 0) o)

  -- an instant keeps the registers
  pub instant_register : (x : ℕ) → names.is_signal x ≡ false → held (instant_start names listed s) x ≡ held s x
  instant_register x h =
      elim (dec_lt x (length s)) [ yes l ↦ instant_at_lem x l ∙ rw h | no o ↦ instant_past x (omega arith) ]

module _ {L : Type 0} (names : Names L) (s : List ℤ) where
  -- a run gives back what its session names hold, and 0 of its owned names
  given_back_at : (x : ℕ) → held (given_back names s) x ≡ cond (names.is_session x) (held s x) (pos 0)
  unfolding given_back
  given_back_at x =
      mapped _ s x
      (λ o. by_cases (λ z. z ≡ pos 0) (names.is_session x) (λ k. get_or-eq_default s (pos 0) o) (λ k. refl))

  pub given_back_session : (x : ℕ) → names.is_session x ≡ true → held (given_back names s) x ≡ held s x
  given_back_session x h = given_back_at x ∙ rw h

  pub given_back_owned : (x : ℕ) → names.is_session x ≡ false → held (given_back names s) x ≡ pos 0
  given_back_owned x h = given_back_at x ∙ rw h

-- where the same low signals are listed
pub instant_low :
    {L : Type 0} (names : Names L) (low I J : ℕ → Bool) (s t : List ℤ) → ((a : ℕ) → low a ≡ true → I a ≡ J a) →
    LowEqual low s t → LowEqual low (instant_start names I s) (instant_start names J t)
instant_low names low I J s t same q =
    record {
      lengths = instant_length names I s ∙ q.lengths ∙ sym (instant_length names J t);
      agree =
          λ x l.
          elim (dec_lt x (length s)) [
            | yes i ↦
                instant_at_lem names I s x i
                ∙ ap₂ (λ b v. cond (names.is_signal x) (truth b) v) (same x l) (q.agree x l)
                ∙ sym (instant_at_lem names J t x (omega (arith, q.lengths)))
            | no o ↦
                instant_past names I s x (omega arith)
                ∙ q.agree x l
                ∙ sym (instant_past names J t x (omega (arith, q.lengths)))
          ];
    }
