-- Lists whose instants never fall, and cursors over them.
use mathlib.Core.Path.{◌≡◌}
use mathlib.Core.Bool.{true, false}
use mathlib.Core.List.{List}
use Prim.Native.Nat.{ℕ, zero, suc, ◌+◌, ◌-◌, ◌≤◌, ◌<◌}
use native.Mathlib.Nat.{add-zero, le_refl}
use native.Mathlib.Omega.{arith}
use lib.Dec.{eqb}
use native.Mathlib.Decide.{dec_lt}
use borrow.Author.Tests.{eq-eqb, eqb-true}
use Rattle.prelude.proofs.Bools.{fails, and_intro, and_left, and_right}
use Rattle.prelude.proofs.Searches.{any_some, some_of_any}
use Rattle.inputs.specs.Lists.{pair_count, instant_at, signal_at, listed}
use Rattle.inputs.specs.Promises.{Rising, Cursor}

-- a later pair is of no earlier instant
rising_on : (list : List ℕ) → Rising list → (j n : ℕ) → j + n < pair_count list → instant_at list j ≤ instant_at list (j + n)
rising_on list h j zero l = rw (add-zero j) (le_refl (instant_at list j))
rising_on list h j (suc n) l =
    let e : j + suc n ≡ suc (j + n) = omega arith in
    rw e (omega (arith, rising_on list h j n (omega arith), h (j + n) (omega arith)))

pub rising_from :
    (list : List ℕ) → Rising list → (j k : ℕ) → j ≤ k → k < pair_count list → instant_at list j ≤ instant_at list k
rising_from list h j k l p =
    let e : j + (k - j) ≡ k = omega arith in
    let u = rising_on list h j (k - j) (rw e p) in
    rw e at u

-- a cursor stands there in a later instant too, if the pairs ahead are of still later ones
pub cursor_later :
    {list : List ℕ} {i m c : ℕ} → Cursor list i c → i ≤ m →
    ((k : ℕ) → c ≤ k → k < pair_count list → m < instant_at list k) → Cursor list m c
cursor_later u l ahead =
    record { within = u.within; passed = λ k h. omega (arith, u.passed k h, l); ahead = ahead }

module _ (list : List ℕ) (i k : ℕ) where
  -- a cursor stops at the first pair of a later instant
  pub stops_at :
      Rising list → ((j : ℕ) → j < k → instant_at list j ≤ i) → i < instant_at list k → k < pair_count list →
      Cursor list i k
  stops_at h p a l =
      record {
        within = omega arith;
        passed = p;
        ahead = λ j c d. omega (arith, rising_from list h k j c d, a);
      }

  -- or at the end
  pub stops_past : pair_count list ≤ k → k ≤ pair_count list → ((j : ℕ) → j < k → instant_at list j ≤ i) → Cursor list i k
  stops_past g l p = record { within = l; passed = p; ahead = λ j c d. absurd (omega arith) }

-- what the list names for an instant stands between two cursors
module _ (list : List ℕ) (i x : ℕ) where
  pub listed_by :
      (k : ℕ) → k < pair_count list → instant_at list k ≡ i → signal_at list k ≡ x → listed list i x ≡ true
  unfolding listed
  listed_by k l e a = any_some _ (pair_count list) k l (and_intro _ _ (eq-eqb _ i e) (eq-eqb _ x a))

  pub listed_where :
      listed list i x ≡ true → (k : ℕ) × (k < pair_count list) × (instant_at list k ≡ i) × (signal_at list k ≡ x)
  unfolding listed
  listed_where h =
      let u = some_of_any _ (pair_count list) h in
      let e = and_left (eqb (instant_at list u.0) i) _ u.2 in
      let a = and_right (eqb (instant_at list u.0) i) _ u.2 in
      (u.0, u.1, eqb-true _ i e, eqb-true _ x a)

-- nothing is listed for the instants that a cursor stands before and after
pub listed_none :
    (list : List ℕ) (i n m c : ℕ) → Cursor list i c → Cursor list m c → i < n → n ≤ m → (x : ℕ) → listed list n x ≡ false
listed_none list i n m c before after l g x =
    fails (listed list n x)
    (λ h.
    let u = listed_where list n x h in
    elim (dec_lt u.0 c) [
      | yes p ↦ omega (arith, before.passed u.0 p, u.2)
      | no p ↦ omega (arith, after.ahead u.0 (omega arith) u.1, u.2)
    ])
