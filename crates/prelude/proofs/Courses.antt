-- An earlier value stands in the list of the values before.
use mathlib.Core.Path.{◌≡◌, refl, sym, ap, ◌∙◌}
use mathlib.Core.Logic.{⊎_elim}
use mathlib.Core.List.{List, [], ◌∷◌}
use Prim.Native.Nat.{ℕ, zero, suc, ◌≤◌, ◌<◌}
use native.Mathlib.Nat.{le_of_suc-le-suc, not-suc-le-zero, eq-or-lt_of_le}
use native.Mathlib.Omega.{arith}
use lib.ListN.{get_or, length, length-append, get_or-append, get_or-eq_default}
use lib.Seq.{get_or_at}
use Rattle.prelude.specs.Course.{course, entry}

module _ {ℓ} {A : Type ℓ} (f : ℕ → List A → A) (d : A) where
  length_course : (n : ℕ) → length (course f n) ≡ n
  unfolding course
  length_course zero = refl
  length_course (suc n) = length-append (course f n) (f n (course f n) ∷ []) ∙ omega (arith, length_course n)

  pub earlier : (n k : ℕ) → k < n → get_or (course f n) k d ≡ entry f k
  unfolding course entry
  earlier zero k h = absurd (not-suc-le-zero h)
  earlier (suc n) k h =
      ⊎_elim
      (λ e. get_or_at (course f n) (f n (course f n)) [] d k (length_course n ∙ sym e) ∙ ap (λ m. f m (course f m)) (sym e))
      (λ l. get_or-append (course f n) (f n (course f n) ∷ []) d k (omega (arith, length_course n)) ∙ earlier n k l)
      (eq-or-lt_of_le (le_of_suc-le-suc h))

  pub not_earlier : (n k : ℕ) → n ≤ k → get_or (course f n) k d ≡ d
  not_earlier n k h = get_or-eq_default (course f n) d (omega (arith, length_course n))
