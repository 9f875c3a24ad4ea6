-- The smallest number with a property: of no number, of one, of two properties together.
use mathlib.Core.Logic.{◌⊎◌, inl, inr, ⊎_elim}
use Prim.Native.Nat.{ℕ, ◌≤◌}
use native.Mathlib.Omega.{arith}
use lib.Dec.{leb}
use borrow.Author.Tests.{leb-true, leb-false}
use Rattle.prelude.specs.Search.{lesser}
use Rattle.prelude.proofs.Bools.{by_cases}
use Rattle.flow.specs.Flow.{Smallest}

module _ (P : ℕ → Type 0) (n : ℕ) where
  pub smallest_none : ((j : ℕ) → P j → n ≤ j) → Smallest P n n
  smallest_none none = record { within = omega arith; holds = λ h. absurd (omega arith); least = none }

  module _ (Q : ℕ → Type 0) where
    pub smallest_same :
        (r : ℕ) → ((j : ℕ) → P j → Q j) → ((j : ℕ) → Q j → P j) → Smallest P n r → Smallest Q n r
    smallest_same r to from w =
        record { within = w.within; holds = λ h. to r (w.holds h); least = λ j q. w.least j (from j q) }

    pub smallest_either :
        (a b : ℕ) → Smallest P n a → Smallest Q n b → Smallest (λ j. P j ⊎ Q j) n (lesser a b)
    smallest_either a b v w =
        by_cases (Smallest (λ j. P j ⊎ Q j) n) (leb a b)
        (λ e.
        record {
          within = v.within;
          holds = λ h. inl (v.holds h);
          least = λ j. ⊎_elim (v.least j) (λ q. omega (arith, w.least j q, leb-true a b e));
        })
        (λ e.
        record {
          within = w.within;
          holds = λ h. inr (w.holds h);
          least = λ j. ⊎_elim (λ p. omega (arith, v.least j p, leb-false a b e)) (w.least j);
        })
