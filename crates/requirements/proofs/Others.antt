-- A set without one level: the set itself, if it has the level no more.
use mathlib.Core.Path.{◌≡◌, sym, ap, ◌∙◌}
use mathlib.Core.Bool.{true, false, not, ◌&&◌}
use Prim.Native.Nat.{ℕ, ◌-◌, ◌^◌, ◌<◌}
use native.Mathlib.Decide.{ℕ_discrete}
use native.Mathlib.Omega.{arith}
use lib.Dec.{eqb}
use borrow.Author.Tests.{eq-eqb, ne_eqb}
use Rattle.prelude.specs.Sets.{has, set_of}
use Rattle.prelude.proofs.Sets.{same_set, set_lt, set_is, out_le, out_same, out_other}
use Rattle.book.specs.LevelBook.{most_levels}

module _ (set i : ℕ) (fits : set < 2 ^ most_levels) where
  abbrev Is : ℕ → Type 0
  Is r = r ≡ set_of (λ j. not (eqb i j) && has set j) most_levels

  is : (r : ℕ) → r < 2 ^ most_levels → ((j : ℕ) → has r j ≡ (not (eqb i j) && has set j)) → Is r
  is r small each = same_set _ _ most_levels small (set_lt _ most_levels) (λ j h. each j ∙ sym (set_is _ most_levels j h))

  pub taken : has set i ≡ true → Is (set - 2 ^ i)
  taken own =
      is (set - 2 ^ i) (omega (arith, fits, out_le set i own)) (λ j.
      elim (ℕ_discrete j i) [
        | yes e ↦ ap (has (set - 2 ^ i)) e ∙ out_same set i own ∙ sym (ap (λ b. not b && has set j) (eq-eqb i j (sym e)))
        | no e ↦ out_other set i own j e ∙ sym (ap (λ b. not b && has set j) (ne_eqb i j (λ q. e (sym q))))
      ])

  pub left : has set i ≡ false → set_of (λ j. not (eqb i j) && has set j) most_levels ≡ set
  left own =
      sym (is set fits (λ j.
      elim (ℕ_discrete j i) [
        | yes e ↦ ap (has set) e ∙ own ∙ sym (ap (λ b. not b && has set j) (eq-eqb i j (sym e)))
        | no e ↦ sym (ap (λ b. not b && has set j) (ne_eqb i j (λ q. e (sym q))))
      ]))
