-- The smallest number at which a test holds, if there is one.
use mathlib.Core.Path.{◌≡◌, refl, sym}
use mathlib.Core.Bool.{Bool, true, false, cond}
use Prim.Native.Nat.{ℕ, ◌<◌}
use lib.Dec.{ltb}
use borrow.Author.Tests.{lt-ltb, le-ltb, ltb-true, ltb-false}
use native.Mathlib.Omega.{arith}
use Rattle.std.proofs.Common.{Option, Some, None, unwrap_or, rules}
use Rattle.prelude.proofs.Searches.{NoneBelow, first_is, first_none, first_within, first_at_end}
use Rattle.prelude.specs.Search.{first}
use Rattle.prelude.specs.Promises.{found}

module _ (f : ℕ → Bool) (n : ℕ) where
  pub found_at : (i : ℕ) → i < n → f i ≡ true → NoneBelow f i → found f n ≡ Some i
  found_at i h e none = let at : first f n ≡ i = first_is f n i h e none in rw (at, lt-ltb i n h) refl

  pub found_none : NoneBelow f n → found f n ≡ None
  found_none none = let at : first f n ≡ n = first_none f n none in rw (at, le-ltb n n (omega arith)) refl

  pub found_some : {k : ℕ} → found f n ≡ Some k → (k < n) × (first f n ≡ k)
  found_some = go (ltb (first f n) n) refl
    where
      go : (b : Bool) → ltb (first f n) n ≡ b → {k : ℕ} → ◌≡◌ {A = Option ℕ} (cond b (Some (first f n)) None) (Some k) → (k < n) × (first f n ≡ k)
      go true h e = let same : first f n ≡ _ = search rules in (rw (sym same) (ltb-true (first f n) n h), same)
      go false h e = search rules

  pub found_nothing : found f n ≡ None → NoneBelow f n
  found_nothing = go (ltb (first f n) n) refl
    where
      go : (b : Bool) → ltb (first f n) n ≡ b → ◌≡◌ {A = Option ℕ} (cond b (Some (first f n)) None) None → NoneBelow f n
      go true h e = search rules
      go false h e = first_at_end f n (omega (arith, ltb-false (first f n) n h, first_within f n))

  -- the number that was found, or n
  pub found_or_end : unwrap_or (found f n) n ≡ first f n
  found_or_end = go (ltb (first f n) n) refl
    where
      go : (b : Bool) → ltb (first f n) n ≡ b → unwrap_or (cond b (Some (first f n)) None) n ≡ first f n
      go true h = refl
      go false h = omega (arith, ltb-false (first f n) n h, first_within f n)

  module _ {X : Type 0} (given : ℕ → X) (rest : X) where
    -- what is given of the number that was found, or the rest where there is none
    pub given_found : {k : ℕ} → found f n ≡ Some k → cond (ltb (first f n) n) (given (first f n)) rest ≡ given k
    given_found e = let h = found_some e in rw (h.1, lt-ltb _ n h.0) refl

    pub given_nothing : found f n ≡ None → cond (ltb (first f n) n) (given (first f n)) rest ≡ rest
    given_nothing e = rw (first_none f n (found_nothing e), le-ltb n n (omega arith)) refl
