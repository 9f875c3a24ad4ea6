-- The first m pairs, and the tables in which they have their levels.
use mathlib.Core.Path.{◌≡◌, refl, sym, ◌∙◌}
use mathlib.Core.Bool.{Bool, true, false, cond, ◌||◌, or-true, true≢false}
use mathlib.Core.List.{List}
use Prim.Native.Nat.{ℕ, ◌+◌, ◌<◌}
use native.Mathlib.Decide.{ℕ_discrete}
use native.Mathlib.Omega.{arith}
use lib.Dec.{eqb, ltb}
use borrow.Author.Tests.{lt-ltb, ltb-true, eq-eqb, eqb-true}
use Rattle.prelude.proofs.Bools.{fails, and_intro, and_left, and_right, same_truth}
use Rattle.pairs.specs.Table.{kept, is_pair, Stores}
use Rattle.pairs.specs.Promises.{is_taken, entry}
use Rattle.pairs.specs.Sweeping.{pair_number}
use Rattle.pairs.proofs.Numbers.{one_number}

module _ (n m a b : ℕ) (t : is_taken n m a b ≡ true) where
  pub taken_order : a < b
  taken_order = ltb-true a b (and_left (ltb a b) _ t)

  pub taken_within : b < n
  taken_within = ltb-true b n (and_left (ltb b n) _ (and_right (ltb a b) _ t))

  pub taken_number : pair_number n a b < m
  taken_number = ltb-true (pair_number n a b) m (and_right (ltb b n) _ (and_right (ltb a b) _ t))

pub is_taken_lem : (n m a b : ℕ) → a < b → b < n → pair_number n a b < m → is_taken n m a b ≡ true
is_taken_lem n m a b h l k = and_intro _ _ (lt-ltb a b h) (and_intro _ _ (lt-ltb b n l) (lt-ltb (pair_number n a b) m k))

pub none_taken : (n a b : ℕ) → is_taken n 0 a b ≡ false
none_taken n a b = fails _ (λ t. omega (arith, taken_number n 0 a b t))

pub filled_none : (n : ℕ) (level : ℕ → ℕ → ℕ) (t : List (List ℕ)) (a b : ℕ) → kept t a b ≡ entry n 0 level t a b
filled_none n level t a b = sym (rw (none_taken n a b, none_taken n b a))

-- pair number m
module _ (n m i j : ℕ) (h : i < j) (l : j < n) (e : m ≡ pair_number n i j) where
  this_taken : is_taken n (m + 1) i j ≡ true
  this_taken = is_taken_lem n (m + 1) i j h l (omega arith)

  other_number : (a b : ℕ) → a < b → b < n → (a ≡ i → b ≡ j → ⊥) → pair_number n a b ≡ m → ⊥
  other_number a b u v other x = let w = one_number n a b i j u v h l (x ∙ e) in other w.0 w.1

  others_taken : (a b : ℕ) → (a ≡ i → b ≡ j → ⊥) → is_taken n (m + 1) a b ≡ is_taken n m a b
  others_taken a b other =
      same_truth _ _
      (λ t.
      let u = taken_order n (m + 1) a b t in
      let v = taken_within n (m + 1) a b t in
      let k = taken_number n (m + 1) a b t in
      elim (ℕ_discrete (pair_number n a b) m) [
        | yes x ↦ absurd (other_number a b u v other x)
        | no x ↦ is_taken_lem n m a b u v (omega arith)
      ])
      (λ t. is_taken_lem n (m + 1) a b (taken_order n m a b t) (taken_within n m a b t) (omega (arith, taken_number n m a b t)))

  -- the tables with the level of this pair stored
  module _
      (level : ℕ → ℕ → ℕ)
      (both : level j i ≡ level i j)
      (handed t t' : List (List ℕ))
      (v : ℕ)
      (found : v ≡ level i j)
      (stores : Stores t i j v t')
      (w : (a b : ℕ) → kept t a b ≡ entry n m level handed a b)
    where
      at_this : (a b : ℕ) → a ≡ i → b ≡ j → v ≡ entry n (m + 1) level handed a b
      at_this a b p q = found ∙ sym (rw (p, q, this_taken))

      at_back : (a b : ℕ) → a ≡ j → b ≡ i → v ≡ entry n (m + 1) level handed a b
      at_back a b p q = found ∙ sym both ∙ sym (rw (p, q, this_taken, or-true (is_taken n (m + 1) j i)))

      pub filled_next : (a b : ℕ) → kept t' a b ≡ entry n (m + 1) level handed a b
      filled_next a b = stores a b ∙ go (is_pair i j a b) refl (is_pair j i a b) refl
        where
          go :
              (p : Bool) → is_pair i j a b ≡ p → (q : Bool) → is_pair j i a b ≡ q →
              cond (p || q) v (kept t a b) ≡ entry n (m + 1) level handed a b
          go true e q f = at_this a b (eqb-true a i (and_left (eqb a i) _ e)) (eqb-true b j (and_right (eqb a i) _ e))
          go false e true f = at_back a b (eqb-true a j (and_left (eqb a j) _ f)) (eqb-true b i (and_right (eqb a j) _ f))
          go false e false f =
              let x : a ≡ i → b ≡ j → ⊥ = λ p q. true≢false (sym (and_intro _ _ (eq-eqb a i p) (eq-eqb b j q)) ∙ e) in
              let y : b ≡ i → a ≡ j → ⊥ = λ p q. true≢false (sym (and_intro _ _ (eq-eqb a j q) (eq-eqb b i p)) ∙ f) in
              w a b ∙ sym (rw (others_taken a b x, others_taken b a y))
