-- A table of a function's values: what stands in it, and a list that becomes one by stores from the front.
use mathlib.Core.Path.{◌≡◌, refl, sym, ap, ap₂, ◌∙◌}
use mathlib.Core.Logic.{⊎_elim}
use mathlib.Core.List.{List, [], ◌∷◌, ◌++◌}
use Prim.Native.Nat.{ℕ, zero, suc, ◌+◌, ◌≤◌, ◌<◌}
use native.Mathlib.Nat.{le_antisymm, le_of_suc-le-suc, not-suc-le-zero, eq-or-lt_of_le}
use native.Mathlib.Numerals.{add-one}
use native.Mathlib.Omega.{arith}
use lib.ListN.{get_or, length, take, set, length-append, get_or-append}
use lib.Seq.{take-suc-set, take_all, get_or_at, ext_get_or}
use Rattle.prelude.specs.Table.{table}

module _ {ℓ} {A : Type ℓ} (f : ℕ → A) where
  pub length_table : (n : ℕ) → length (table f n) ≡ n
  unfolding table
  length_table zero = refl
  length_table (suc n) = length-append (table f n) (f n ∷ []) ∙ omega (arith, length_table n)

  pub table_at : (n k : ℕ) (d : A) → k < n → get_or (table f n) k d ≡ f k
  unfolding table
  table_at zero k d h = absurd (not-suc-le-zero h)
  table_at (suc n) k d h =
      ⊎_elim
      (λ e. get_or_at (table f n) (f n) [] d k (length_table n ∙ sym e) ∙ ap f (sym e))
      (λ l. get_or-append (table f n) (f n ∷ []) d k (omega (arith, length_table n)) ∙ table_at n k d l)
      (eq-or-lt_of_le (le_of_suc-le-suc h))

  -- a loop that fills a list: nothing, one entry more, all
  pub fill_none : [] ≡ table f 0
  unfolding table
  fill_none = refl

  pub fill_more :
      (l : List A) (i : ℕ) (v : A) → i < length l → take i l ≡ table f i → v ≡ f i → take (i + 1) (set l i v) ≡ table f (i + 1)
  unfolding table
  fill_more l i v h e q = rw (add-one, take-suc-set l i v h, e, q)

  pub fill_all : (l : List A) (n i : ℕ) → length l ≡ n → i ≤ n → n ≤ i → take i l ≡ table f i → l ≡ table f n
  fill_all l n i h a b e = sym (take_all i l (omega (arith, h))) ∙ e ∙ ap (table f) (le_antisymm a b)

-- two functions that agree below n have the same values
pub table_same {ℓ} : {A : Type ℓ} (f g : ℕ → A) (n : ℕ) → ((k : ℕ) → k < n → f k ≡ g k) → table f n ≡ table g n
unfolding table
table_same f g zero same = refl
table_same f g (suc n) same =
    ap₂ (λ l v. l ++ (v ∷ [])) (table_same f g n (λ k l. same k (omega arith))) (same n (omega arith))

-- a list is the table of its elements
pub table_of {ℓ} : {A : Type ℓ} (d : A) (l : List A) (n : ℕ) → length l ≡ n → table (λ i. get_or l i d) n ≡ l
table_of d l n e =
    ext_get_or d (table (λ i. get_or l i d) n) l (length_table (λ i. get_or l i d) n ∙ sym e)
    (λ i h. table_at (λ i. get_or l i d) n i d (omega (arith, h, length_table (λ i. get_or l i d) n)))

-- a list of n elements, each the function's value, is the function's table
pub is_table {ℓ} : {A : Type ℓ} (d : A) (l : List A) (f : ℕ → A) (n : ℕ) → length l ≡ n → ((i : ℕ) → i < n → get_or l i d ≡ f i) → l ≡ table f n
is_table d l f n e same = sym (table_of d l n e) ∙ table_same (λ i. get_or l i d) f n same
