-- Searches that refuse a file: what they tell where they find a fault, and where they find none.
use mathlib.Core.Path.{◌≡◌, refl, sym, ap, ◌∙◌}
use mathlib.Core.Bool.{Bool, true, false}
use mathlib.Core.List.{List}
use Prim.Native.Nat.{ℕ, ◌-◌}
use native.Mathlib.Omega.{arith}
use lib.Dec.{eqb}
use Rattle.prelude.specs.declared.Refusal.{Refusal}
use Rattle.prelude.specs.Refusals.{refused_by, not_refused, passes}
use Rattle.std.proofs.Common.{Option, Some, None}
use Rattle.prelude.specs.Promises.{found}
use Rattle.prelude.proofs.Found.{found_none, found_nothing, given_found, given_nothing}
use Rattle.prelude.proofs.Searches.{NoneBelow}
use Rattle.layout.specs.Layout.{expression_count}
use Rattle.layout.specs.Entries.{node}
use Rattle.layout.specs.Places.{at_first, place_of_part, at_first_part}

module _ (fault : ℕ → Bool) (n : ℕ) (given : ℕ → Refusal) (rest : Refusal) where
  pub past_first : NoneBelow fault n → at_first fault n given rest ≡ rest
  past_first none = given_nothing fault n given rest (found_none fault n none)

  pub passes_first :
      ((k : ℕ) → passes (given k) ≡ false) → passes (at_first fault n given rest) ≡ true →
      NoneBelow fault n × (passes rest ≡ true)
  passes_first refuses h = go (found fault n) refl
    where
      go : (o : Option ℕ) → found fault n ≡ o → NoneBelow fault n × (passes rest ≡ true)
      go (Some k) e = let r = refuses k in let g = ap passes (given_found fault n given rest e) in cc
      go None e = (found_nothing fault n e, sym (ap passes (given_nothing fault n given rest e)) ∙ h)

-- the same of the parts
module _ (s : List ℕ) (number : ℕ) (fault : ℕ → Bool) (n : ℕ) where
  pub passes_parts : eqb number 0 ≡ false → passes (at_first_part s number fault n) ≡ true → NoneBelow fault n
  passes_parts refuses h =
      (passes_first fault n (λ q. refused_by number (place_of_part (expression_count s) q)) not_refused (λ _. refuses) h).0

  pub past_parts : NoneBelow fault n → at_first_part s number fault n ≡ not_refused
  past_parts none = past_first fault n (λ q. refused_by number (place_of_part (expression_count s) q)) not_refused none

  -- what a search of them gives
  pub found_part :
      {q : ℕ} → found fault n ≡ Some q →
      at_first_part s number fault n ≡ refused_by number (place_of_part (expression_count s) q)
  found_part = given_found fault n (λ q. refused_by number (place_of_part (expression_count s) q)) not_refused

  pub found_no_part : found fault n ≡ None → at_first_part s number fault n ≡ not_refused
  found_no_part = given_nothing fault n (λ q. refused_by number (place_of_part (expression_count s) q)) not_refused

-- the expressions, then the nodes
pub both :
    (s : List ℕ) (fault : ℕ → Bool) (n : ℕ) →
    NoneBelow fault (expression_count s) → NoneBelow (λ k. fault (node s k)) n → NoneBelow fault (node s n)
both s fault n a b q h = grind (arith, a q, b (q - expression_count s))
