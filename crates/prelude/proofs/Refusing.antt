-- Tests that refuse, and rows one after the other: what it tells that nothing is refused.
use mathlib.Core.Path.{◌≡◌, refl, sym, ap, ◌∙◌}
use mathlib.Core.Bool.{Bool, true, false, cond, not, true≢false, false≢true}
use Rattle.prelude.specs.declared.Refusal.{Refusal}
use Rattle.prelude.specs.Refusals.{passes, or_else}
use Rattle.prelude.proofs.Bools.{by_cases}

-- a test that refuses, and one that does not
pub passes_test :
    (b : Bool) (r rest : Refusal) → passes r ≡ false → passes (cond (not b) r rest) ≡ true →
    (b ≡ true) × (passes rest ≡ true)
passes_test true r rest refuses h = (refl, h)
passes_test false r rest refuses h = absurd (false≢true (sym refuses ∙ h))

pub past_test : (b : Bool) (r rest : Refusal) → b ≡ true → cond (not b) r rest ≡ rest
past_test true r rest h = refl
past_test false r rest h = absurd (false≢true h)

module _ (r next : Refusal) where
  pub passes_both : passes (or_else r next) ≡ true → (passes r ≡ true) × (passes next ≡ true)
  passes_both =
      by_cases
      (λ z. passes z ≡ true → (passes r ≡ true) × (passes next ≡ true))
      (passes r)
      (λ t h. (t, h))
      (λ f h. absurd (true≢false (sym h ∙ f)))

  pub both_pass : passes r ≡ true → passes next ≡ true → passes (or_else r next) ≡ true
  both_pass h k = rw h k

  pub or_else_next : passes r ≡ true → or_else r next ≡ next
  or_else_next h = ap (λ b. cond b next r) h

  pub or_else_first : passes r ≡ false → or_else r next ≡ r
  or_else_first h = ap (λ b. cond b next r) h

  -- the refusal of the first row, and of the next
  pub refused_first : {e : Refusal} → (passes r ≡ false) × (r ≡ e) → (passes (or_else r next) ≡ false) × (e ≡ or_else r next)
  refused_first h = rw (or_else_first h.0) (h.0, sym h.1)

  pub refused_next :
      {e : Refusal} → passes r ≡ true → (passes next ≡ false) × (e ≡ next) →
      (passes (or_else r next) ≡ false) × (e ≡ or_else r next)
  refused_next p h = rw (or_else_next p) h
