-- Rows 6 to 8 refuse nothing exactly where names and parts are right.
use mathlib.Core.Path.{◌≡◌, refl, ap, ◌∙◌}
use mathlib.Core.Bool.{true, not}
use mathlib.Core.List.{List}
use Prim.Native.Nat.{ℕ, ◌<◌}
use native.Mathlib.Omega.{arith}
use borrow.Author.Tests.{not-false}
use Rattle.std.proofs.lemmas.Bool.Decides.{nat_tests}
use Rattle.prelude.specs.Refusals.{refused_by, not_refused, passes}
use Rattle.layout.specs.Layout.{name_count, expression_count, node_count, part_count}
use Rattle.layout.specs.Entries.{node}
use Rattle.layout.proofs.Placing.{passes_first, past_first, both}
use Rattle.entries.specs.Faults.{name_is_right, part_is_right, fault_refusal}
use Rattle.entries.specs.Promises.{Sound}

module _ (s : List ℕ) (levels : ℕ) where
  -- what the rows leave
  pub record Faultless : Type 0 where
    pub names : (x : ℕ) → x < name_count s → name_is_right s levels x ≡ true
    pub parts : (q : ℕ) → q < part_count s → part_is_right s q ≡ true

  pub faultless : passes (fault_refusal s levels) ≡ true → Faultless
  unfolding fault_refusal
  faultless h =
      let x = passes_first _ (name_count s) (refused_by 6) _ (λ _. refl) h in
      let e = passes_first _ (expression_count s) (refused_by 7) _ (λ _. refl) x.1 in
      let n = passes_first _ (node_count s) (refused_by 8) not_refused (λ _. refl) e.1 in
      record {
        names = λ y l. not-false _ (x.0 y l);
        parts = λ q l. not-false _ (both s (λ p. not (part_is_right s p)) (node_count s) e.0 n.0 q l);
      }

  pub sound : Faultless → Sound s
  sound f = record { owners = λ x h. let right = f.names x h in grind (arith, nat_tests); parts = f.parts }

  pub no_fault : Faultless → fault_refusal s levels ≡ not_refused
  unfolding fault_refusal
  no_fault f =
      past_first _ (name_count s) (refused_by 6) _ (λ x h. ap not (f.names x h))
      ∙ past_first _ (expression_count s) (refused_by 7) _ (λ q h. ap not (f.parts q (omega arith)))
      ∙ past_first _ (node_count s) (refused_by 8) _ (λ k h. ap not (f.parts (node s k) (omega arith)))
