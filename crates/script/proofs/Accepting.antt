-- A file is not refused exactly when it is checked.
use mathlib.Core.Path.{◌≡◌, refl, ap, ◌∙◌}
use mathlib.Core.Bool.{true}
use mathlib.Core.List.{List}
use Prim.Native.Nat.{ℕ}
use native.Mathlib.Omega.{arith}
use Rattle.std.proofs.lemmas.Bool.Decides.{nat_tests}
use Rattle.prelude.specs.Refusals.{refused_by, not_refused, passes, or_else}
use Rattle.prelude.proofs.Refusing.{passes_test, passes_both, or_else_next}
use Rattle.layout.specs.Layout.{tail_is_right, counts_are_right, layout_of, layout_refusal}
use Rattle.layout.proofs.Layouts.{few_bounds, laid}
use Rattle.entries.specs.Faults.{fault_refusal}
use Rattle.entries.proofs.Sounding.{Faultless, faultless, sound, no_fault}
use Rattle.uses.specs.Uses.{use_refusal}
use Rattle.uses.proofs.Counting.{each_once, none_loose}
use Rattle.scope.specs.Reach.{reach_refusal}
use Rattle.script.specs.Checked.{Checked, Levelled}
use Rattle.scope.proofs.Refusing.{all_in_reach, none_outside}
use Rattle.script.specs.Refusals.{entry_refusal, refusal, is_accepted}

module _ (s : List ℕ) (levels : ℕ) where
  pub checked : is_accepted s levels ≡ true → Checked s × Levelled s levels
  unfolding refusal entry_refusal
  checked h =
      let l = passes_both (layout_refusal s) (or_else (fault_refusal s levels) (or_else (use_refusal s) (reach_refusal s))) h in
      let t = passes_test (tail_is_right s) (refused_by 4 0) _ refl l.0 in
      let c = passes_test (counts_are_right (layout_of s)) (refused_by 5 0) _ refl t.1 in
      let f = passes_both (fault_refusal s levels) (or_else (use_refusal s) (reach_refusal s)) l.1 in
      let u = passes_both (use_refusal s) (reach_refusal s) f.1 in
      let right = faultless s levels f.0 in
      let some = (few_bounds (layout_of s) c.0).1.1.0 in (
        record {
          tail = t.0;
          laid = laid s t.0 c.0;
          kinds = λ y l. let name = right.names y l in grind (arith, nat_tests);
          joined = record { sound = sound s levels right; once = each_once s some u.0 };
          reach = all_in_reach s u.1;
        },
        λ y l. let name = right.names y l in grind (arith, nat_tests),
      )

  right_all : Checked s → Levelled s levels → Faultless s levels
  right_all ok levelled =
      record {
        names =
            λ x h.
            let kind = ok.kinds x h in
            let level = levelled x h in
            let owner = ok.joined.sound.owners x h in
            grind (arith, nat_tests);
        parts = ok.joined.sound.parts;
      }

  passes_all : Checked s → Levelled s levels → refusal s levels ≡ not_refused
  unfolding refusal entry_refusal
  passes_all ok levelled =
      let some = (few_bounds (layout_of s) ok.laid.few).1.1.0 in
      or_else_next (layout_refusal s) _ (rw (ok.tail, ok.laid.few))
      ∙ or_else_next (fault_refusal s levels) _ (ap passes (no_fault s levels (right_all ok levelled)))
      ∙ or_else_next (use_refusal s) _ (ap passes (none_loose s some ok.joined.once))
      ∙ none_outside s ok.reach

  pub accepts : Checked s → Levelled s levels → is_accepted s levels ≡ true
  accepts ok levelled = ap passes (passes_all ok levelled)
