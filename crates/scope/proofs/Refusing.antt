-- Row 10 refuses nothing exactly where every part uses only names in reach.
use mathlib.Core.Path.{◌≡◌, refl}
use mathlib.Core.Bool.{true, false}
use mathlib.Core.List.{List}
use Prim.Native.Nat.{ℕ, ◌<◌}
use Rattle.prelude.specs.Refusals.{not_refused, passes}
use Rattle.layout.specs.Layout.{part_count}
use Rattle.layout.proofs.Placing.{passes_parts, past_parts}
use Rattle.scope.specs.Reach.{is_out_of_reach, reach_refusal}

module _ (s : List ℕ) where
  pub all_in_reach : passes (reach_refusal s) ≡ true → (q : ℕ) → q < part_count s → is_out_of_reach s q ≡ false
  unfolding reach_refusal
  all_in_reach h = passes_parts s 10 (is_out_of_reach s) (part_count s) refl h

  pub none_outside : ((q : ℕ) → q < part_count s → is_out_of_reach s q ≡ false) → reach_refusal s ≡ not_refused
  unfolding reach_refusal
  none_outside inside = past_parts s 10 (is_out_of_reach s) (part_count s) inside
