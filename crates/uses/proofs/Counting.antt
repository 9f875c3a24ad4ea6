-- Row 9 refuses nothing exactly where each part but the last is used once.
use mathlib.Core.Path.{◌≡◌, refl, ap}
use mathlib.Core.Bool.{true, not}
use mathlib.Core.List.{List}
use Prim.Native.Nat.{ℕ, suc, ◌-◌, ◌≤◌, ◌<◌}
use native.Mathlib.Omega.{arith}
use borrow.Author.Tests.{eqb-true, eq-eqb, not-false}
use Rattle.prelude.specs.Refusals.{not_refused, passes}
use Rattle.layout.specs.Layout.{node_count, part_count}
use Rattle.layout.proofs.Placing.{passes_parts, past_parts}
use Rattle.uses.specs.Uses.{times_used, is_loose, use_refusal}

module _ (s : List ℕ) (some : 1 ≤ node_count s) where
  pub each_once : passes (use_refusal s) ≡ true → (q : ℕ) → suc q < part_count s → times_used s q ≡ 1
  unfolding use_refusal
  each_once h q l =
      eqb-true _ _ (not-false _ (passes_parts s 9 (is_loose s) (part_count s - 1) refl h q (omega arith)))

  pub none_loose : ((q : ℕ) → suc q < part_count s → times_used s q ≡ 1) → use_refusal s ≡ not_refused
  unfolding use_refusal
  none_loose once =
      past_parts s 9 (is_loose s) (part_count s - 1) (λ q h. ap not (eq-eqb _ _ (once q (omega arith))))
