-- 01, the table of refusals, rows 4 to 10, in their order.
use Rattle.std.specs.Prelude.{Bool, List, ℕ}
use Rattle.prelude.specs.declared.Refusal.{Refusal}
use Rattle.prelude.specs.Refusals.{passes, or_else}
use Rattle.layout.specs.Layout.{layout_refusal}
use Rattle.entries.specs.Faults.{fault_refusal}
use Rattle.uses.specs.Uses.{use_refusal}
use Rattle.scope.specs.Reach.{reach_refusal}

-- rows 6 to 8, 9 and 10
unfoldable pub entry_refusal : List ℕ → ℕ → Refusal
entry_refusal s levels = or_else (fault_refusal s levels) (or_else (use_refusal s) (reach_refusal s))

-- rows 4 and 5 before them: 'The lowest number that applies is given.'
unfoldable pub refusal : List ℕ → ℕ → Refusal
refusal s levels = or_else (layout_refusal s) (entry_refusal s levels)

abbrev pub is_accepted : List ℕ → ℕ → Bool
is_accepted s levels = passes (refusal s levels)
