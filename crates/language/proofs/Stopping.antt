-- Where runs stop: a law for two runs side by side; and, from the path that a run makes, that it has no more lines than
-- steps, that it goes on from wherever a shorter run stopped, and that one step is a run of one step.
use Prim.Native.Nat.{ℕ, zero, suc, ◌+◌, ◌-◌, ◌≤◌}
use native.Mathlib.Omega.{arith}
use mathlib.Core.Path.{◌≡◌, refl, ap₂, sym, ◌∙◌}
use mathlib.Core.Bool.{Bool, false}
use mathlib.Core.Option.{Option, none, some}
use mathlib.Core.List.{List, [], ◌∷◌, ◌++◌, append-nil, Option-to_list}
use lib.ListN.{length, length-append}
use Rattle.prelude.proofs.Bools.{by_cases, by_both}
use Rattle.language.specs.Syntax.{Names, is_nil}
use Rattle.language.specs.Steps.{Inputs}
use Rattle.language.specs.Calls.{Line, Ending, finished, spent, log_full, System, Stop, called_for, output, next, halts, behind, noted, reach}
use Rattle.language.specs.Paths.{Path, here, more, RunEnds, NIL-REACHED, LIMIT-REACHED}
use Rattle.language.specs.Results.{onward, stepped}
use Rattle.language.proofs.Figures.{step_is}
use Rattle.language.proofs.Executions.{reach_is, reach_follows, reach_only, path_steps}

-- Two runs side by side, and a relation that holds wherever both halt: it holds where no step is left (`both_stay`); it
-- holds before a step of each with the same line, if it holds after it and a line before both keeps it (`both_go`).
module _ {L : Type 0} (names names' : Names L) (I J : Inputs) (seen seen' : ℕ → Bool) (R : Stop L → Stop L → Type 0)
    (at at' : System L) (nils : is_nil at.process ≡ is_nil at'.process)
    (halt : (e : Ending) → R (halts e at) (halts e at')) where
  pub both_stay : (room : ℕ) → R (reach names I seen 0 room at) (reach names' J seen' 0 room at')
  unfolding reach
  both_stay room = by_both R _ _ nils (λ _. halt finished) (λ _. halt spent)

  both_note :
      (c c' : Option Line) (room : ℕ) (go go' : ℕ → Stop L) → c ≡ c' →
      ((l : Line) (r r' : Stop L) → c ≡ some l → R r r' → R (behind (l ∷ []) r) (behind (l ∷ []) r')) →
      ((left : ℕ) → R (go left) (go' left)) →
      R (noted c room go (halts log_full at)) (noted c' room go' (halts log_full at'))
  unfolding noted
  both_note none c' room go go' e f g = rw (← e) (g room)
  both_note (some l) c' zero go go' e f g = rw (← e) (halt log_full)
  both_note (some l) c' (suc room) go go' e f g = rw (← e) (f l (go room) (go' room) refl (g room))

  pub both_go :
      called_for seen at (output names I at) ≡ called_for seen' at' (output names' J at') →
      ((l : Line) (r r' : Stop L) → called_for seen at (output names I at) ≡ some l →
      R r r' → R (behind (l ∷ []) r) (behind (l ∷ []) r')) →
      (n m room : ℕ) →
      ((left : ℕ) → R (reach names I seen n left (next names I at)) (reach names' J seen' m left (next names' J at'))) →
      R (reach names I seen (suc n) room at) (reach names' J seen' (suc m) room at')
  unfolding reach
  both_go e f n m room g = by_both R _ _ nils (λ _. halt finished) (λ _. both_note _ _ room _ _ e f g)

at_most_one : (c : Option Line) → length (Option-to_list c) ≤ 1
unfolding Option-to_list
at_most_one none = omega arith
at_most_one (some l) = omega arith

module _ {L : Type 0} (names : Names L) (inputs : Inputs) (seen : ℕ → Bool) where
  path_few : {n : ℕ} {at end : System L} {ls : List Line} → Path names inputs seen n at ls end → length ls ≤ n
  path_few here = omega arith
  path_few (more {at = at} {o = o} {ls = ls} d p) =
      rw length-append (omega (arith, path_few p, at_most_one (called_for seen at o)))

  -- no more lines than steps
  pub run_few : (n room : ℕ) (at : System L) → length (reach names inputs seen n room at).lines ≤ n
  run_few n room at = let h = reach_is names inputs seen n room at in omega (arith, path_few h.path, h.in_limit)

  -- A run under a limit on all steps goes on from wherever a run of n of them stopped, however it stopped.
  pub reach_onward :
      (n limit room : ℕ) (at : System L) → at.steps + n ≤ limit →
      reach names inputs seen (limit - at.steps) room at ≡ onward names inputs seen limit room (reach names inputs seen n room at)
  reach_onward n limit room at l =
      let r = reach names inputs seen n room at in
      let h = reach_is names inputs seen n room at in
      let s = path_steps names inputs seen h.path in
      let a : limit - at.steps ≡ h.made + (limit - r.at.steps) = omega (arith, h.in_limit, s) in
      let b : room ≡ length r.lines + (room - length r.lines) = omega (arith, h.in_room) in
      ap₂ (λ k j. reach names inputs seen k j at) a b ∙ reach_follows names inputs seen h.path _ _

  -- One step is a run of one step.
  pub reach_once :
      (room : ℕ) (at : System L) → is_nil at.process ≡ false → length (stepped names inputs seen at).lines ≤ room →
      reach names inputs seen 1 room at ≡ stepped names inputs seen at
  reach_once room at h l =
      let ls = (stepped names inputs seen at).lines in
      let p : Path names inputs seen 1 at (ls ++ []) (next names inputs at) = more (step_is names inputs at h) here in
      sym
      (reach_only names inputs seen (rw append-nil at p) 1 room _ (omega arith) l
      (by_cases (λ e. RunEnds names inputs seen 1 room (next names inputs at) e 1 (length ls)) _ NIL-REACHED LIMIT-REACHED))
