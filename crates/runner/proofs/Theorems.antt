-- The results of specs/Results.antt.
use mathlib.Core.Path.{◌≡◌, refl, sym, ap, ◌∙◌}
use mathlib.Core.Bool.{Bool, true, false}
use Prim.Native.Nat.{ℕ, suc}
use native.Mathlib.Nat.{le_refl}
use Rattle.language.specs.Syntax.{Names, is_nil}
use Rattle.language.specs.Steps.{Inputs}
use Rattle.moves.specs.Moves.{Running, moved, changed}
use Rattle.runner.specs.Outcome.{Outcome, outcome}
use Rattle.runner.specs.Results.{RunsOn}
use Rattle.runner.proofs.Outcomes.{outcome_finished, outcome_spent, outcome_move, outcome_changes, outcome_onward}

module _ {L : Type 0} (names : Names L) (inputs : Inputs) (seen : ℕ → Bool) (room : ℕ) where
  -- at its limit a script stays where it is
  at_limit_lem : (limit : ℕ) (at : Running L) → at.steps ≡ limit → (outcome names inputs seen limit room at).at ≡ at
  at_limit_lem limit at e = by_end (is_nil at.process) refl
    where
      by_end : (b : Bool) → is_nil at.process ≡ b → (outcome names inputs seen limit room at).at ≡ at
      by_end true h = ap (λ (o : Outcome L). o.at) (outcome_finished names inputs seen limit room at h)
      by_end false h = ap (λ (o : Outcome L). o.at) (outcome_spent names inputs seen limit room at h e)

  pub runs_on : (at : Running L) → RunsOn names inputs seen room at
  unfolding moved
  runs_on at =
      record {
        joins = λ n m h k. outcome_onward names inputs seen n m room at h k;
        moves =
            λ l h.
            ap (λ (o : Outcome L). o.at)
            (sym (outcome_move names inputs seen (suc at.steps) room at l (le_refl (suc at.steps)) h))
            ∙ at_limit_lem (suc at.steps) (moved seen at) refl;
        changes =
            λ w.
            ap (λ (o : Outcome L). o.at)
            (sym (outcome_changes names inputs seen (suc at.steps) room at w (le_refl (suc at.steps))))
            ∙ at_limit_lem (suc at.steps) (changed names inputs at) refl;
      }
