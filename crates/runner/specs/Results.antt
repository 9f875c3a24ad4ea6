-- What is proved of runs from anywhere. The proofs are in proofs/Theorems.antt.
use Rattle.std.specs.Prelude.{◌≡◌, Bool, true, ℕ, suc, ◌≤◌}
use Rattle.language.specs.Syntax.{Names}
use Rattle.language.specs.Steps.{suspended, Inputs}
use Rattle.moves.specs.Moves.{Running, Live, next_line, has_room, moved, changed}
use Rattle.runner.specs.Outcome.{outcome}

pub record RunsOn {L : Type 0} (names : Names L) (inputs : Inputs) (seen : ℕ → Bool) (room : ℕ) (at : Running L) :
    Type 0 where
  -- A run that goes on from wherever a shorter one stopped comes to what the long one comes to.
  pub joins :
      (n m : ℕ) → at.steps ≤ n → n ≤ m →
      outcome names inputs seen m room at ≡ outcome names inputs seen m room (outcome names inputs seen n room at).at
  -- One step is a run that may make one step more: a move whose line has room, or an instant change.
  pub moves :
      Live at.process at.values → has_room room (next_line seen at) at.lines ≡ true →
      (outcome names inputs seen (suc at.steps) room at).at ≡ moved seen at
  pub changes :
      suspended at.process at.values ≡ true → (outcome names inputs seen (suc at.steps) room at).at ≡ changed names inputs at
