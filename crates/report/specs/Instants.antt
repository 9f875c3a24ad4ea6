-- RR-5594, Figure 4: instant changes; and steps, C ↦ C'.
use Rattle.std.specs.Prelude.{ℕ, suc, Bool, ℤ}
use Rattle.language.specs.Syntax.{Proc}
use Rattle.language.specs.Typing.{Environment}
use Rattle.language.specs.Steps.{Output, silent, Inputs}
use Rattle.language.specs.Suspension.{Suspended}
use Rattle.language.specs.Instants.{Changed}
use Rattle.report.specs.Configurations.{Configuration}
use Rattle.report.specs.Moves.{Move}

-- A step is a move or an instant change; it is counted, and an instant change counts an instant. Its result is
-- ⟨Γ, S, I, [P]_E⟩, where I are the signals that are listed for the instant that it enters. The report has ∅ for I.
pub data Step {L : Type 0} (inputs : Inputs) (C : Configuration L) : Output → Configuration L → Type 0 where
  MOVE :
      {o : Output} {Γ' : Environment L} {S' : ℕ → ℤ} {E' : ℕ → Bool} {p' : Proc L} →
      Move C.environment C.store C.signals C.process o Γ' S' E' p' →
      Step inputs C o (record {
        environment = Γ';
        store = S';
        signals = E';
        process = p';
        steps = suc C.steps;
        instants = C.instants;
      })
  INSTANT-OP :
      {p' : Proc L} → Suspended C.signals C.process → Changed C.signals C.process p' →
      Step inputs C silent (record {
        environment = C.environment;
        store = C.store;
        signals = inputs (suc C.instants);
        process = p';
        steps = suc C.steps;
        instants = suc C.instants;
      })

-- 'A configuration is alive if it can perform a step. Otherwise it is terminated.'
pub record Alive {L : Type 0} (inputs : Inputs) (C : Configuration L) : Type 0 where
  pub output : Output
  pub next : Configuration L
  pub step : Step inputs C output next

abbrev pub Terminated : {L : Type 0} → Inputs → Configuration L → Type 0
Terminated inputs C = Alive inputs C → ⊥
