-- RR-5594, Figure 4: instant changes, and the steps of a system.
use Rattle.std.specs.Prelude.{ℕ, suc, ◌≡◌, Bool, true, false, List, ℤ}
use Rattle.language.specs.Syntax.{Names, Proc, nil, sequence, watching, when, parallel}
use Rattle.language.specs.Steps.{present, Output, silent, Inputs, instant_start}
use Rattle.language.specs.Calls.{System}
use Rattle.language.specs.Suspension.{Suspended}
use Rattle.language.specs.Moves.{Move}

-- p' is [p]_E. Like the report's function, it is there for suspendable processes alone.
pub data Changed {L : Type 0} (E : ℕ → Bool) : Proc L → Proc L → Type 0 where
  WATCH-PRESENT : {a : ℕ} {p : Proc L} → E a ≡ true → Changed E (watching a p) nil
  WATCH-ABSENT : {a : ℕ} {p p' : Proc L} → E a ≡ false → Changed E p p' → Changed E (watching a p) (watching a p')
  WHEN-PRESENT : {a : ℕ} {p p' : Proc L} → E a ≡ true → Changed E p p' → Changed E (when a p) (when a p')
  WHEN-ABSENT : {a : ℕ} {p : Proc L} → E a ≡ false → Changed E (when a p) (when a p)
  SEQ-CHANGED : {p p' q : Proc L} → Changed E p p' → Changed E (sequence p q) (sequence p' q)
  PAR-CHANGED : {p p' q q' : Proc L} → Changed E p p' → Changed E q q' → Changed E (parallel p q) (parallel p' q')

-- A step is a move or an instant change; it is counted, and an instant change counts an instant. The signals of the
-- instant that it enters are I: where the report has ⟨Γ, S, ∅, [P]_E⟩ there is ⟨Γ, S, I, [P]_E⟩.
pub data Step {L : Type 0} (names : Names L) (inputs : Inputs) (at : System L) : Output → System L → Type 0 where
  MOVE :
      {o : Output} {p' : Proc L} {s' : List ℤ} → Move at.values at.process o p' s' →
      Step names inputs at o (record { process = p'; values = s'; steps = suc at.steps; instants = at.instants })
  INSTANT-OP :
      {p' : Proc L} → Suspended (present at.values) at.process →
      Changed (present at.values) at.process p' →
      Step names inputs at silent (record {
        process = p';
        values = instant_start names (inputs (suc at.instants)) at.values;
        steps = suc at.steps;
        instants = suc at.instants;
      })
