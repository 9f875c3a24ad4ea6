-- RR-5594, 2.2.3: execution paths, with the lines that 01 asks of their steps.
use Rattle.std.specs.Prelude.{ℕ, zero, suc, Bool, false, List, [], ◌∷◌, ◌++◌}
use Rattle.std.proofs.Math.Option.{Option, none, some}
use Rattle.language.specs.NameKinds.{Kind, var, sig}
use Rattle.language.specs.Steps.{Output, silent, assigned, emitted, Inputs}
use Rattle.language.specs.Calls.{Line, called_at}
use Rattle.report.specs.Configurations.{Configuration}
use Rattle.report.specs.Instants.{Step, MOVE, INSTANT-OP}

-- a line, and the kind of its name
pub record NamedLine : Type 0 where
  pub kind : Kind
  pub line : Line

-- the kind of the name that a step writes: ASSIGN-OP assigns a variable, EMIT-OP emits a signal
abbrev pub kind_of : Output → Kind
kind_of silent = var
kind_of (assigned x v) = var
kind_of (emitted a) = sig

abbrev pub named : Kind → Option Line → List NamedLine
named k none = []
named k (some l) = record { kind = k; line = l } ∷ []

module _ {L : Type 0} (below : L → Bool) where
  -- 'a name at or below the reader's level', by Γ
  abbrev pub is_seen : Option L → Bool
  is_seen none = false
  is_seen (some δ) = below δ

  -- the lines that a step calls for, from the configuration before it: none or one
  abbrev pub lines_for : Configuration L → Output → List NamedLine
  lines_for C o =
      named (kind_of o)
      (called_at (λ x. is_seen (C.environment (kind_of o) x)) C.signals C.steps C.instants o)

  -- n steps from one configuration to another, with the lines that they call for
  pub data ExecutionPath (inputs : Inputs) : ℕ → Configuration L → List NamedLine → Configuration L → Type 0 where
    here : {C : Configuration L} → ExecutionPath inputs zero C [] C
    more :
        {n : ℕ} {C C' C'' : Configuration L} {o : Output} {ls : List NamedLine} →
        Step inputs C o C' → ExecutionPath inputs n C' ls C'' → ExecutionPath inputs (suc n) C (lines_for C o ++ ls) C''

  -- how many of its steps are moves: 'Instant changes are not moves' (02 (f))
  unfoldable pub moves_in :
      {inputs : Inputs} {n : ℕ} {C D : Configuration L} {ls : List NamedLine} → ExecutionPath inputs n C ls D → ℕ
  moves_in here = 0
  moves_in (more (MOVE m) rest) = suc (moves_in rest)
  moves_in (more (INSTANT-OP d c) rest) = moves_in rest
