-- What is proved of the language: demands 2 and 3, over trees. The proofs are in proofs/Theorems.antt.
use Rattle.std.specs.Prelude.{ℕ, ◌+◌, ◌-◌, ◌≤◌, ◌≡◌, Bool, true, false, cond, ◌↔◌, leb, ℤ, pos, length}
use mathlib.Core.List.{List, [], ◌∷◌, Option-to_list}
use Rattle.prelude.specs.Table.{table}
use Rattle.lattice.specs.Lattice.{Lattice}
use Rattle.language.specs.Syntax.{Names, Proc, is_nil}
use Rattle.language.specs.Levels.{write_level, test_level, needs}
use Rattle.language.specs.RequiredFlows.{must_flow}
use Rattle.language.specs.NodeCounts.{counted}
use Rattle.language.specs.MoveBounds.{holds_no_while, most_moves}
use Rattle.language.specs.Steps.{held, Output, Inputs, no_inputs, instant_start}
use Rattle.language.specs.Calls.{finished, spent, System, Run, Stop, starts, readable, called_for, output, next, behind, reach, run}
use Rattle.language.specs.Instants.{Step}
use Rattle.language.specs.Typing.{Environment, Typed, Tightest}
use Rattle.language.specs.Paths.{IsRun}

-- Without inputs an instant begins as in 01: 'Then every signal is absent.'
abbrev pub AllAbsent : {L : Type 0} → Names L → Type 0
AllAbsent names =
    (i : ℕ) (s : List ℤ) →
    instant_start names (no_inputs i) s ≡ table (λ x. cond (names.is_signal x) (pos 0) (held s x)) (length s)

-- Demand 2, the runner: the step of a system is the report's, and the report has no other; none from nil.
pub record StepsAgree {L : Type 0} (names : Names L) (inputs : Inputs) (at : System L) : Type 0 where
  pub allowed : is_nil at.process ≡ false → Step names inputs at (output names inputs at) (next names inputs at)
  pub only : (o : Output) (to : System L) → Step names inputs at o to → (output names inputs at ≡ o) × (next names inputs at ≡ to)
  pub nil_rests : is_nil at.process ≡ true → (o : Output) (to : System L) → Step names inputs at o to → ⊥

-- Demand 2, the runner: a run is a path of the report's steps that ends where 01 says, and nothing else is.
pub record RunsAgree {L : Type 0} (names : Names L) (inputs : Inputs) (seen : ℕ → Bool) (n room : ℕ) (at : System L) :
    Type 0
  where
    pub path : IsRun names inputs seen n room at (run names inputs seen n room at)
    pub only : (r : Run) → IsRun names inputs seen n room at r → r ≡ run names inputs seen n room at

module _ {L : Type 0} (names : Names L) (inputs : Inputs) (seen : ℕ → Bool) where
  -- a run that stopped goes on, under a limit on all steps, with what it left of this room
  abbrev pub onward : ℕ → ℕ → Stop L → Stop L
  onward limit room r =
      behind r.lines (reach names inputs seen (limit - r.at.steps) (room - length r.lines) r.at)

  -- where one step leads, with the line that it calls for, if any
  abbrev pub stepped : System L → Stop L
  stepped at =
      record {
        ending = cond (is_nil (next names inputs at).process) finished spent;
        at = next names inputs at;
        lines = Option-to_list (called_for seen at (output names inputs at));
      }

-- Under a limit on all steps a run goes on from wherever a run of n of them stopped, however that ended.
pub record RunsJoin {L : Type 0} (names : Names L) (inputs : Inputs) (seen : ℕ → Bool) (n room : ℕ) (at : System L) :
    Type 0
  where
    pub joins :
        (limit : ℕ) → at.steps + n ≤ limit →
        reach names inputs seen (limit - at.steps) room at
        ≡ onward names inputs seen limit room (reach names inputs seen n room at)
    -- One step is a run of one step, if the script is not nil and there is room for the line that the step calls for.
    pub once :
        is_nil at.process ≡ false → length (stepped names inputs seen at).lines ≤ room →
        reach names inputs seen 1 room at ≡ stepped names inputs seen at

-- Demand 2, the checker: the needs hold exactly when the rules give some pair; then (W, T) is one, and the tightest.
pub record LevelsAgree {L : Type 0} (𝓛 : Lattice L) (names : Names L) (Γ : Environment L) (p : Proc L) : Type 0 where
  pub accepts : (needs 𝓛 names p ≡ true) ↔ ((θ : L) × (σ : L) × Typed 𝓛 Γ p θ σ)
  pub derivable : needs 𝓛 names p ≡ true → Typed 𝓛 Γ p (write_level 𝓛 names p) (test_level 𝓛 names p)
  pub tightest : Tightest 𝓛 Γ p (write_level 𝓛 names p) (test_level 𝓛 names p)

-- 02 (e): the needs hold only if every flow that the process needs is in the order; where they do not hold, one of these
-- is absent.
pub record FlowsAgree (𝓛 : Lattice ℕ) (names : Names ℕ) (p : Proc ℕ) : Type 0 where
  pub allowed : needs 𝓛 names p ≡ true → (i j : ℕ) → must_flow names p i j ≡ true → 𝓛.leq i j ≡ true
  pub absent :
      needs 𝓛 names p ≡ false → (i : ℕ) × (j : ℕ) × (must_flow names p i j ≡ true) × (𝓛.leq i j ≡ false)

-- 02 (f): a script that holds no while 'makes at most k × (p + 1) moves in its whole run, whatever values and signals it
-- meets. Instant changes are not moves': of the steps of a run, the moves are those that are no instant changes.
pub record MovesBounded {L : Type 0} (names : Names L) (inputs : Inputs) (seen : ℕ → Bool) (n room : ℕ) (p : Proc L)
    (s : List ℤ) : Type 0 where
  pub instants : (run names inputs seen n room (starts p s)).instants ≤ (run names inputs seen n room (starts p s)).steps
  pub moves :
      holds_no_while (counted p) ≡ true →
      (run names inputs seen n room (starts p s)).steps - (run names inputs seen n room (starts p s)).instants
      ≤ most_moves (counted p)

-- 'those lines that are stamped n or less', .. 'in the same order': the lines are records here and words in a log, so what
-- tells the stamp of a line is given
unfoldable pub stamped_up_to : {A : Type 0} → (A → ℕ) → ℕ → List A → List A
stamped_up_to stamp n [] = []
stamped_up_to stamp n (l ∷ ls) = cond (leb (stamp l) n) (l ∷ stamped_up_to stamp n ls) (stamped_up_to stamp n ls)

module _ {L : Type 0} (𝓛 : Lattice L) (names : Names L) (reader : L) where
  -- Demand 3: two value lists that are 'equal for every session register and signal at or below the reader's level'.
  -- Owned names are 0 at the start (01, 'Calls').
  pub record StartsAgree (s t : List ℤ) : Type 0 where
    pub lengths : length s ≡ length t
    pub session : (x : ℕ) → names.is_session x ≡ true → readable 𝓛 names reader x ≡ true → held s x ≡ held t x
    pub owned : (x : ℕ) → names.is_session x ≡ false → (held s x ≡ pos 0) × (held t x ≡ pos 0)

  -- 'the first record is exactly those lines of the second that are stamped n or less, word for word, in the same
  -- order. With n = m the records are equal and the session registers at or below that level end equal.'
  pub record RecordsAgree (n m : ℕ) (first second : Run) : Type 0 where
    pub shorter : first.lines ≡ stamped_up_to (λ l. l.step) n second.lines
    pub equal : n ≡ m → first.lines ≡ second.lines
    pub registers :
        n ≡ m → (x : ℕ) → names.is_session x ≡ true → names.is_signal x ≡ false → readable 𝓛 names reader x ≡ true →
        held first.values x ≡ held second.values x

  -- 02 (a): 'in every instant they name the same signals at or below the reader's level'
  abbrev pub InputsAgree : Inputs → Inputs → Type 0
  InputsAgree I J = (i a : ℕ) → readable 𝓛 names reader a ≡ true → I i a ≡ J i a

  -- any two whole runs of the process, with any limits n ≤ m and room for any number of lines
  abbrev pub NonInterference : Proc L → Type 0
  NonInterference p =
      (s t : List ℤ) → StartsAgree s t → (I J : Inputs) → InputsAgree I J → (room n m : ℕ) → n ≤ m →
      RecordsAgree
      n
      m
      (run names I (readable 𝓛 names reader) n room (starts p s))
      (run names J (readable 𝓛 names reader) m room (starts p t))
