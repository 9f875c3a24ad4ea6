-- What a run in place and the report's paths have in common. The proofs are in proofs/Theorems.antt.
--
-- The language crate's relation keeps one place for each declared name; the report makes a fresh name at each entry of a
-- declaration and substitutes it. The relation in place is the one that the product works with. What is said here joins
-- the two: the report has a path of as many steps, and every path of as many steps, whatever names it takes, has the
-- same instants, session values and lines, and leaves the same process up to its names.
use Rattle.std.specs.Prelude.{ℕ, ◌+◌, ◌≤◌, ◌<◌, ◌≡◌, Bool, true, List, [], ◌∷◌, length}
use Rattle.std.proofs.Math.Option.{some}
use Rattle.language.specs.Syntax.{Names}
use Rattle.language.specs.NodeCounts.{counted}
use Rattle.language.specs.MoveBounds.{holds_no_while, most_moves}
use Rattle.language.specs.NameKinds.{Kind, var, sig, is_of}
use Rattle.language.specs.Typing.{Environment}
use Rattle.language.specs.Steps.{held, present, Output, Inputs}
use Rattle.language.specs.Calls.{Line, Ending, finished, spent, log_full, System, Run}
use Rattle.language.specs.Paths as paths
use Rattle.report.specs.Names.{Free, Renaming, Renamed}
use Rattle.report.specs.Configurations.{Configuration}
use Rattle.report.specs.Instants.{Step, Alive, Terminated}
use Rattle.report.specs.Paths.{NamedLine, lines_for, ExecutionPath, moves_in}

module _ {L : Type 0} (names : Names L) (Γ : Environment L) where
  -- A line of the run and one of a path of the report. `origin` tells for each name that the report has which name of
  -- the script it was made for. The kind comes from the report's rule.
  pub record SameLine (origin : Renaming) (l : Line) (m : NamedLine) : Type 0 where
    pub steps : l.step ≡ m.line.step
    pub instants : l.instant ≡ m.line.instant
    pub values : l.value ≡ m.line.value
    pub kinds : is_of m.kind (names.is_signal l.name) ≡ true
    pub origins : l.name ≡ origin m.kind m.line.name
    pub session : (δ : L) → Γ m.kind l.name ≡ some δ → m.line.name ≡ l.name

  pub data SameLines (origin : Renaming) : List Line → List NamedLine → Type 0 where
    no_lines : SameLines origin [] []
    one_more :
        {l : Line} {m : NamedLine} {ls : List Line} {ms : List NamedLine} →
        SameLine origin l m → SameLines origin ls ms → SameLines origin (l ∷ ls) (m ∷ ms)

  -- Where a run in place has come to with these lines, and where a path of the report has come to with those. Γ is the
  -- environment of the session's names.
  pub record Alike (ls : List Line) (at : System L) (ms : List NamedLine) (C : Configuration L) : Type 0 where
    pub origin : Renaming
    pub renaming : Renaming
    pub lines : SameLines origin ls ms
    pub steps : C.steps ≡ at.steps
    pub instants : C.instants ≡ at.instants
    pub store : (x : ℕ) (δ : L) → Γ var x ≡ some δ → C.store x ≡ held at.values x
    pub signals : (a : ℕ) (δ : L) → Γ sig a ≡ some δ → C.signals a ≡ present at.values a
    pub residual : Renamed renaming at.process C.process
    pub session : (k : Kind) (x : ℕ) (δ : L) → Γ k x ≡ some δ → (renaming k x ≡ x) × (origin k x ≡ x)
    pub inverse : (k : Kind) (x : ℕ) → Free k x at.process → origin k (renaming k x) ≡ x

-- Some path of n steps of the report.
pub record HasPath {L : Type 0} (below : L → Bool) (inputs : Inputs) (n : ℕ) (C : Configuration L) : Type 0 where
  pub lines : List NamedLine
  pub last : Configuration L
  pub path : ExecutionPath below inputs n C lines last

-- How a run ended, of the configuration that a path of the report has come to: finished, it is terminated; spent, it is
-- alive and the limit is reached; log full, it is alive, and its next step calls for a line.
abbrev pub EndsAs : {L : Type 0} → (L → Bool) → Inputs → Ending → Configuration L → ℕ → ℕ → Type 0
EndsAs below inputs finished C made limit = Terminated inputs C
EndsAs below inputs spent C made limit = Alive inputs C × (made ≡ limit)
EndsAs {L} below inputs log_full C made limit =
    Alive inputs C × (made < limit) × ((o : Output) (D : Configuration L) → Step inputs C o D → length (lines_for below C o) ≡ 1)

-- Demand 2 in the report's own terms, of a run of at most `limit` steps that starts at `at`, beside the paths of the report
-- that start at C. The run itself is a path in place, and `last` is what it leaves.
pub record Reported {L : Type 0} (names : Names L) (Γ : Environment L) (inputs : Inputs) (below : L → Bool) (limit : ℕ)
    (at : System L) (C : Configuration L) (r : Run) : Type 0 where
  pub last : System L
  pub path : paths.Path names inputs (λ x. below (names.level x)) r.steps at r.lines last
  -- there is such a path
  pub exists : HasPath below inputs r.steps C
  -- and this holds of every one, whatever fresh names it takes
  pub alike :
      (ms : List NamedLine) (D : Configuration L) → ExecutionPath below inputs r.steps C ms D → Alike names Γ r.lines last ms D
  pub instants :
      (ms : List NamedLine) (D : Configuration L) → ExecutionPath below inputs r.steps C ms D → D.instants ≡ r.instants
  pub store :
      (ms : List NamedLine) (D : Configuration L) → ExecutionPath below inputs r.steps C ms D →
      (x : ℕ) (δ : L) → Γ var x ≡ some δ → D.store x ≡ held r.values x
  pub signals :
      (ms : List NamedLine) (D : Configuration L) → ExecutionPath below inputs r.steps C ms D →
      (a : ℕ) (δ : L) → Γ sig a ≡ some δ → D.signals a ≡ present r.values a
  pub ends :
      (ms : List NamedLine) (D : Configuration L) → ExecutionPath below inputs r.steps C ms D →
      EndsAs below inputs r.ending D r.steps limit

-- 02 (f) of every path of the report, from any configuration, whatever names it takes and whatever signals each instant
-- begins with: a script that holds no while 'makes at most k × (p + 1) moves in its whole run'. The other steps are
-- instant changes.
pub record PathBounded {L : Type 0} (below : L → Bool) (inputs : Inputs) {n : ℕ} {C D : Configuration L} {ls : List NamedLine}
    (path : ExecutionPath below inputs n C ls D) : Type 0 where
  pub steps : n + C.instants ≡ moves_in below path + D.instants
  pub moves : holds_no_while (counted C.process) ≡ true → moves_in below path ≤ most_moves (counted C.process)
