-- Demands 2 and 3 and 02 (e) and (f) about the calls. `verdict` is what check answers, `left` what run leaves and
-- `flows_found` what flows answers: their contracts in engine/src/lib.rt say so, for every input. The proofs are in
-- proofs/Theorems.antt, proofs/Flows.antt and proofs/Moves.antt.
use Rattle.std.specs.Prelude.{◌≡◌, Bool, true, false, ◌↔◌, List, [], ℕ, ◌-◌, ◌/◌, ◌≤◌, ◌<◌, ℤ, get_or, length, Some}
use Rattle.prelude.specs.Sets.{has}
use Rattle.book.specs.LevelBook.{count, rows, at_or_below}
use Rattle.lattice.specs.Lattice.{Laws, book_lattice}
use Rattle.lattice.specs.Refusals as books
use Rattle.language.specs.Steps.{held, Inputs, no_inputs}
use Rattle.language.specs.Calls.{Run, starts, readable, run}
use Rattle.language.specs.Typing.{Environment, environment, Typed, Tightest}
use Rattle.language.specs.Paths.{IsRun}
use Rattle.language.specs.Results.{stamped_up_to}
use Rattle.report.specs.Configurations.{Configuration, Begins, begun}
use Rattle.report.specs.Paths.{NamedLine, ExecutionPath, moves_in}
use Rattle.report.specs.Results.{Reported}
use Rattle.inputs.specs.Lists.{listed}
use Rattle.layout.specs.Layout.{name_count}
use Rattle.layout.specs.Entries.{is_session_name}
use Rattle.script.specs.Refusals as scripts
use Rattle.tree.specs.Tree.{names_of, tree}
use Rattle.engine.specs.Answers.{verdict, flows_found, run_of, Left, left_by, left}
use Rattle.theorems.specs.Records.{record_of, stamp}

-- Γ: the session's names, each with its kind and level
abbrev pub session_environment : List ℕ → Environment ℕ
session_environment s = environment (names_of s) (is_session_name s)

-- Demand 2, the checker. 'A script is accepted under a book when check gives 0 as its number': exactly when book and file
-- are right and the report's rules give the script some pair; then the answer is a pair that they give, and the
-- tightest. W and T are then levels of the book, and no other two levels of the book are the tightest pair.
pub record CheckAgrees (b s : List ℕ) : Type 0 where
  pub accepts :
      ((verdict b s).number ≡ 0)
      ↔ ((books.is_accepted b ≡ true)
      × ((scripts.is_accepted s (count b) ≡ true)
      × ((θ : ℕ) × (σ : ℕ) × Typed (book_lattice b) (session_environment s) (tree s) θ σ)))
  pub lattice : (verdict b s).number ≡ 0 → Laws (book_lattice b)
  pub derivable :
      (verdict b s).number ≡ 0 →
      Typed (book_lattice b) (session_environment s) (tree s) (verdict b s).write (verdict b s).test
  pub tightest :
      (verdict b s).number ≡ 0 →
      Tightest (book_lattice b) (session_environment s) (tree s) (verdict b s).write (verdict b s).test
  pub levels : (verdict b s).number ≡ 0 → ((verdict b s).write < count b) × ((verdict b s).test < count b)
  pub unique :
      (verdict b s).number ≡ 0 → (θ σ : ℕ) → θ < count b → σ < count b →
      Typed (book_lattice b) (session_environment s) (tree s) θ σ →
      Tightest (book_lattice b) (session_environment s) (tree s) θ σ →
      (θ ≡ (verdict b s).write) × (σ ≡ (verdict b s).test)

-- 02 (e): 'any book that passes 1 to 3 and has the script's levels': every name's level is below the book's n
pub record HasLevels (b s : List ℕ) : Type 0 where
  pub book : books.is_accepted b ≡ true
  pub names : (x : ℕ) → x < name_count s → (names_of s).level x < count b

-- a listed pair: bit j of word i of what flows answers
abbrev pub is_listed : List ℕ → ℕ → ℕ → Bool
is_listed s i j = has (get_or (flows_found s).to i 0) j

-- 'refusal 11 is given exactly when some listed pair is absent from its order', of a file that flows does not refuse
abbrev pub FlowsDecide : Type 0
FlowsDecide =
    (b s : List ℕ) → (flows_found s).number ≡ 0 → HasLevels b s →
    ((verdict b s).number ≡ 11)
    ↔ ((i : ℕ) × (j : ℕ) × (is_listed s i j ≡ true) × (at_or_below (rows b) i j ≡ false))

-- 'A passing book that only adds pairs therefore never refuses for flow what a smaller one let through.'
abbrev pub FlowsGrow : Type 0
FlowsGrow =
    (b c s : List ℕ) → (flows_found s).number ≡ 0 → HasLevels b s → books.is_accepted c ≡ true →
    ((i j : ℕ) → at_or_below (rows b) i j ≡ true → at_or_below (rows c) i j ≡ true) →
    ((verdict b s).number ≡ 11 → ⊥) → (verdict c s).number ≡ 11 → ⊥

-- Demand 2, the runner. A call that is not refused leaves what a path of the report's steps gives that ends where 01
-- says; there is such a path, and no other.
pub record RunAgrees (b s : List ℕ) (reader : ℕ) (values : List ℤ) (limit : ℕ) (list log : List ℕ) : Type 0 where
  pub is :
      (left b s reader values limit list log).result.number ≡ 0 →
      left b s reader values limit list log ≡ left_by (run_of b s reader values limit list log) log
  pub path :
      IsRun (names_of s) (listed list) (readable (book_lattice b) (names_of s) reader) limit (length log / 4)
      (starts (tree s) values) (run_of b s reader values limit list log)
  pub only :
      (r : Run) →
      IsRun (names_of s) (listed list) (readable (book_lattice b) (names_of s) reader) limit (length log / 4)
      (starts (tree s) values) r →
      r ≡ run_of b s reader values limit list log

-- 'The program's list is empty': a run with an empty list is one without inputs.
abbrev pub RunsUnlisted : List ℕ → List ℕ → ℕ → List ℤ → ℕ → List ℕ → Type 0
RunsUnlisted b s reader values limit log =
    run_of b s reader values limit [] log
    ≡ run (names_of s) no_inputs (readable (book_lattice b) (names_of s) reader) limit (length log / 4) (starts (tree s) values)

-- The same in the report's own terms, with fresh names, from any configuration ⟨Γ, S, E, script⟩ in which S and E hold the
-- call's values: the report has a path of as many steps as the call returns, and every path of as many steps has the
-- call's instants, values of the session and lines, leaves what the run leaves, up to its names, and ends as it does.
-- That the call leaves what `run_of` gives is `RunAgrees.is`. I is what the list names for the instant that is entered.
pub record RunReported (b s : List ℕ) (reader : ℕ) (values : List ℤ) (limit : ℕ) (list log : List ℕ) : Type 0 where
  pub begins : Begins (session_environment s) (starts (tree s) values) (begun (session_environment s) (starts (tree s) values))
  pub reported :
      (left b s reader values limit list log).result.number ≡ 0 → (C : Configuration ℕ) →
      Begins (session_environment s) (starts (tree s) values) C →
      Reported (names_of s) (session_environment s) (listed list) (λ δ. (book_lattice b).leq δ reader) limit
      (starts (tree s) values) C (run_of b s reader values limit list log)

-- 02 (f): 'such a script makes at most k × (p + 1) moves in its whole run, whatever values and signals it meets', where
-- check gives m as the figure. 'Instant changes are not moves': the moves of a run are its steps less its instants.
pub record MovesBounded (b s : List ℕ) (m : ℕ) : Type 0 where
  pub instants :
      (reader : ℕ) (values : List ℤ) (limit : ℕ) (list log : List ℕ) →
      (left b s reader values limit list log).result.instants ≤ (left b s reader values limit list log).result.steps
  pub moves :
      (reader : ℕ) (values : List ℤ) (limit : ℕ) (list log : List ℕ) →
      (left b s reader values limit list log).result.steps - (left b s reader values limit list log).result.instants ≤ m
  -- The same of every path of the report's own relation, with fresh names, from any ⟨Γ, S, E, script⟩; `inputs` are the
  -- signals that each instant begins with.
  pub reported :
      (below : ℕ → Bool) (inputs : Inputs) (n : ℕ) (C D : Configuration ℕ) (ls : List NamedLine) → C.process ≡ tree s →
      (path : ExecutionPath below inputs n C ls D) → moves_in below path ≤ m

abbrev pub FigureHolds : Type 0
FigureHolds = (b s : List ℕ) (m : ℕ) → (verdict b s).moves ≡ Some m → MovesBounded b s m

-- a session name at or below the reader's level
pub record Readable (b s : List ℕ) (reader x : ℕ) : Type 0 where
  pub known : x < name_count s
  pub session : (names_of s).is_session x ≡ true
  pub low : readable (book_lattice b) (names_of s) reader x ≡ true

-- 'they start from values equal for every session register and signal at or below the reader's level'
abbrev pub StartEqual : List ℕ → List ℕ → ℕ → List ℤ → List ℤ → Type 0
StartEqual b s reader values₁ values₂ = (x : ℕ) → Readable b s reader x → held values₁ x ≡ held values₂ x

-- 02 (a): 'the two lists agree: in every instant they name the same signals at or below the reader's level'
abbrev pub ListsAgree : List ℕ → List ℕ → ℕ → List ℕ → List ℕ → Type 0
ListsAgree b s reader list₁ list₂ = (i x : ℕ) → Readable b s reader x → listed list₁ i x ≡ listed list₂ i x

-- 'the first record is exactly those lines of the second that are stamped n or less, word for word, in the same order.
-- With n = m the records are equal and the session registers at or below that level end equal.'
pub record NothingShows (b s : List ℕ) (reader n m : ℕ) (one two : Left) : Type 0 where
  pub shorter : record_of one ≡ stamped_up_to stamp n (record_of two)
  pub equal : n ≡ m → record_of one ≡ record_of two
  pub registers :
      n ≡ m → (x : ℕ) → Readable b s reader x → (names_of s).is_signal x ≡ false →
      held one.values x ≡ held two.values x

-- Demand 3: 'any level book, any script accepted under it, any reader and log length, any two runs with these, neither
-- refused, that allow n and m steps, n ≤ m'. What the logs held before is left free.
abbrev pub DemandThree : Type 0
DemandThree =
    (b s : List ℕ) (reader n m : ℕ) (values₁ values₂ : List ℤ) (list₁ list₂ log₁ log₂ : List ℕ) → n ≤ m →
    length log₁ ≡ length log₂ → (left b s reader values₁ n list₁ log₁).result.number ≡ 0 →
    (left b s reader values₂ m list₂ log₂).result.number ≡ 0 → StartEqual b s reader values₁ values₂ →
    ListsAgree b s reader list₁ list₂ →
    NothingShows b s reader n m (left b s reader values₁ n list₁ log₁) (left b s reader values₂ m list₂ log₂)

-- the same without lists, as 01 has it
abbrev pub DemandThreeUnlisted : Type 0
DemandThreeUnlisted =
    (b s : List ℕ) (reader n m : ℕ) (values₁ values₂ : List ℤ) (log₁ log₂ : List ℕ) → n ≤ m →
    length log₁ ≡ length log₂ → (left b s reader values₁ n [] log₁).result.number ≡ 0 →
    (left b s reader values₂ m [] log₂).result.number ≡ 0 → StartEqual b s reader values₁ values₂ →
    NothingShows b s reader n m (left b s reader values₁ n [] log₁) (left b s reader values₂ m [] log₂)
