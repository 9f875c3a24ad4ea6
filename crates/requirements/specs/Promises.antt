-- The flows that a checked script needs, as sets of levels: what the walk asks and gives, no part of what is promised.
use Rattle.std.specs.Prelude.{◌≡◌, Bool, false, ◌&&◌, ◌||◌, List, ℕ, ◌<◌, get_or}
use Rattle.prelude.specs.Sets.{has, IsSet}
use Rattle.book.specs.LevelBook.{most_levels}
use Rattle.language.specs.Syntax.{Names, Proc}
use Rattle.language.specs.declared.process_kinds.ProcessKind.{ProcessKind}
use Rattle.language.specs.RequiredFlows.{is_level, reads, tests, writes, must_flow}
use Rattle.layout.specs.declared.parts.Part.{Part}
use Rattle.tree.specs.Tree.{names_of, expression_of, process_of}
use Rattle.tree.specs.Promises.{IsNodeAt}
use Rattle.requirements.specs.declared.nodes.Own.{Own}
use Rattle.requirements.specs.declared.nodes.Effects.{Effects}
use Rattle.requirements.specs.Nodes.{own_reads, own_name, tested_by, written_by, source_by, target_by, pair_by}

-- the level of name x
abbrev pub LevelAt : List ℕ → ℕ → ℕ → Type 0
LevelAt s x set = IsSet most_levels (is_level (names_of s) x) set

-- the levels of the registers of expression e
abbrev pub LevelsAt : List ℕ → ℕ → ℕ → Type 0
LevelsAt s e set = IsSet most_levels (reads (names_of s) (expression_of s e)) set

-- what a process brings itself
pub record Brings (names : Names ℕ) (p : Proc ℕ) (own : Own) : Type 0 where
  pub read : IsSet most_levels (own_reads names p) own.read
  pub name : IsSet most_levels (own_name names p) own.name

-- what a node of this kind with these bytes brings itself
abbrev pub OwnOf : List ℕ → ProcessKind → Part → Own → Type 0
OwnOf s kind p own = (k : ℕ) → IsNodeAt s kind p k → Brings (names_of s) (process_of s k) own

-- the flows are those before and those of f
pub record Adds (before : List ℕ) (f : ℕ → ℕ → Bool) (after : List ℕ) : Type 0 where
  pub each :
      (i j : ℕ) → i < most_levels → j < most_levels → has (get_or after i 0) j ≡ (has (get_or before i 0) j || f i j)

-- the levels tested and written, and the flows that were added
pub record Leaves (test write : ℕ → Bool) (flow : ℕ → ℕ → Bool) (before after : List ℕ) (r : Effects) : Type 0 where
  pub tested : IsSet most_levels test r.tested
  pub written : IsSet most_levels write r.written
  pub flows : Adds before flow after

-- .. by a node of kind k, where its children test and write this, and it needs flows between two of them
abbrev pub NodeLeaves :
    ℕ → Own → (ℕ → Bool) → (ℕ → Bool) → (ℕ → ℕ → Bool) → List ℕ → List ℕ → Effects → Type 0
NodeLeaves k own tested written pair =
    Leaves
    (λ i. tested_by k (has own.read i) (tested i))
    (λ j. written_by k (has own.name j) (written j))
    (λ i j. pair i j || (source_by k (has own.read i) (tested i) && target_by k (has own.name j) (written j)))

-- .. with its children together, where no flow between two of them is needed
abbrev pub PartLeaves : ℕ → Own → Effects → List ℕ → List ℕ → Effects → Type 0
PartLeaves k own parts = NodeLeaves k own (has parts.tested) (has parts.written) (λ i j. false)

-- the flows between two children
abbrev pub pair_flows : ℕ → Effects → Effects → ℕ → ℕ → Bool
pair_flows k first second i j =
    pair_by k (has first.tested i) (has first.written j) (has second.tested i) (has second.written j)

-- .. with two children
abbrev pub PairLeaves : ℕ → Own → Effects → Effects → List ℕ → List ℕ → Effects → Type 0
PairLeaves k own first second =
    NodeLeaves k own
    (λ i. has first.tested i || has second.tested i)
    (λ j. has first.written j || has second.written j)
    (pair_flows k first second)

-- .. by node k, with all that lies under it
abbrev pub FlowsAt : List ℕ → ℕ → List ℕ → List ℕ → Effects → Type 0
FlowsAt s k =
    Leaves (tests (names_of s) (process_of s k)) (writes (names_of s) (process_of s k))
    (must_flow (names_of s) (process_of s k))
