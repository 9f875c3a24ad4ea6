-- `find_flows`: what the walk adds of the last node is what the whole script needs.
use mathlib.Core.Path.{◌≡◌, ap, ◌∙◌}
use mathlib.Core.Bool.{not, ◌&&◌}
use mathlib.Core.List.{List}
use Prim.Native.Nat.{ℕ, ◌-◌, ◌<◌}
use lib.Dec.{eqb}
use lib.ListN.{get_or, get_or-replicate}
use Rattle.prelude.specs.Sets.{has, set_of}
use Rattle.prelude.specs.Table.{table}
use Rattle.prelude.proofs.Sets.{set_same}
use Rattle.prelude.proofs.Tables.{table_same}
use Rattle.book.specs.LevelBook.{most_levels}
use Rattle.language.specs.RequiredFlows.{must_flow}
use Rattle.layout.specs.Layout.{node_count}
use Rattle.layout.proofs.Layouts.{nodes_are}
use Rattle.tree.specs.Tree.{names_of, process_of}
use Rattle.requirements.specs.Flows.{flows_to, flows_of}
use Rattle.requirements.specs.Promises.{Adds}
use Rattle.requirements.proofs.Additions.{adds_first}
use Rattle.requirements.proofs.find_flows.Goals as goal

flows-are :
    (s : List ℕ) {k : ℕ} {before after : List ℕ} → ((i : ℕ) → i < most_levels → get_or before i 0 ≡ 0) →
    Adds before (must_flow (names_of s) (process_of s k)) after → k ≡ node_count s - 1 →
    table (λ i. set_of (λ j. not (eqb i j) && has (get_or after i 0) j) most_levels) most_levels ≡ flows_of s
unfolding flows_of
flows-are s none h e =
    table_same _ _ most_levels (λ i hi.
    set_same _ (flows_to s i) most_levels (λ j hj.
    ap (λ b. not (eqb i j) && b)
    (adds_first none h i j hi hj ∙ ap (λ k. must_flow (names_of s) (process_of s k) i j) e)))

pub returns : goal.returns
returns c =
    let f = c.args.checked.now.file in
    c.between_others.ensures
    ∙ flows-are f.bytes.now (λ i hi. get_or-replicate most_levels i 0 0 hi) c.flows_at.ensures.flows (ap (λ n. n - 1) (nodes_are f.laid))
