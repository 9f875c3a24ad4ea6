-- What a node leaves, from what its children leave.
use mathlib.Core.Path.{◌≡◌, ap, ap₂, ◌∙◌}
use mathlib.Core.Bool.{Bool, ◌&&◌, ◌||◌, or_comm}
use mathlib.Core.List.{List}
use Prim.Native.Nat.{ℕ, ◌<◌}
use Rattle.prelude.specs.Sets.{has, IsSet}
use Rattle.book.specs.LevelBook.{most_levels}
use Rattle.language.specs.Syntax.{Names, Proc}
use Rattle.language.specs.RequiredFlows.{tests, writes, needs_flow, must_flow}
use Rattle.language.specs.KindGroups.{kind_of, children_of}
use Rattle.requirements.specs.declared.nodes.Own.{Own}
use Rattle.requirements.specs.declared.nodes.Effects.{Effects}
use Rattle.requirements.specs.Nodes.{own_reads, own_name, tested_by, written_by, source_by, target_by}
use Rattle.requirements.specs.Promises.{Brings, Adds, Leaves, NodeLeaves, PartLeaves}
use Rattle.requirements.proofs.Additions.{adds_same, adds_more}
use Rattle.requirements.proofs.ByKind.{tests_of, writes_of, must_of, pair_of, tests_by_kind, writes_by_kind, need_by_kind, must_by_kind}

-- the same of the levels that there can be
abbrev pub Same : (ℕ → Bool) → (ℕ → Bool) → Type 0
Same f g = (i : ℕ) → i < most_levels → f i ≡ g i

-- flows between two children come first
pub pair_leaves :
    (k : ℕ) (own : Own) (parts : Effects) {tested written : ℕ → Bool} {pair : ℕ → ℕ → Bool} {before middle after : List ℕ}
    {r : Effects} → IsSet most_levels tested parts.tested → IsSet most_levels written parts.written →
    Adds before pair middle → PartLeaves k own parts middle after r → NodeLeaves k own tested written pair before after r
pair_leaves k own parts t w adds h =
    record {
      tested = λ i l. h.tested i l ∙ ap (tested_by k (has own.read i)) (t i l);
      written = λ j l. h.written j l ∙ ap (written_by k (has own.name j)) (w j l);
      flows =
          adds_more adds
          (adds_same
          (λ i j hi hj.
          ap₂ (λ a b. source_by k (has own.read i) a && target_by k (has own.name j) b) (t i hi) (w j hj))
          h.flows);
    }

-- the levels and flows of a process of this kind that brings this itself
module _ {names : Names ℕ} {p : Proc ℕ} {k : ℕ} {own : Own} (kind : k ≡ kind_of p) (brings : Brings names p own) where
  abbrev children : List (Proc ℕ)
  children = children_of p

  pub process_leaves :
      {tested written : ℕ → Bool} {pair : ℕ → ℕ → Bool} {before middle after : List ℕ} {r : Effects} →
      Same tested (tests_of names children) → Same written (writes_of names children) →
      ((i j : ℕ) → i < most_levels → j < most_levels → pair i j ≡ pair_of names k children i j) →
      Adds before (must_of names children) middle → NodeLeaves k own tested written pair middle after r →
      Leaves (tests names p) (writes names p) (must_flow names p) before after r
  process_leaves {tested} {written} {pair} t w e adds h =
      record {
        tested =
            λ i l.
            h.tested i l ∙ ap₂ (tested_by k) (brings.read i l) (t i l)
            ∙ ap (λ k. tested_by k (own_reads names p i) (tests_of names children i)) kind
            ∙ tests_by_kind names p i;
        written =
            λ j l.
            h.written j l ∙ ap₂ (written_by k) (brings.name j l) (w j l)
            ∙ ap (λ k. written_by k (own_name names p j) (writes_of names children j)) kind
            ∙ writes_by_kind names p j;
        flows =
            adds_same
            (λ i j hi hj.
            or_comm (must_of names children i j) _
            ∙ ap (λ b. b || must_of names children i j) (flow i j hi hj)
            ∙ must_by_kind names p i j)
            (adds_more adds h.flows);
      }
    where
      flow :
          (i j : ℕ) → i < most_levels → j < most_levels →
          (pair i j || (source_by k (has own.read i) (tested i) && target_by k (has own.name j) (written j)))
          ≡ needs_flow names p i j
      flow i j hi hj =
          ap₂ ◌||◌ (e i j hi hj)
          (ap₂ ◌&&◌
          (ap₂ (source_by k) (brings.read i hi) (t i hi))
          (ap₂ (target_by k) (brings.name j hj) (w j hj)))
          ∙ ap
          (λ k.
          pair_of names k children i j
          || (source_by k (own_reads names p i) (tests_of names children i)
          && target_by k (own_name names p j) (writes_of names children j)))
          kind
          ∙ need_by_kind names p i j
