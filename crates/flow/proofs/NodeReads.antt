-- The same laws, where the walk has read a node: what each number of children gives.
use mathlib.Core.Path.{◌≡◌, sym, ap, ap₂, ◌∙◌, subst}
use mathlib.Core.Bool.{Bool, true}
use mathlib.Core.List.{List}
use Prim.Native.Nat.{ℕ}
use Rattle.book.specs.declared.Book.{Book}
use Rattle.lattice.specs.Lattice.{Lattice}
use Rattle.layout.specs.declared.parts.Part.{Part}
use Rattle.layout.proofs.Layouts.{nodes_are}
use Rattle.fields.specs.Children.{AreChildren}
use Rattle.fields.specs.declared.children.Children.TheVariants.{None, One, Two}
use Rattle.language.specs.declared.process_kinds.ProcessKind.{ProcessKind}
use Rattle.script.specs.declared.CheckedFile.{CheckedFile}
use Rattle.tree.proofs.NodeChildren.{shape, count_is, first_same, second_same}
use Rattle.flow.specs.declared.levels.LevelTables.{LevelTables}
use Rattle.flow.specs.declared.nodes.Flow.{Flow}
use Rattle.flow.specs.declared.nodes.Own.{Own}
use Rattle.flow.specs.Nodes.{operations, pair_need, flow_from, pair_from, FlowWithin}
use Rattle.tree.specs.Promises.{IsNodeAt}
use Rattle.flow.specs.Flow.{lattice_by, OwnOf, FlowAt}
use Rattle.flow.proofs.BookLevels.{top_inside, bottom_inside, flow_inside, flow_same, both_same, both_inside, pair_same}
use Rattle.flow.proofs.NodeFlows.{PartsAt, parts_none, parts_one, parts_two, flow_at_lem}

-- what is known where node k has been read: its part and its kind
module _ (f : CheckedFile) (l : LevelTables) {k : ℕ} {kind : ProcessKind} {p : Part} (at : IsNodeAt f.file.bytes.now kind p k) where
  abbrev s : List ℕ
  s = f.file.bytes.now

  abbrev b : Book
  b = l.book

  abbrev tabled : Lattice ℕ
  tabled = operations b l.tables.now

  module _ {own : Own} (brings : OwnOf b s kind p own) where
    found :
        {parts : Flow} {pair : Bool} → PartsAt b s k parts pair → FlowWithin b.count parts → {r : Flow} →
        r ≡ flow_from tabled k p.kind own parts pair → FlowAt b s k r
    found {parts} {pair} parts-at inside {r} e =
        let same = e ∙ flow_same l p.kind own parts brings.inside inside k pair in
        flow_at_lem f.checked b k at.known own parts pair (brings.same k at) parts-at r
        (same ∙ ap (λ p. flow_from (lattice_by b) k p.kind own parts pair) at.same)
        (subst (FlowWithin b.count) (sym same) (flow_inside l p.kind own parts brings.inside inside k pair))

    pub found_none :
        AreChildren p None → {r : Flow} →
        r ≡ flow_from tabled k p.kind own (record { write = l.top; test = l.bottom; failing = f.file.layout.nodes }) true →
        FlowAt b s k r
    found_none z =
        found
        (parts_none f.checked b k at.known (shape f at) (count_is f at ∙ z) l.greatest l.least (nodes_are f.file.laid))
        (record { write = top_inside l; test = bottom_inside l })

    pub found_one :
        {i : ℕ} → AreChildren p (One i) → {g : Flow} → FlowAt b s i g → {r : Flow} →
        r ≡ flow_from tabled k p.kind own g true → FlowAt b s k r
    found_one a {g} d =
        found
        (parts_one f.checked b k at.known (shape f at) (count_is f at ∙ a.0) g (subst (λ j. FlowAt b s j g) (first_same f at a.1) d))
        d.inside

    pub found_two :
        {i j : ℕ} → AreChildren p (Two i j) → {g h : Flow} → FlowAt b s i g → FlowAt b s j h → {r : Flow} →
        r ≡ pair_from tabled k p.kind own g h → FlowAt b s k r
    found_two a {g} {h} d e q =
        found
        (parts_two f.checked b k at.known g h (subst (λ j. FlowAt b s j g) (first_same f at a.1.0) d)
        (subst (λ j. FlowAt b s j h) (second_same f at a.1.1) e)
        (shape f at)
        (count_is f at ∙ a.0))
        (both_inside l p.kind g h d.inside e.inside)
        (q
        ∙ ap₂ (λ parts pair. flow_from tabled k p.kind own parts pair) (both_same l p.kind g h d.inside e.inside)
        (pair_same l p.kind g h d.inside e.inside ∙ ap (λ p. pair_need (lattice_by b) p.kind g h) at.same))
