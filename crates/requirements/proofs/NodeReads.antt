-- What the walk has where it has read a node, by how many children it has.
use mathlib.Core.Path.{◌≡◌, sym, ap, ap₂, ◌∙◌, subst}
use mathlib.Core.Bool.{◌||◌}
use mathlib.Core.List.{List, []}
use Prim.Native.Nat.{ℕ}
use Rattle.prelude.specs.Sets.{has}
use Rattle.prelude.proofs.Sets.{has_zero}
use Rattle.language.specs.Syntax.{Proc}
use Rattle.language.specs.RequiredFlows.{tests, writes}
use Rattle.language.specs.KindGroups.{kind_of, children_of}
use Rattle.language.specs.declared.process_kinds.ProcessKind.{ProcessKind}
use Rattle.layout.specs.declared.parts.Part.{Part}
use Rattle.fields.specs.Children.{AreChildren}
use Rattle.fields.specs.declared.children.Children.TheVariants.{None, One, Two}
use Rattle.script.specs.declared.CheckedFile.{CheckedFile}
use Rattle.tree.specs.Promises.{IsNodeAt}
use Rattle.tree.specs.Tree.{names_of, process_of}
use Rattle.tree.proofs.NodeChildren.{kind_of_node, no_children, one_child, two_children}
use Rattle.requirements.specs.declared.nodes.Own.{Own}
use Rattle.requirements.specs.declared.nodes.Effects.{Effects}
use Rattle.requirements.specs.Nodes.{pair_by}
use Rattle.requirements.specs.Promises.{OwnOf, Adds, PartLeaves, pair_flows, PairLeaves, FlowsAt}
use Rattle.requirements.proofs.Additions.{adds_none, adds_more}
use Rattle.requirements.proofs.ByKind.{tests_of, writes_of, must_of, pair_of}
use Rattle.requirements.proofs.NodeEffects.{process_leaves}

-- what is known where node k has been read: its part and its kind, and what it brings itself
module _
    (f : CheckedFile) {k : ℕ} {kind : ProcessKind} {p : Part} (at : IsNodeAt f.file.bytes.now kind p k) {own : Own}
    (brings : OwnOf f.file.bytes.now kind p own) where
  abbrev s : List ℕ
  s = f.file.bytes.now

  kind_is : p.kind ≡ kind_of (process_of s k)
  kind_is = sym at.kinded ∙ kind_of_node f at

  -- what its children have together, where it has these
  module _ (ps : List (Proc ℕ)) (q : children_of (process_of s k) ≡ ps) where
    tests_of_lem : (i : ℕ) → tests_of (names_of s) ps i ≡ tests_of (names_of s) (children_of (process_of s k)) i
    tests_of_lem i = sym (ap (λ ps. tests_of (names_of s) ps i) q)

    writes_of_lem : (j : ℕ) → writes_of (names_of s) ps j ≡ writes_of (names_of s) (children_of (process_of s k)) j
    writes_of_lem j = sym (ap (λ ps. writes_of (names_of s) ps j) q)

    pair_of_lem :
        (n i j : ℕ) → pair_of (names_of s) n ps i j ≡ pair_of (names_of s) n (children_of (process_of s k)) i j
    pair_of_lem n i j = sym (ap (λ ps. pair_of (names_of s) n ps i j) q)

    must_of_lem :
        {before after : List ℕ} → Adds before (must_of (names_of s) ps) after →
        Adds before (must_of (names_of s) (children_of (process_of s k))) after
    must_of_lem {before} {after} h = subst (λ ps. Adds before (must_of (names_of s) ps) after) (sym q) h

  pub none_leaves :
      AreChildren p None → {before after : List ℕ} {r : Effects} →
      PartLeaves p.kind own (record { tested = 0; written = 0 }) before after r →
      FlowsAt s k before after r
  none_leaves a h =
      let q = no_children f at a in
      process_leaves kind_is (brings k at) (λ i l. has_zero i ∙ tests_of_lem [] q i)
      (λ j l. has_zero j ∙ writes_of_lem [] q j)
      (λ i j hi hj. pair_of_lem [] q p.kind i j)
      (must_of_lem [] q adds_none)
      h

  pub one_leaves :
      {i : ℕ} → AreChildren p (One i) → {before middle after : List ℕ} {first r : Effects} →
      FlowsAt s i before middle first → PartLeaves p.kind own first middle after r →
      FlowsAt s k before after r
  one_leaves a first h =
      let q = one_child f at a in
      process_leaves kind_is (brings k at) (λ i l. first.tested i l ∙ tests_of_lem _ q i)
      (λ j l. first.written j l ∙ writes_of_lem _ q j)
      (λ i j hi hj. pair_of_lem _ q p.kind i j)
      (must_of_lem _ q first.flows)
      h

  pub two_leaves :
      {i j : ℕ} → AreChildren p (Two i j) → {before middle later after : List ℕ} {first second r : Effects} →
      FlowsAt s i before middle first → FlowsAt s j middle later second →
      PairLeaves p.kind own first second later after r → FlowsAt s k before after r
  two_leaves {i = x} {j = y} children {first = first} {second} a b h =
      let q = two_children f at children in
      process_leaves kind_is (brings k at) {pair = pair_flows p.kind first second}
      (λ i l. ap₂ ◌||◌ (a.tested i l) (b.tested i l) ∙ tests_of_lem _ q i)
      (λ j l. ap₂ ◌||◌ (a.written j l) (b.written j l) ∙ writes_of_lem _ q j)
      (λ i j hi hj.
      ap₂ (λ t w. pair_by p.kind t w (has second.tested i) (has second.written j)) (a.tested i hi) (a.written j hj)
      ∙ ap₂ (pair_by p.kind (tests (names_of s) (process_of s x) i) (writes (names_of s) (process_of s x) j)) (b.tested i hi)
      (b.written j hj)
      ∙ pair_of_lem _ q p.kind i j)
      (must_of_lem _ q (adds_more a.flows b.flows))
      h
