-- The children of a node of a checked file, where its part has been read: they come before it, and are those of its process.
use mathlib.Core.Path.{◌≡◌, sym, ap, ap₂, ◌∙◌}
use mathlib.Core.List.{List, [], ◌∷◌}
use Prim.Native.Nat.{ℕ, ◌+◌, ◌<◌}
use native.Mathlib.Omega.{arith}
use Rattle.layout.specs.declared.parts.Part.{Part}
use Rattle.layout.specs.Entries.{part_of, node}
use Rattle.layout.proofs.Layouts.{expressions_are, nodes_are}
use Rattle.fields.specs.Children.{AreChildren, first_child, second_child, child_count}
use Rattle.fields.specs.declared.children.Children.TheVariants.{None, One, Two}
use Rattle.language.specs.Syntax.{Proc}
use Rattle.language.specs.KindGroups.{kind_of, children_of}
use Rattle.language.specs.declared.process_kinds.ProcessKind.{ProcessKind}
use Rattle.language.specs.KindNumbers.{process_number}
use Rattle.script.specs.declared.CheckedFile.{CheckedFile}
use Rattle.tree.specs.Promises.{IsNodeAt}
use Rattle.tree.specs.Tree.{process_of}
use Rattle.tree.proofs.Shapes as shapes
use Rattle.tree.proofs.Shapes.{Children, none, one, two, children, kind_is}

-- the part after the expressions and k nodes is that of node k
pub node_read :
    (f : CheckedFile) {k : ℕ} {kind : ProcessKind} {p : Part} → k < f.file.layout.nodes →
    p ≡ part_of f.file.bytes.now (f.file.layout.expressions + k) → process_number kind ≡ p.kind →
    IsNodeAt f.file.bytes.now kind p k
node_read f {k} known same kinded =
    record {
      known = omega (arith, known, nodes_are f.file.laid);
      same = same ∙ ap (λ e. part_of f.file.bytes.now (e + k)) (expressions_are f.file.laid);
      kinded = kinded;
    }

module _ (f : CheckedFile) {k : ℕ} {kind : ProcessKind} {p : Part} (at : IsNodeAt f.file.bytes.now kind p k) where
  abbrev s : List ℕ
  s = f.file.bytes.now

  pub shape : Children s k
  shape = children s f.checked k at.known

  pub count_is : child_count (part_of s (node s k)).kind ≡ child_count p.kind
  count_is = sym (ap (λ p. child_count p.kind) at.same)

  pub first_same : {i : ℕ} → i ≡ first_child p → i ≡ first_child (part_of s (node s k))
  first_same e = e ∙ ap first_child at.same

  pub second_same : {j : ℕ} → j ≡ second_child p → j ≡ second_child (part_of s (node s k))
  second_same e = e ∙ ap second_child at.same

  pub number_is : process_number kind ≡ (part_of s (node s k)).kind
  number_is = at.kinded ∙ ap (λ p. p.kind) at.same

  pub kind_of_node : process_number kind ≡ kind_of (process_of s k)
  kind_of_node = number_is ∙ kind_is s f.checked k at.known

  -- a node before k
  abbrev pub Before : ℕ → Type 0
  Before j = (j < k) × (j < f.file.layout.nodes)

  before : (j : ℕ) → j < k → Before j
  before j h = (h, omega (arith, h, at.known, nodes_are f.file.laid))

  pub one_before : {i : ℕ} → AreChildren p (One i) → Before i
  one_before {i} a =
      before i (omega (arith, first_same a.1, shapes.first_below s k shape (λ z. omega (arith, z, count_is, a.0))))

  pub first_before : {i j : ℕ} → AreChildren p (Two i j) → Before i
  first_before {i} a =
      before i (omega (arith, first_same a.1.0, shapes.first_below s k shape (λ z. omega (arith, z, count_is, a.0))))

  pub second_before : {i j : ℕ} → AreChildren p (Two i j) → Before j
  second_before {j = j} a =
      before j
      (omega (
        arith,
        second_same a.1.1,
        shapes.second_below s k shape (λ z. omega (arith, z, count_is, a.0)) (λ z. omega (arith, z, count_is, a.0)),
      ))

  pub no_children : AreChildren p None → children_of (process_of s k) ≡ []
  no_children a = go shape
    where
      go : Children s k → children_of (process_of s k) ≡ []
      go (none n q) = q
      go (one n q u) = absurd (omega (arith, n, count_is, a))
      go (two n q u v) = absurd (omega (arith, n, count_is, a))

  pub one_child : {i : ℕ} → AreChildren p (One i) → children_of (process_of s k) ≡ process_of s i ∷ []
  one_child {i} a = go shape
    where
      go : Children s k → children_of (process_of s k) ≡ process_of s i ∷ []
      go (none n q) = absurd (omega (arith, n, count_is, a.0))
      go (one n q u) = q ∙ ap (λ i. process_of s i ∷ []) (sym (first_same a.1))
      go (two n q u v) = absurd (omega (arith, n, count_is, a.0))

  pub two_children :
      {i j : ℕ} → AreChildren p (Two i j) → children_of (process_of s k) ≡ process_of s i ∷ (process_of s j ∷ [])
  two_children {i} {j} a = go shape
    where
      go : Children s k → children_of (process_of s k) ≡ process_of s i ∷ (process_of s j ∷ [])
      go (none n q) = absurd (omega (arith, n, count_is, a.0))
      go (one n q u) = absurd (omega (arith, n, count_is, a.0))
      go (two n q u v) =
          q ∙ ap₂ (λ i j. process_of s i ∷ (process_of s j ∷ [])) (sym (first_same a.1.0)) (sym (second_same a.1.1))
