-- A watching stands in a node that is one, and in a node with a child in which one stands: so the words of the nodes before
-- a node tell it.
use mathlib.Core.Path.{◌≡◌, refl, sym, ap, ap₂, ◌∙◌}
use mathlib.Core.Bool.{Bool, false, ◌||◌}
use mathlib.Core.List.{List, [], ◌∷◌}
use Prim.Native.Nat.{ℕ, ◌<◌}
use native.Mathlib.Omega.{arith}
use lib.Dec.{eqb}
use Rattle.language.specs.Syntax.{Proc, nil, assign, let_in, if_then_else, while, sequence, emit, local, watching, when, parallel}
use Rattle.language.specs.KindGroups.{kind_of, children_of}
use Rattle.language.specs.Shapes.{watches}
use Rattle.language.specs.declared.process_kinds.ProcessKind.{ProcessKind}
use Rattle.language.specs.KindNumbers.{process_number}
use Rattle.layout.specs.declared.parts.Part.{Part}
use Rattle.layout.specs.Layout.{most_nodes}
use Rattle.layout.proofs.Layouts.{few_bounds}
use Rattle.fields.specs.declared.children.Children.{Children}
use Rattle.fields.specs.declared.children.Children.TheVariants.{None, One, Two}
use Rattle.fields.specs.Children.{AreChildren}
use Rattle.script.specs.declared.CheckedFile.{CheckedFile}
use Rattle.tree.specs.Promises.{IsNodeAt}
use Rattle.tree.specs.Tree.{process_of}
use Rattle.tree.proofs.NodeChildren.{kind_of_node, Before, one_before, first_before, second_before, no_children, one_child, two_children}
use Rattle.plan.specs.Plan.{Below, child_watches, watches_by, KeepsNodes}

-- one stands in a child
abbrev any_watches : List (Proc ℕ) → Bool
any_watches [] = false
any_watches (p ∷ []) = watches p
any_watches (p ∷ (q ∷ r)) = watches p || watches q

watches_by_kind : (p : Proc ℕ) → (eqb (kind_of p) 8 || any_watches (children_of p)) ≡ watches p
unfolding kind_of children_of watches
watches_by_kind nil = refl
watches_by_kind (assign x e) = refl
watches_by_kind (let_in x δ e p) = refl
watches_by_kind (if_then_else e p q) = refl
watches_by_kind (while e p) = refl
watches_by_kind (sequence p q) = refl
watches_by_kind (emit a) = refl
watches_by_kind (local a δ p) = refl
watches_by_kind (watching a p) = refl
watches_by_kind (when a p) = refl
watches_by_kind (parallel p q) = refl

module _ (f : CheckedFile) {k : ℕ} {kind : ProcessKind} {p : Part} (at : IsNodeAt f.file.bytes.now kind p k) where
  abbrev s : List ℕ
  s = f.file.bytes.now

  below : {i : ℕ} → Before f at i → i < most_nodes
  below b = omega (arith, b.1, few_bounds f.file.layout f.file.laid.few)

  pub each_below : (r : Children) → AreChildren p r → Below r
  each_below None a = tt
  each_below (One i) a = below (one_before f at a)
  each_below (Two i j) a = (below (first_before f at a), below (second_before f at a))

  module _ (words : List ℕ) (keeps : KeepsNodes s k words) where
    told : (r : Children) → AreChildren p r → child_watches words r ≡ any_watches (children_of (process_of s k))
    told None a = sym (ap any_watches (no_children f at a))
    told (One i) a = (keeps i (one_before f at a).0).watches ∙ sym (ap any_watches (one_child f at a))
    told (Two i j) a =
        ap₂ (λ a b. a || b) (keeps i (first_before f at a).0).watches (keeps j (second_before f at a).0).watches
        ∙ sym (ap any_watches (two_children f at a))

    pub watches_told : (r : Children) → AreChildren p r → watches_by words (process_number kind) r ≡ watches (process_of s k)
    watches_told r a =
        ap₂ (λ n b. eqb n 8 || b) (kind_of_node f at) (told r a) ∙ watches_by_kind (process_of s k)
