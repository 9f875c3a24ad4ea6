-- A node of a checked file: its kind is that of its process, and its children are those of its process.
use mathlib.Core.Path.{◌≡◌, refl, sym, ap, ap₂, ◌∙◌, subst}
use mathlib.Core.Bool.{true, false, cond, false≢true}
use mathlib.Core.List.{List, [], ◌∷◌}
use mathlib.Core.Logic.{◌⊎◌, inl, inr, ⊎_elim}
use Prim.Native.Nat.{ℕ, ◌<◌}
use native.Mathlib.Omega.{arith}
use Rattle.prelude.proofs.Each.{row_of_lem, done, ◌then◌}
use Rattle.layout.specs.declared.parts.Part.{Part}
use Rattle.layout.specs.Layout.{node_count}
use Rattle.fields.specs.declared.roles.Role.TheVariants.{Child}
use Rattle.fields.specs.Roles.{node_rows, role_in, is_child}
use Rattle.fields.specs.Children.{child_count, first_child, second_child}
use Rattle.fields.specs.Fields.{field_count, field_of, value_of}
use Rattle.scope.specs.Promises.{FieldUses}
use Rattle.layout.specs.Entries.{part_of, node}
use Rattle.tree.specs.Tree.{process_of}
use Rattle.script.specs.Checked.{Checked}
use Rattle.tree.proofs.Views.{NodeView, a_nil, an_assign, a_let, an_if, a_while, a_sequence, an_emit, a_local, a_watching, a_when, a_parallel, node_view, role}
use Rattle.language.specs.KindGroups.{kind_of, children_of}

module _ (s : List ℕ) (k : ℕ) where
  abbrev part : Part
  part = part_of s (node s k)

  -- the children of a node, by how many it has
  pub data Children : Type 0 where
    none : child_count part.kind ≡ 0 → children_of (process_of s k) ≡ [] → Children
    one :
        {f : ℕ} → child_count part.kind ≡ 1 → children_of (process_of s k) ≡ process_of s (first_child part) ∷ [] →
        FieldUses s (node s k) f (node s (first_child part)) → Children
    two :
        {f g : ℕ} → child_count part.kind ≡ 2 →
        children_of (process_of s k) ≡ process_of s (first_child part) ∷ (process_of s (second_child part) ∷ []) →
        FieldUses s (node s k) f (node s (first_child part)) → FieldUses s (node s k) g (node s (second_child part)) →
        Children

  -- the children of a node of kind n
  abbrev pub first_in : ℕ → ℕ
  first_in n =
      cond (is_child (role_in node_rows n 0)) part.a (cond (is_child (role_in node_rows n 1)) part.b part.c)

  abbrev pub second_in : ℕ → ℕ
  second_in n = cond (is_child (role_in node_rows n 0)) part.b (cond (is_child (role_in node_rows n 1)) part.c 0)

  module _ (n : ℕ) (e : part.kind ≡ n) where
    pub first_is : first_in n ≡ first_child part
    unfolding first_child
    first_is = sym (rw e)

    pub second_is : second_in n ≡ second_child part
    unfolding second_child
    second_is = sym (rw e)

    has_none : child_count n ≡ 0 → children_of (process_of s k) ≡ [] → Children
    has_none h q = none (ap child_count e ∙ h) q

    has_one :
        {f : ℕ} → child_count n ≡ 1 → children_of (process_of s k) ≡ process_of s (first_in n) ∷ [] →
        FieldUses s (node s k) f (node s (first_in n)) → Children
    has_one {f} h q b =
        one (ap child_count e ∙ h) (q ∙ ap (λ j. process_of s j ∷ []) first_is)
        (subst (λ j. FieldUses s (node s k) f (node s j)) first_is b)

    has_two :
        {f g : ℕ} → child_count n ≡ 2 →
        children_of (process_of s k) ≡ process_of s (first_in n) ∷ (process_of s (second_in n) ∷ []) →
        FieldUses s (node s k) f (node s (first_in n)) → FieldUses s (node s k) g (node s (second_in n)) → Children
    has_two {f} {g} h q b d =
        two (ap child_count e ∙ h) (q ∙ ap₂ (λ i j. process_of s i ∷ (process_of s j ∷ [])) first_is second_is)
        (subst (λ j. FieldUses s (node s k) f (node s j)) first_is b)
        (subst (λ j. FieldUses s (node s k) g (node s j)) second_is d)

  children_view : NodeView s k → Children
  unfolding children_of
  children_view (a_nil e q) = has_none 0 e refl (ap children_of q)
  children_view (an_assign e q x y) = has_none 1 e refl (ap children_of q)
  children_view (a_let e q x y p) = has_one 2 e refl (ap children_of q) p.field
  children_view (an_if e q y p r) = has_two 3 e refl (ap children_of q) p.field r.field
  children_view (a_while e q y p) = has_one 4 e refl (ap children_of q) p.field
  children_view (a_sequence e q p r) = has_two 5 e refl (ap children_of q) p.field r.field
  children_view (an_emit e q x) = has_none 6 e refl (ap children_of q)
  children_view (a_local e q x p) = has_one 7 e refl (ap children_of q) p.field
  children_view (a_watching e q x p) = has_one 8 e refl (ap children_of q) p.field
  children_view (a_when e q x p) = has_one 9 e refl (ap children_of q) p.field
  children_view (a_parallel e q p r) = has_two 10 e refl (ap children_of q) p.field r.field

  -- children have smaller numbers
  pub first_below : Children → (child_count part.kind ≡ 0 → ⊥) → first_child part < k
  first_below (none n q) m = absurd (m n)
  first_below (one n q a) m = omega (arith, a.before)
  first_below (two n q a b) m = omega (arith, a.before)

  pub second_below : Children → (child_count part.kind ≡ 0 → ⊥) → (child_count part.kind ≡ 1 → ⊥) → second_child part < k
  second_below (none n q) l m = absurd (l n)
  second_below (one n q a) l m = absurd (m n)
  second_below (two n q a b) l m = omega (arith, b.before)

  kind_view : NodeView s k → part.kind ≡ kind_of (process_of s k)
  unfolding kind_of
  kind_view (a_nil e q) = e ∙ sym (ap kind_of q)
  kind_view (an_assign e q x y) = e ∙ sym (ap kind_of q)
  kind_view (a_let e q x y p) = e ∙ sym (ap kind_of q)
  kind_view (an_if e q y p r) = e ∙ sym (ap kind_of q)
  kind_view (a_while e q y p) = e ∙ sym (ap kind_of q)
  kind_view (a_sequence e q p r) = e ∙ sym (ap kind_of q)
  kind_view (an_emit e q x) = e ∙ sym (ap kind_of q)
  kind_view (a_local e q x p) = e ∙ sym (ap kind_of q)
  kind_view (a_watching e q x p) = e ∙ sym (ap kind_of q)
  kind_view (a_when e q x p) = e ∙ sym (ap kind_of q)
  kind_view (a_parallel e q p r) = e ∙ sym (ap kind_of q)

module _ (s : List ℕ) (ok : Checked s) (k : ℕ) (h : k < node_count s) where
  pub children : Children s k
  children = children_view s k (node_view s ok k h)

  -- value v is the first or the second child
  abbrev pub IsChild : ℕ → Type 0
  IsChild v =
      ((0 < child_count (part_of s (node s k)).kind) × (first_child (part_of s (node s k)) ≡ v))
      ⊎ ((1 < child_count (part_of s (node s k)).kind) × (second_child (part_of s (node s k)) ≡ v))

  -- .. by the kind
  abbrev IsChildIn : ℕ → ℕ → Type 0
  IsChildIn n v = ((0 < child_count n) × (first_in s k n ≡ v)) ⊎ ((1 < child_count n) × (second_in s k n ≡ v))

  abbrev FieldIs : ℕ → ℕ → Type 0
  FieldIs n f = is_child (role_in node_rows n f) ≡ true → IsChildIn n (value_of s (node s k) f)

  by_fields :
      (n : ℕ) → (part_of s (node s k)).kind ≡ n → FieldIs n 0 → FieldIs n 1 → FieldIs n 2 → (f : ℕ) → f < field_count →
      (field_of s (node s k) f).role ≡ Child → IsChild (field_of s (node s k) f).value
  by_fields n e a b c f l r =
      ⊎_elim
      (λ w. inl (omega (arith, w.0, ap child_count e), sym (first_is s k n e) ∙ w.1))
      (λ w. inr (omega (arith, w.0, ap child_count e), sym (second_is s k n e) ∙ w.1))
      (row_of_lem {P = FieldIs n} (a then b then c then done) f l (ap is_child (sym (role s ok k h n e f) ∙ r)))

  never : {M : Type 0} → false ≡ true → M
  never e = absurd (false≢true e)

  child_view :
      NodeView s k → (f : ℕ) → f < field_count → (field_of s (node s k) f).role ≡ Child →
      IsChild (field_of s (node s k) f).value
  child_view (a_nil e q) = by_fields 0 e never never never
  child_view (an_assign e q x y) = by_fields 1 e never never never
  child_view (a_let e q x y p) = by_fields 2 e never never (λ _. inl (omega arith, refl))
  child_view (an_if e q y p r) = by_fields 3 e never (λ _. inl (omega arith, refl)) (λ _. inr (omega arith, refl))
  child_view (a_while e q y p) = by_fields 4 e never (λ _. inl (omega arith, refl)) never
  child_view (a_sequence e q p r) = by_fields 5 e (λ _. inl (omega arith, refl)) (λ _. inr (omega arith, refl)) never
  child_view (an_emit e q x) = by_fields 6 e never never never
  child_view (a_local e q x p) = by_fields 7 e never (λ _. inl (omega arith, refl)) never
  child_view (a_watching e q x p) = by_fields 8 e never (λ _. inl (omega arith, refl)) never
  child_view (a_when e q x p) = by_fields 9 e never (λ _. inl (omega arith, refl)) never
  child_view (a_parallel e q p r) = by_fields 10 e (λ _. inl (omega arith, refl)) (λ _. inr (omega arith, refl)) never

  -- a field that holds a child holds the first or the second
  pub child_field :
      (f : ℕ) → f < field_count → (field_of s (node s k) f).role ≡ Child → IsChild (field_of s (node s k) f).value
  child_field = child_view (node_view s ok k h)

  pub kind_is : (part_of s (node s k)).kind ≡ kind_of (process_of s k)
  kind_is = kind_view s k (node_view s ok k h)
