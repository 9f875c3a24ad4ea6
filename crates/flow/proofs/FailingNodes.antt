-- The failing nodes in a node: those in its children, and the node itself if its own need fails.
use mathlib.Core.Path.{◌≡◌, refl, sym, ap, ◌∙◌, subst}
use mathlib.Core.Bool.{true, false, true≢false}
use mathlib.Core.List.{List}
use mathlib.Core.Logic.{◌⊎◌, inl, inr, ⊎_elim}
use Prim.Native.Nat.{ℕ, ◌≤◌, ◌<◌}
use native.Mathlib.Omega.{arith}
use lib.Dec.{ltb}
use borrow.Author.Tests.{ltb-true}
use Rattle.prelude.specs.Search.{lesser}
use Rattle.prelude.proofs.Bools.{and_left}
use Rattle.layout.specs.declared.parts.Part.{Part}
use Rattle.layout.specs.Layout.{expression_count, node_count}
use Rattle.layout.specs.Entries.{part_of, node}
use Rattle.layout.proofs.Layouts.{few_parts}
use Rattle.fields.specs.declared.Field.{Field}
use Rattle.fields.specs.declared.roles.Role.TheVariants.{Child}
use Rattle.fields.specs.Fields.{field_of}
use Rattle.fields.specs.Children.{first_child, second_child, child_count}
use Rattle.entries.proofs.Holding.{holds_expression, right_field}
use Rattle.uses.proofs.Used.{used_of, used_by_role}
use Rattle.scope.specs.Reach.{lies_in}
use Rattle.scope.specs.Promises.{FieldUses}
use Rattle.scope.proofs.Reaching.{lies_self, lies_deeper, lies_cases, lies_below}
use Rattle.script.specs.Checked.{Checked}
use Rattle.lattice.specs.Lattice.{Lattice}
use Rattle.flow.specs.Flow.{Smallest, FailsIn}
use Rattle.flow.specs.Needs.{need_at}
use Rattle.flow.proofs.Least.{smallest_same, smallest_either}
use Rattle.tree.proofs.Shapes.{Children, none, one, two, children, child_field}

module _ (s : List ℕ) (k : ℕ) where
  abbrev part : Part
  part = part_of s (node s k)

  -- node j lies in a child of k
  abbrev pub Below : ℕ → Type 0
  Below j =
      ((0 < child_count part.kind) × (lies_in s (node s j) (node s (first_child part)) ≡ true))
      ⊎ ((1 < child_count part.kind) × (lies_in s (node s j) (node s (second_child part)) ≡ true))

  abbrev pub FailsBelow : Lattice ℕ → ℕ → Type 0
  FailsBelow 𝓛 j = Below j × (need_at 𝓛 s j ≡ false)

  in_first :
      (q : ℕ) → Children s k → 0 < child_count part.kind → lies_in s q (node s (first_child part)) ≡ true →
      lies_in s q (node s k) ≡ true
  in_first q (none n e) h t = absurd (omega arith)
  in_first q (one n e a) h t = lies_deeper s q a t
  in_first q (two n e a b) h t = lies_deeper s q a t

  in_second :
      (q : ℕ) → Children s k → 1 < child_count part.kind → lies_in s q (node s (second_child part)) ≡ true →
      lies_in s q (node s k) ≡ true
  in_second q (none n e) h t = absurd (omega arith)
  in_second q (one n e a) h t = absurd (omega arith)
  in_second q (two n e a b) h t = lies_deeper s q b t

module _ (s : List ℕ) (ok : Checked s) (k : ℕ) (h : k < node_count s) where
  -- a field that uses a node holds a child
  is_child_lem :
      {f u : ℕ} → FieldUses s (node s k) f u → expression_count s ≤ u →
      ((field_of s (node s k) f).role ≡ Child) × (u ≡ node s (field_of s (node s k) f).value)
  is_child_lem {f} {u} w l =
      let x : Field = field_of s (node s k) f in
      let right = right_field s ok.joined.sound (node s k) f w.known w.inside in
      used_by_role (λ v. v ≡ u → (x.role ≡ Child) × (u ≡ node s x.value)) (expression_count s) x
      (λ e v.
      absurd
      (omega (
        arith,
        ltb-true x.value (expression_count s)
            (and_left (ltb x.value (expression_count s)) _ (sym (holds_expression s (node s k) x e) ∙ right)),
      )))
      (λ e v. (e, sym v))
      (λ v. absurd (omega (arith, w.known, w.before, few_parts ok.laid)))
      (sym (used_of s (node s k) f) ∙ w.same)

  pub node_cases : (j : ℕ) → lies_in s (node s j) (node s k) ≡ true → (k ≡ j) ⊎ Below s k j
  node_cases j t =
      lies_cases s (node s j) (node s k) (omega arith) t (λ e. inl (omega arith))
      (λ f u w v.
      let c = is_child_lem w (omega (arith, lies_below s (node s j) u (omega (arith, w.before)) v)) in
      let inside = subst (λ u. lies_in s (node s j) u ≡ true) c.1 v in
      inr
      (⊎_elim (λ e. inl (e.0, subst (λ i. lies_in s (node s j) (node s i) ≡ true) (sym e.1) inside))
      (λ e. inr (e.0, subst (λ i. lies_in s (node s j) (node s i) ≡ true) (sym e.1) inside))
      (child_field s ok k h f w.inside c.0)))

  node_below : (j : ℕ) → Below s k j → lies_in s (node s j) (node s k) ≡ true
  node_below j =
      ⊎_elim (λ w. in_first s k (node s j) (children s ok k h) w.0 w.1)
      (λ w. in_second s k (node s j) (children s ok k h) w.0 w.1)

-- node k among the failing ones
module _
    (𝓛 : Lattice ℕ) (s : List ℕ) (ok : Checked s) (k : ℕ) (h : k < node_count s) (f : ℕ)
    (w : Smallest (FailsBelow s k 𝓛) (node_count s) f) where
  pub passes : need_at 𝓛 s k ≡ true → Smallest (FailsIn 𝓛 s k) (node_count s) f
  passes e =
      smallest_same (FailsBelow s k 𝓛) (node_count s) (FailsIn 𝓛 s k) f
      (λ j u. (node_below s ok k h j u.0, u.1))
      (λ j u.
      ⊎_elim (λ q. absurd (true≢false (sym e ∙ ap (need_at 𝓛 s) q ∙ u.1))) (λ b. (b, u.1))
      (node_cases s ok k h j u.0))
      w

  only : Smallest (λ j. k ≡ j) (node_count s) k
  only = record { within = omega arith; holds = λ _. refl; least = λ j e. omega arith }

  pub fails : need_at 𝓛 s k ≡ false → Smallest (FailsIn 𝓛 s k) (node_count s) (lesser k f)
  fails e =
      smallest_same (λ j. (k ≡ j) ⊎ FailsBelow s k 𝓛 j) (node_count s) (FailsIn 𝓛 s k) (lesser k f)
      (λ j.
      ⊎_elim (λ q. subst (FailsIn 𝓛 s k) q (lies_self s (node s k), e))
      (λ u. (node_below s ok k h j u.0, u.1)))
      (λ j u. ⊎_elim inl (λ b. inr (b, u.1)) (node_cases s ok k h j u.0))
      (smallest_either (λ j. k ≡ j) (node_count s) (FailsBelow s k 𝓛) k f only w)
