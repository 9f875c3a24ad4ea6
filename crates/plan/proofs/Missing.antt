-- A child that a node of a checked file has not: its entry has 0 there.
use mathlib.Core.Path.{◌≡◌, refl, sym, ◌∙◌}
use mathlib.Core.List.{List}
use Prim.Native.Nat.{ℕ, ◌<◌}
use native.Mathlib.Omega.{arith}
use borrow.Author.Tests.{eqb-true}
use Rattle.prelude.proofs.Each.{row_of_lem, done, ◌then◌}
use Rattle.layout.specs.declared.parts.Part.{Part}
use Rattle.layout.specs.Layout.{node_count}
use Rattle.layout.specs.Entries.{part_of, node}
use Rattle.fields.specs.declared.roles.Role.TheVariants.{Unused}
use Rattle.fields.specs.Roles.{node_rows, role_in}
use Rattle.fields.specs.Fields.{field_of}
use Rattle.fields.specs.Children.{child_count, first_child, second_child}
use Rattle.entries.proofs.Holding.{right_field, holds_unused}
use Rattle.script.specs.Checked.{Checked}
use Rattle.tree.proofs.Views.{role, kind_below}
use Rattle.tree.proofs.Shapes.{first_in, second_in, first_is, second_is}

module _ (s : List ℕ) (ok : Checked s) (k : ℕ) (h : k < node_count s) where
  abbrev entry : Part
  entry = part_of s (node s k)

  empty : (n : ℕ) → entry.kind ≡ n → role_in node_rows n 2 ≡ Unused → entry.c ≡ 0
  empty n e u =
      eqb-true _ _
      (sym (holds_unused s (node s k) (field_of s (node s k) 2) (role s ok k h n e 2 ∙ u))
      ∙ right_field s ok.joined.sound (node s k) 2 (omega arith) (omega arith))

  -- of a node of kind n: no child, and no second
  abbrev Missing : ℕ → Type 0
  Missing n =
      entry.kind ≡ n → (child_count n ≡ 0 → first_in s k n ≡ 0) × (child_count n < 2 → second_in s k n ≡ 0)

  missing : Missing entry.kind
  missing =
      row_of_lem {P = Missing}
      ((λ e. ((λ _. empty 0 e refl), (λ _. refl)))
      then (λ e. ((λ _. empty 1 e refl), (λ _. refl)))
      then (λ e. ((λ z. omega (arith, z)), (λ _. refl)))
      then (λ e. ((λ z. omega (arith, z)), (λ z. omega (arith, z))))
      then (λ e. ((λ z. omega (arith, z)), (λ _. empty 4 e refl)))
      then (λ e. ((λ z. omega (arith, z)), (λ z. omega (arith, z))))
      then (λ e. ((λ _. empty 6 e refl), (λ _. refl)))
      then (λ e. ((λ z. omega (arith, z)), (λ _. empty 7 e refl)))
      then (λ e. ((λ z. omega (arith, z)), (λ _. empty 8 e refl)))
      then (λ e. ((λ z. omega (arith, z)), (λ _. empty 9 e refl)))
      then (λ e. ((λ z. omega (arith, z)), (λ z. omega (arith, z))))
      then done)
      entry.kind
      (kind_below s ok k h)

  pub no_first : child_count entry.kind ≡ 0 → 0 ≡ first_child entry
  no_first z = sym ((missing refl).0 z) ∙ first_is s k entry.kind refl

  pub no_second : child_count entry.kind < 2 → 0 ≡ second_child entry
  no_second z = sym ((missing refl).1 z) ∙ second_is s k entry.kind refl
