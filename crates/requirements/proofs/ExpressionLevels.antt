-- The register levels of an expression of a checked file, by its kind.
use mathlib.Core.Path.{◌≡◌, sym, ap, ap₂, ◌∙◌}
use mathlib.Core.Bool.{Bool, false, ◌||◌}
use mathlib.Core.List.{List}
use Prim.Native.Nat.{ℕ, ◌<◌}
use native.Mathlib.Omega.{arith}
use Rattle.prelude.specs.Sets.{has, IsSet}
use Rattle.prelude.proofs.Sets.{has_zero}
use Rattle.book.specs.LevelBook.{most_levels}
use Rattle.language.specs.RequiredFlows.{is_level, reads}
use Rattle.layout.specs.declared.parts.Part.{Part}
use Rattle.layout.specs.Entries.{part_of}
use Rattle.layout.proofs.Layouts.{names_are, expressions_are}
use Rattle.tree.specs.Tree.{names_of, expression_of}
use Rattle.tree.proofs.Views.{ExpressionView, expression-view}
use Rattle.tree.proofs.ExpressionKinds.{constant_is, register_is, operand_is, negated_is, binary_is}
use Rattle.language.specs.declared.expression_kinds.ExpressionKind.{ExpressionKind}
use Rattle.language.specs.declared.expression_kinds.ExpressionKind.TheVariants.{Constant, Register, Not}
use Rattle.language.specs.KindNumbers.{expression_number}
use Rattle.language.proofs.KindNumbers.{expression_kind_is}
use Rattle.requirements.specs.declared.levelled.LevelledScript.{LevelledScript}
use Rattle.requirements.specs.Promises.{LevelAt, LevelsAt}

-- the set of no level, and the levels of names
pub nothing : IsSet most_levels (λ i. false) 0
nothing i h = has_zero i

-- what is known where expression e has been read: its part
pub record ReadExpression (f : LevelledScript) (e : ℕ) (p : Part) : Type 0 where
  pub known : e < f.checked.file.layout.expressions
  pub same : p ≡ part_of f.checked.file.bytes.now e

module _ {f : LevelledScript} {e : ℕ} {p : Part} (read : ReadExpression f e p) where
  abbrev s : List ℕ
  s = f.checked.file.bytes.now

  view : ExpressionView s e
  view = expression-view s f.checked.checked e (omega (arith, read.known, expressions_are f.checked.file.laid))

  kind_is : (part_of s e).kind ≡ p.kind
  kind_is = ap (λ q. q.kind) (sym read.same)

  a_is : p.a ≡ (part_of s e).a
  a_is = ap (λ q. q.a) read.same

  b_is : p.b ≡ (part_of s e).b
  b_is = ap (λ q. q.b) read.same

  -- the levels of an expression that is known to be this one
  abbrev levels : ℕ → ℕ → Bool
  levels k i = reads (names_of s) (expression_of s k) i

  pub at_constant : 0 ≡ p.kind → LevelsAt s e 0
  unfolding reads
  at_constant n i h =
      has_zero i ∙ sym (ap (λ x. reads (names_of s) x i) (constant_is s e view (kind_is ∙ sym n)).1)

  module _ (n : 1 ≡ p.kind) where
    pub register_known : p.a < f.checked.file.layout.names
    register_known = omega (arith, (register_is s e view (kind_is ∙ sym n)).0.known, a_is, names_are f.checked.file.laid)

    pub at_register : (set : ℕ) → LevelAt s p.a set → LevelsAt s e set
    unfolding reads
    at_register set one i h =
        one i h ∙ ap (λ x. is_level (names_of s) x i) a_is
        ∙ sym (ap (λ x. reads (names_of s) x i) (register_is s e view (kind_is ∙ sym n)).1)

  module _ (n : 8 ≡ p.kind) where
    pub negated_known : (p.a < e) × (p.a < f.checked.file.layout.expressions)
    negated_known =
        let u = operand_is s e view (λ k. omega (arith, kind_is)) (λ k. omega (arith, kind_is)) in
        (omega (arith, u.part.before, a_is), omega (arith, u.known, a_is, expressions_are f.checked.file.laid))

    pub at_negated : (set : ℕ) → LevelsAt s p.a set → LevelsAt s e set
    unfolding reads
    at_negated set a i h =
        a i h ∙ ap (λ k. levels k i) a_is
        ∙ sym (ap (λ x. reads (names_of s) x i) (negated_is s e view (kind_is ∙ sym n)))

  -- none of the kinds with fewer operands
  module _
      (k : ExpressionKind) (n : expression_number k ≡ p.kind) (m₀ : k ≡ Constant → ⊥) (m₁ : k ≡ Register → ⊥)
      (m₈ : k ≡ Not → ⊥) where
    is_not : (other : ExpressionKind) → (k ≡ other → ⊥) → (part_of s e).kind ≡ expression_number other → ⊥
    is_not other m q = m (expression_kind_is k other (n ∙ sym kind_is ∙ q))

    pub first_operand : (p.a < e) × (p.a < f.checked.file.layout.expressions)
    first_operand =
        let u = operand_is s e view (is_not Constant m₀) (is_not Register m₁) in
        (omega (arith, u.part.before, a_is), omega (arith, u.known, a_is, expressions_are f.checked.file.laid))

    pub second_operand : (p.b < e) × (p.b < f.checked.file.layout.expressions)
    second_operand =
        let u = (binary_is s e view (is_not Constant m₀) (is_not Register m₁) (is_not Not m₈)).0 in
        (omega (arith, u.part.before, b_is), omega (arith, u.known, b_is, expressions_are f.checked.file.laid))

    pub at_binary :
        (left right set : ℕ) → LevelsAt s p.a left → LevelsAt s p.b right →
        IsSet most_levels (λ i. has left i || has right i) set → LevelsAt s e set
    unfolding reads
    at_binary left right set a b union i h =
        let q = (binary_is s e view (is_not Constant m₀) (is_not Register m₁) (is_not Not m₈)).1.1 in
        union i h
        ∙ ap₂ ◌||◌ (a i h ∙ ap (λ k. levels k i) a_is) (b i h ∙ ap (λ k. levels k i) b_is)
        ∙ sym (ap (λ x. reads (names_of s) x i) q)
