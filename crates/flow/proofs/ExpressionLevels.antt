-- The level of an expression of a checked file, by its kind.
use mathlib.Core.Path.{◌≡◌, sym, ap, ap₂, ◌∙◌, subst}
use mathlib.Core.List.{List}
use Prim.Native.Nat.{ℕ, ◌<◌}
use native.Mathlib.Omega.{arith}
use Rattle.book.specs.declared.Book.{Book}
use Rattle.lattice.specs.Lattice.{Lattice}
use Rattle.language.specs.Levels.{exp_level}
use Rattle.layout.specs.declared.Script.{Script}
use Rattle.layout.specs.declared.parts.Name.{Name}
use Rattle.layout.specs.declared.parts.Part.{Part}
use Rattle.layout.specs.Layout.{name_count}
use Rattle.layout.specs.Entries.{name_of, part_of}
use Rattle.tree.specs.Tree.{names_of, expression_of}
use Rattle.layout.proofs.Layouts.{names_are, expressions_are}
use Rattle.tree.proofs.Views.{UsesExpression, ExpressionView, expression-view}
use Rattle.tree.proofs.ExpressionKinds.{constant_is, register_is, operand_is, negated_is, binary_is}
use Rattle.language.specs.declared.expression_kinds.ExpressionKind.{ExpressionKind}
use Rattle.language.specs.declared.expression_kinds.ExpressionKind.TheVariants.{Constant, Register, Not}
use Rattle.language.specs.KindNumbers.{expression_number}
use Rattle.language.proofs.KindNumbers.{expression_kind_is}
use Rattle.flow.specs.declared.levelled.LevelledScript.{LevelledScript}
use Rattle.flow.specs.Flow.{lattice_by, LevelAt}

module _ (𝓛 : Lattice ℕ) (s : List ℕ) where
  abbrev pub level_of : ℕ → ℕ
  level_of e = exp_level 𝓛 (names_of s) (expression_of s e)

  module _ (e : ℕ) (view : ExpressionView s e) where
    constant_level : (part_of s e).kind ≡ 0 → level_of e ≡ 𝓛.bottom
    unfolding exp_level
    constant_level n = ap (exp_level 𝓛 (names_of s)) (constant_is s e view n).1

    register_level :
        (part_of s e).kind ≡ 1 → ((part_of s e).a < name_count s) × (level_of e ≡ (name_of s (part_of s e).a).level)
    unfolding exp_level
    register_level n = let r = register_is s e view n in (r.0.known, ap (exp_level 𝓛 (names_of s)) r.1)

    negated_level : (part_of s e).kind ≡ 8 → level_of e ≡ level_of (part_of s e).a
    unfolding exp_level
    negated_level n = ap (exp_level 𝓛 (names_of s)) (negated_is s e view n)

    binary_level :
        ((part_of s e).kind ≡ 0 → ⊥) → ((part_of s e).kind ≡ 1 → ⊥) → ((part_of s e).kind ≡ 8 → ⊥) →
        UsesExpression s e (part_of s e).b × (level_of e ≡ 𝓛.join (level_of (part_of s e).a) (level_of (part_of s e).b))
    unfolding exp_level
    binary_level l m n = let r = binary_is s e view l m n in (r.0, ap (exp_level 𝓛 (names_of s)) r.1.1)

-- what is known where expression e has been read: its part, and its kind
pub record ReadExpression (f : LevelledScript) (e : ℕ) (p : Part) : Type 0 where
  pub known : e < f.checked.file.layout.expressions
  pub same : p ≡ part_of f.checked.file.bytes.now e

module _ {f : LevelledScript} {e : ℕ} {p : Part} (read : ReadExpression f e p) where
  abbrev s : List ℕ
  s = f.checked.file.bytes.now

  abbrev c : Script
  c = f.checked.file.layout

  abbrev b : Book
  b = f.levels.book

  view : ExpressionView s e
  view = expression-view s f.checked.checked e (omega (arith, read.known, expressions_are f.checked.file.laid))

  kind_is : (part_of s e).kind ≡ p.kind
  kind_is = ap (λ q. q.kind) (sym read.same)

  abbrev 𝓛 : Lattice ℕ
  𝓛 = lattice_by b

  pub at_constant : 0 ≡ p.kind → {t : ℕ} → t ≡ 𝓛.bottom → t < b.count → LevelAt b s e t
  at_constant n q h = record { same = q ∙ sym (constant_level 𝓛 s e view (kind_is ∙ sym n)); inside = h }

  module _ (n : 1 ≡ p.kind) where
    register : ((part_of s e).a < name_count s) × (level_of 𝓛 s e ≡ (name_of s (part_of s e).a).level)
    register = register_level 𝓛 s e view (kind_is ∙ sym n)

    pub register_known : p.a < c.names
    register_known = omega (arith, register.0, ap (λ q. q.a) read.same, names_are f.checked.file.laid)

    pub at_register : {x : Name} → x ≡ name_of s p.a → LevelAt b s e x.level
    at_register {x} q =
        let same : x ≡ name_of s (part_of s e).a = q ∙ ap (λ p. name_of s p.a) read.same in
        record {
          same = ap (λ x. x.level) same ∙ sym register.1;
          inside = subst (λ x. x.level < b.count) (sym same) (f.levelled (part_of s e).a register.0);
        }

  module _ (n : 8 ≡ p.kind) where
    pub negated_known : (p.a < e) × (p.a < c.expressions)
    negated_known =
        let u = operand_is s e view (λ k. omega (arith, kind_is)) (λ k. omega (arith, kind_is)) in
        let same = ap (λ q. q.a) read.same in
        (omega (arith, u.part.before, same), omega (arith, u.known, same, expressions_are f.checked.file.laid))

    pub at_negated : {r : ℕ} → LevelAt b s p.a r → LevelAt b s e r
    at_negated a =
        record {
          same =
              a.same ∙ ap (λ q. level_of 𝓛 s q.a) read.same ∙ sym (negated_level 𝓛 s e view (kind_is ∙ sym n));
          inside = a.inside;
        }

  -- none of the kinds with fewer operands
  module _
      (k : ExpressionKind) (n : expression_number k ≡ p.kind) (m₀ : k ≡ Constant → ⊥) (m₁ : k ≡ Register → ⊥)
      (m₈ : k ≡ Not → ⊥) where
    is_not : (other : ExpressionKind) → (k ≡ other → ⊥) → (part_of s e).kind ≡ expression_number other → ⊥
    is_not other m q = m (expression_kind_is k other (n ∙ sym kind_is ∙ q))

    pub first_operand : (p.a < e) × (p.a < c.expressions)
    first_operand =
        let u = operand_is s e view (is_not Constant m₀) (is_not Register m₁) in
        let same = ap (λ q. q.a) read.same in
        (omega (arith, u.part.before, same), omega (arith, u.known, same, expressions_are f.checked.file.laid))

    binary :
        UsesExpression s e (part_of s e).b
        × (level_of 𝓛 s e ≡ 𝓛.join (level_of 𝓛 s (part_of s e).a) (level_of 𝓛 s (part_of s e).b))
    binary = binary_level 𝓛 s e view (is_not Constant m₀) (is_not Register m₁) (is_not Not m₈)

    pub second_operand : (p.b < e) × (p.b < c.expressions)
    second_operand =
        let same = ap (λ q. q.b) read.same in (
          omega (arith, binary.0.part.before, same),
          omega (arith, binary.0.known, same, expressions_are f.checked.file.laid),
        )

    pub at_binary :
        {i j r : ℕ} → LevelAt b s p.a i → LevelAt b s p.b j → r ≡ 𝓛.join i j → r < b.count → LevelAt b s e r
    at_binary a d q h =
        record {
          same =
              q
              ∙ ap₂ 𝓛.join (a.same ∙ ap (λ q. level_of 𝓛 s q.a) read.same) (d.same ∙ ap (λ q. level_of 𝓛 s q.b) read.same)
              ∙ sym binary.1;
          inside = h;
        }
