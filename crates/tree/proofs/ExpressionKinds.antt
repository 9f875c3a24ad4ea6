-- An expression of a checked file, by the number of its kind.
use mathlib.Core.Path.{◌≡◌}
use mathlib.Core.List.{List}
use Prim.Native.Nat.{ℕ}
use native.Mathlib.Omega.{arith}
use lib.IntN.{ℤ}
use Rattle.language.specs.Syntax.{Operator, constant, register, binary, negated}
use Rattle.layout.specs.Entries.{part_of}
use Rattle.tree.specs.Tree.{expression_of}
use Rattle.tree.proofs.Views.{code_range, UsesName, UsesExpression, ExpressionView, a_constant, a_register, a_binary, a_negated}

module _ (s : List ℕ) (e : ℕ) where
  abbrev kind : ℕ
  kind = (part_of s e).kind

  pub constant_is : ExpressionView s e → kind ≡ 0 → (v : ℤ) × (expression_of s e ≡ constant v)
  constant_is (a_constant k q) n = (_, q)
  constant_is (a_register k q u) n = absurd (omega arith)
  constant_is (a_binary o k q u v) n = absurd (omega (arith, code_range o))
  constant_is (a_negated k q u) n = absurd (omega arith)

  pub register_is :
      ExpressionView s e → kind ≡ 1 →
      UsesName s e (part_of s e).a 0 × (expression_of s e ≡ register (part_of s e).a)
  register_is (a_constant k q) n = absurd (omega arith)
  register_is (a_register k q u) n = (u, q)
  register_is (a_binary o k q u v) n = absurd (omega (arith, code_range o))
  register_is (a_negated k q u) n = absurd (omega arith)

  pub operand_is : ExpressionView s e → (kind ≡ 0 → ⊥) → (kind ≡ 1 → ⊥) → UsesExpression s e (part_of s e).a
  operand_is (a_constant k q) m n = absurd (m k)
  operand_is (a_register k q u) m n = absurd (n k)
  operand_is (a_binary o k q u v) m n = u
  operand_is (a_negated k q u) m n = u

  pub negated_is : ExpressionView s e → kind ≡ 8 → expression_of s e ≡ negated (expression_of s (part_of s e).a)
  negated_is (a_constant k q) n = absurd (omega arith)
  negated_is (a_register k q u) n = absurd (omega arith)
  negated_is (a_binary o k q u v) n = absurd (omega (arith, code_range o))
  negated_is (a_negated k q u) n = q

  pub binary_is :
      ExpressionView s e → (kind ≡ 0 → ⊥) → (kind ≡ 1 → ⊥) → (kind ≡ 8 → ⊥) →
      UsesExpression s e (part_of s e).b
      × ((o : Operator)
      × (expression_of s e ≡ binary o (expression_of s (part_of s e).a) (expression_of s (part_of s e).b)))
  binary_is (a_constant k q) l m n = absurd (l k)
  binary_is (a_register k q u) l m n = absurd (m k)
  binary_is (a_binary o k q u v) l m n = (v, (o, q))
  binary_is (a_negated k q u) l m n = absurd (n k)
