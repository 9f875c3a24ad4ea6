-- What the word of an expression tells of the expression's value, kind by kind.
use mathlib.Core.Path.{◌≡◌, sym, ap}
use mathlib.Core.List.{List}
use Prim.Native.Nat.{ℕ, ◌≤◌, ◌<◌}
use native.Mathlib.Omega.{arith}
use lib.IntN.{ℤ}
use Rattle.values.specs.Values.{negation}
use Rattle.language.specs.Steps.{evaluate, value}
use Rattle.packing.specs.Packing.{kind_in, operand_in, later_in}
use Rattle.program.specs.Program.{name_count, expression_word, expression_of}
use Rattle.program.proofs.Views.{ExpressionView, a_constant, a_register, a_binary, a_negated, expression-view}
use Rattle.evaluation.specs.Evaluation.{applied, leaf_value, Evaluable}

-- what word w, which is that of expression e, tells
pub record Tells (words : List ℕ) (values : List ℤ) (e w : ℕ) : Type 0 where
  pub known : 0 < kind_in w → kind_in w ≤ 1 → operand_in w < name_count words
  pub leaf : kind_in w ≤ 1 → leaf_value values w ≡ value (expression_of words e) values
  pub first : 1 < kind_in w → operand_in w < e
  pub negated :
      kind_in w ≡ 8 → negation (value (expression_of words (operand_in w)) values) ≡ value (expression_of words e) values
  pub second : 1 < kind_in w → (kind_in w ≡ 8 → ⊥) → later_in w < e
  pub binary :
      1 < kind_in w → (kind_in w ≡ 8 → ⊥) →
      applied (kind_in w) (value (expression_of words (operand_in w)) values) (value (expression_of words (later_in w)) values)
      ≡ value (expression_of words e) values

module _ {words : List ℕ} {values : List ℤ} {e : ℕ} where
  by_view : ExpressionView words e → Tells words values e (expression_word words e)
  unfolding evaluate value
  by_view (a_constant k v) =
      record {
        known = λ l m. absurd (omega (arith, k, l));
        leaf = λ _. rw (k, v);
        first = λ l. absurd (omega (arith, k, l));
        negated = λ q. absurd (omega (arith, k, q));
        second = λ l n. absurd (omega (arith, k, l));
        binary = λ l n. absurd (omega (arith, k, l));
      }
  by_view (a_register k v u) =
      record {
        known = λ _ _. u;
        leaf = λ _. rw (k, v);
        first = λ l. absurd (omega (arith, k, l));
        negated = λ q. absurd (omega (arith, k, q));
        second = λ l n. absurd (omega (arith, k, l));
        binary = λ l n. absurd (omega (arith, k, l));
      }
  by_view (a_binary l m v a b) =
      record {
        known = λ _ h. absurd (omega (arith, l, h));
        leaf = λ h. absurd (omega (arith, l, h));
        first = λ _. a;
        negated = λ q. absurd (omega (arith, m, q));
        second = λ _ _. b;
        binary = λ _ _. rw v;
      }
  by_view (a_negated k v a) =
      record {
        known = λ l m. absurd (omega (arith, k, m));
        leaf = λ m. absurd (omega (arith, k, m));
        first = λ _. a;
        negated = λ _. sym (ap (λ x. value x values) v);
        second = λ _ n. absurd (n k);
        binary = λ _ n. absurd (n k);
      }

  pub told : Evaluable words values e → {w : ℕ} → w ≡ expression_word words e → Tells words values e w
  told v q = rw q (by_view (expression-view words v.valued.runnable e v.known))
