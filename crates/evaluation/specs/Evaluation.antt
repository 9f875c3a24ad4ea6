-- What the evaluation of expressions asks for and promises.
use Rattle.std.specs.Prelude.{cond, List, ℕ, ◌<◌, eqb, ℤ}
use Rattle.std.specs.Int.{w32}
use Rattle.std.proofs.Common.{to_z}
use Rattle.language.specs.Steps.{held, apply}
use Rattle.packing.specs.Packing.{kind_in, constant_in, operand_in}
use Rattle.program.specs.Program.{expression_count, operator_of}
use Rattle.program.specs.Runnable.{Valued}

-- the operator of this kind, applied
abbrev pub applied : ℕ → ℤ → ℤ → ℤ
applied kind a b = apply (operator_of kind) a b

-- the value of a constant or a register, by the word of its expression
abbrev pub leaf_value : List ℤ → ℕ → ℤ
leaf_value values w = cond (eqb (kind_in w) 0) (to_z w32 (constant_in w)) (held values (operand_in w))

-- expression e, with the values
pub record Evaluable (words : List ℕ) (values : List ℤ) (e : ℕ) : Type 0 where
  pub valued : Valued words values
  pub known : e < expression_count words
