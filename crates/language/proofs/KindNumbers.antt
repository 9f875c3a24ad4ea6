-- A number is that of one kind.
use mathlib.Core.Path.{◌≡◌, refl, sym, ap, ◌∙◌}
use mathlib.Core.List.{[], ◌∷◌}
use Prim.Native.Nat.{ℕ}
use lib.ListN.{get_or}
use Rattle.language.specs.declared.process_kinds.ProcessKind.{ProcessKind}
use Rattle.language.specs.declared.process_kinds.ProcessKind.TheVariants.{Nil, Assign, Let, If, While, Sequence, Emit, Local, Watching, When, Parallel}
use Rattle.language.specs.declared.expression_kinds.ExpressionKind.{ExpressionKind}
use Rattle.language.specs.declared.expression_kinds.ExpressionKind.TheVariants.{Constant, Register, Add, Subtract, Multiply, Divide, Less, Equal, Not}
use Rattle.language.specs.KindNumbers.{process_number, expression_number}

abbrev process_kind : ℕ → ProcessKind
process_kind n =
    get_or (Nil ∷ Assign ∷ Let ∷ If ∷ While ∷ Sequence ∷ Emit ∷ Local ∷ Watching ∷ When ∷ Parallel ∷ []) n Nil

numbered : (kind : ProcessKind) → process_kind (process_number kind) ≡ kind
numbered Nil = refl
numbered Assign = refl
numbered Let = refl
numbered If = refl
numbered While = refl
numbered Sequence = refl
numbered Emit = refl
numbered Local = refl
numbered Watching = refl
numbered When = refl
numbered Parallel = refl

pub process_kind_is : (kind other : ProcessKind) → process_number kind ≡ process_number other → kind ≡ other
process_kind_is kind other e = sym (numbered kind) ∙ ap process_kind e ∙ numbered other

abbrev expression_kind : ℕ → ExpressionKind
expression_kind n =
    get_or (Constant ∷ Register ∷ Add ∷ Subtract ∷ Multiply ∷ Divide ∷ Less ∷ Equal ∷ Not ∷ []) n Constant

expression_numbered : (kind : ExpressionKind) → expression_kind (expression_number kind) ≡ kind
expression_numbered Constant = refl
expression_numbered Register = refl
expression_numbered Add = refl
expression_numbered Subtract = refl
expression_numbered Multiply = refl
expression_numbered Divide = refl
expression_numbered Less = refl
expression_numbered Equal = refl
expression_numbered Not = refl

pub expression_kind_is :
    (kind other : ExpressionKind) → expression_number kind ≡ expression_number other → kind ≡ other
expression_kind_is kind other e = sym (expression_numbered kind) ∙ ap expression_kind e ∙ expression_numbered other
