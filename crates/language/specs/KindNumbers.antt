-- The kinds of the program, by their numbers in files and programs.
use Rattle.std.specs.Prelude.{ℕ, suc}
use Rattle.language.specs.declared.process_kinds.ProcessKind.{ProcessKind}
use Rattle.language.specs.declared.process_kinds.ProcessKind.TheVariants.{Nil, Assign, Let, If, While, Sequence, Emit, Local, Watching, When, Parallel}
use Rattle.language.specs.declared.expression_kinds.ExpressionKind.{ExpressionKind}
use Rattle.language.specs.declared.expression_kinds.ExpressionKind.TheVariants.{Constant, Register, Add, Subtract, Multiply, Divide, Less, Equal, Not}
use Rattle.language.specs.Kinds.{nil, assign, let_in, if_then_else, while, sequence, emit, local, watching, when, parallel}

abbrev pub process_number : ProcessKind → ℕ
process_number Nil = nil
process_number Assign = assign
process_number Let = let_in
process_number If = if_then_else
process_number While = while
process_number Sequence = sequence
process_number Emit = emit
process_number Local = local
process_number Watching = watching
process_number When = when
process_number Parallel = parallel

-- how many kinds of processes there are
abbrev pub process_kinds : ℕ
process_kinds = suc parallel

abbrev pub expression_number : ExpressionKind → ℕ
expression_number Constant = 0
expression_number Register = 1
expression_number Add = 2
expression_number Subtract = 3
expression_number Multiply = 4
expression_number Divide = 5
expression_number Less = 6
expression_number Equal = 7
expression_number Not = 8

-- and of expressions
abbrev pub expression_kinds : ℕ
expression_kinds = suc (expression_number Not)
