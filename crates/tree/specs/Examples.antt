-- A script file by example: the tree that it holds.
use Rattle.std.specs.Prelude.{ℕ, pos, negsuc}
use Rattle.language.specs.Syntax.{Proc, add, subtract, multiply, divide, less, equal, constant, register, binary, negated, nil, assign, let_in, if_then_else, while, sequence, emit, local, watching, when, parallel}

-- the script of the file with an entry of every kind, where y is name 2 and b is name 3: let y = (-1 + x) - 2 in
--   ((if y * 3 then while not y do x := y / 4 else x := y < 5)
--    parallel local b in emit b; (when b do nil) watching a); x := (y equal 6)
abbrev pub every_kind : Proc ℕ
every_kind =
    let_in 2 1 (binary subtract (binary add (constant (negsuc 0)) (register 0)) (constant (pos 2)))
    (sequence
    (parallel
    (if_then_else (binary multiply (register 2) (constant (pos 3)))
    (while (negated (register 2)) (assign 0 (binary divide (register 2) (constant (pos 4)))))
    (assign 0 (binary less (register 2) (constant (pos 5)))))
    (local 3 0 (sequence (emit 3) (watching 1 (when 3 nil)))))
    (assign 0 (binary equal (register 2) (constant (pos 6)))))
