-- A loop that declares a signal each time round: the report makes a new name for it at each entry.
use Rattle.std.specs.Prelude.{ℕ, Bool, [], ◌∷◌, eqb, pos}
use Rattle.language.specs.Syntax.{Names, constant, register, Proc, assign, while, sequence, emit, local, when}
use Rattle.language.specs.Calls.{System, starts}

-- name 0 is a register of the session, name 1 a signal of the script's own
abbrev pub is_own : ℕ → Bool
is_own x = eqb x 1

abbrev pub is_of_session : ℕ → Bool
is_of_session x = eqb x 0

abbrev pub loop_names : Names ℕ
loop_names = record { is_signal = is_own; level = λ x. 0; is_session = is_of_session }

-- while x do local a in (emit a; when a do x := 0)
abbrev pub loop : Proc ℕ
loop = while (register 0) (local 1 0 (sequence (emit 1) (when 1 (assign 0 (constant (pos 0))))))

-- it starts with x = 1
abbrev pub loop_starts : System ℕ
loop_starts = starts loop (pos 1 ∷ pos 0 ∷ [])
