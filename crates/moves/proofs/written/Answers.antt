-- `written`: 1 for an emission, else the value of the expression.
use mathlib.Core.Path.{◌≡◌}
use mathlib.Core.Logic.{⊎_elim}
use native.Mathlib.Omega.{arith}
use mir.Syntax.{w32}
use mir.Facts.{to_z-of_z}
use Rattle.moves.proofs.OwnMoves.{writer_fields, assign_writes, emit_writes}
use Rattle.moves.proofs.written.Goals as goal
use Rattle.moves.proofs.written.Goals.{Else-kind-eq-EMIT}

-- it is an assignment
assigns : (c : Else-kind-eq-EMIT) → c.args.kind ≡ 1
assigns c = ⊎_elim (λ e. e) (λ e. absurd (c.if-kind-eq-EMIT.false e)) c.requires.writer

pub returns-then-kind-eq-EMIT : goal.returns-then-kind-eq-EMIT
returns-then-kind-eq-EMIT c = emit_writes c.requires c.if-kind-eq-EMIT.true

pub value_of-requires : goal.value_of-requires
value_of-requires c =
    record {
      valued = c.requires.valued;
      known = omega (arith, c.b_at.ensures, (writer_fields c.requires (assigns (goal.at.value_of-requires c).Else-kind-eq-EMIT)).1.1);
    }

pub returns : goal.returns
returns c =
    rw (to_z-of_z {w = w32} (record { sfits = c.value_of.type_inv }), c.value_of.ensures, c.b_at.ensures)
    (assign_writes c.requires (assigns (goal.at.returns c).Else-kind-eq-EMIT))
