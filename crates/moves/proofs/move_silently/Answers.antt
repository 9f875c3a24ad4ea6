-- `move_silently`: by the kind.
use mathlib.Core.Path.{subst}
use mathlib.Core.Logic.{⊎_elim}
use Rattle.moves.specs.Promises.{Unmoved}
use Rattle.moves.proofs.move_silently.Goals as goal

pub move_while-requires : goal.move_while-requires
move_while-requires c =
    let pre = c.requires.unmoved in
    subst (Unmoved _ _ _ _) c.if-kind-eq-WHILE.true pre

pub move_if-requires : goal.move_if-requires
move_if-requires c =
    let pre = c.requires.unmoved in
    subst (Unmoved _ _ _ _) c.if-kind-eq-IF.true pre

pub move_let-requires : goal.move_let-requires
move_let-requires c =
    let pre = c.requires.unmoved in
    subst (Unmoved _ _ _ _) c.if-kind-eq-LET.true pre

pub move_local-requires : goal.move_local-requires
move_local-requires c =
    let pre = c.requires.unmoved in
    let last = ⊎_elim (λ e. absurd (c.if-kind-eq-LET.false e)) (⊎_elim (λ e. absurd (c.if-kind-eq-IF.false e)) (⊎_elim (λ e. absurd (c.if-kind-eq-WHILE.false e)) (λ e. e))) c.requires.silent in
    subst (Unmoved _ _ _ _) last pre
