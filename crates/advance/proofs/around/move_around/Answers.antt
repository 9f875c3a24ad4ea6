-- `move_around`: by the limit.
use mathlib.Core.Path.{sym, ap, ◌∙◌}
use borrow.Author.Tests.{le-leb, lt-leb}
use Rattle.moves.specs.declared.counts.Moved.TheVariants.{Again}
use Rattle.advance.proofs.around.move_around.Goals as goal

pub returns-then-limit-at : goal.returns-then-limit-at
returns-then-limit-at c =
    let spent = le-leb _ _ c.if-limit-at.true in record { moved = sym (rw spent); bytes = sym (rw spent) }

pub returns : goal.returns
returns c =
    let more = lt-leb _ _ c.if-limit-at.false in record { moved = ap Again c.after_move.ensures ∙ sym (rw more); bytes = sym (rw more) }
