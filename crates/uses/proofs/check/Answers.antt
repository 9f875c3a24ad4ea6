-- `check`: what a search of the table finds is the smallest part that is not used once.
use mathlib.Core.Path.{sym}
use Rattle.layout.proofs.Placing.{found_part, found_no_part}
use Rattle.uses.specs.Uses.{is_loose, use_refusal}
use Rattle.uses.proofs.check.Goals as goal

pub returns-in-Some : goal.returns-in-Some
unfolding use_refusal
returns-in-Some c =
    let s = c.args.file.now.bytes.now in
    rw (found_part s 9 (is_loose s) _ (sym c.in-Some.ensures), c.refused_at.ensures)

pub returns-in-None : goal.returns-in-None
unfolding use_refusal
returns-in-None c =
    let s = c.args.file.now.bytes.now in
    rw (found_no_part s 9 (is_loose s) _ (sym c.in-None.ensures))
