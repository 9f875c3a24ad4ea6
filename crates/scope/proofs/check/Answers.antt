-- `check`: the search finds the smallest part that uses a name out of reach.
use mathlib.Core.Path.{sym}
use Rattle.layout.proofs.Placing.{found_part, found_no_part}
use Rattle.scope.specs.Reach.{is_out_of_reach, reach_refusal}
use Rattle.scope.proofs.check.Goals as goal

pub returns-in-Some : goal.returns-in-Some
unfolding reach_refusal
returns-in-Some c =
    let s = c.args.joined.now.file.bytes.now in
    rw (found_part s 10 (is_out_of_reach s) _ (sym c.in-Some.ensures), c.refused_at.ensures)

pub returns-in-None : goal.returns-in-None
unfolding reach_refusal
returns-in-None c =
    let s = c.args.joined.now.file.bytes.now in
    rw (found_no_part s 10 (is_out_of_reach s) _ (sym c.in-None.ensures))
