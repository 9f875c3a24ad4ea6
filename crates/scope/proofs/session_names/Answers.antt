-- `session_names`: of the names below x the set has those of the session, and no other name.
use borrow.Author.Tests.{eq-eqb, ne_eqb}
use native.Mathlib.Omega.{arith}
use Rattle.layout.specs.Layout.{most_names}
use Rattle.layout.specs.Entries.{is_session}
use Rattle.layout.proofs.Layouts.{few_bounds, names_are}
use Rattle.scope.proofs.Sets.{collect_none, collect_with, collect_without, collect_all}
use Rattle.scope.proofs.session_names.Goals as goal

pub loop-x-init : goal.loop-x-init
loop-x-init c = collect_none _ _

pub loop-x-preserved : goal.loop-x-preserved
loop-x-preserved c = grind (arith, collect_with, collect_without, eq-eqb, ne_eqb)

pub returns : goal.returns
returns c =
    let file = c.args.file.now in
    collect_all (is_session file.bytes.now) _ c.loop-x.x _ (omega (arith, names_are file.laid)) most_names
    (omega (arith, names_are file.laid, few_bounds file.layout file.laid.few)) c.loop-x.invariant
