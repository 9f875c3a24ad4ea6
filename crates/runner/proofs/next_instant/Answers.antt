-- `next_instant`: the script's node changes, the listed signals are present, and one step more is counted.
use mathlib.Core.Path.{ap, ◌∙◌}
use native.Mathlib.Numerals.{add-one}
use Rattle.moves.specs.declared.counts.Counts.{Counts}
use Rattle.runner.proofs.Entering.{entered_is}
use Rattle.runner.proofs.next_instant.Goals as goal

pub returns : goal.returns
returns c =
    λ log.
    let a = c.args in
    let pre = c.requires in
    let r = c.begin_instant in
    let e = rw c.root_of-k.ensures at r.ensures.process in
    let values = entered_is _ _ _ _ _ pre.before pre.after pre.right.signals a.values.now r.ensures.values
    c.make_present.ensures in
    λ i.
    record {
      process = e i;
      values = values i;
      log = log;
      steps = (ap (λ (x : Counts). x.steps) c.after_changes.ensures ∙ add-one a.at.steps) i;
      instants = (ap (λ (x : Counts). x.instants) c.after_changes.ensures ∙ add-one a.at.instants) i;
      lines = ap (λ (x : Counts). x.lines) c.after_changes.ensures i;
    }
