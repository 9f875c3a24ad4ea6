-- `form_at`: what the word of the node tells; past all forms a node is nil.
use mathlib.Core.Path.{ap₂, ◌∙◌}
use Rattle.packing.specs.Packing.{form_in}
use Rattle.program.proofs.Fronts.{runs_at, form_past}
use Rattle.program.proofs.forms.form_at.Goals as goal

pub returns-then-tag-ge-OVER : goal.returns-then-tag-ge-OVER
returns-then-tag-ge-OVER c =
    form_past _ c.args.tag (runs_at c.args.k c.requires).kind c.if-tag-ge-OVER.true

pub returns : goal.returns
returns c =
    c.form_in.ensures
    ∙ ap₂ form_in c.node_at.ensures c.wide.ensures
    ∙ (runs_at c.args.k c.requires).forms c.args.tag c.if-tag-ge-OVER.false
