-- `find_bound`: the counts of all nodes give the bound.
use mathlib.Core.Path.{sym, ap, subst, ◌∙◌}
use native.Mathlib.Omega.{arith}
use Rattle.layout.specs.Layout.{most_nodes}
use Rattle.layout.proofs.Layouts.{few_bounds, nodes_are}
use Rattle.bound.specs.Bound.{bound_of}
use Rattle.bound.specs.Promises.{counts_up_to, bound_by, Few}
use Rattle.bound.proofs.Counts.{counts_few, few_more}
use Rattle.bound.proofs.find_bound.Goals as goal

pub bound-requires : goal.bound-requires
bound-requires c =
    subst (λ n. Few n most_nodes) (sym c.count_nodes.ensures)
    (few_more (omega (arith, few_bounds c.args.file.now.layout c.args.file.now.laid.few)) (counts_few c.args.file.now.bytes.now c.args.file.now.layout.nodes))

pub returns : goal.returns
unfolding bound_of
returns c =
    c.bound.ensures
    ∙ ap bound_by (c.count_nodes.ensures ∙ ap (counts_up_to c.args.file.now.bytes.now) (nodes_are c.args.file.now.laid))
