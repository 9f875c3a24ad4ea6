-- `count_nodes`: the counts are those of the nodes below k.
use mathlib.Core.Path.{sym, ap, subst, ◌∙◌}
use Prim.Native.Nat.{◌+◌}
use native.Mathlib.Omega.{arith}
use Rattle.layout.specs.declared.parts.Part.{Part}
use Rattle.layout.specs.Layout.{most_nodes}
use Rattle.layout.specs.Entries.{part_of}
use Rattle.layout.proofs.Layouts.{few_bounds, expressions_are}
use Rattle.bound.specs.Promises.{with_kind, Few}
use Rattle.bound.proofs.Counts.{no_counts, counts_more, counts_few, few_more}
use Rattle.bound.proofs.count_nodes.Goals as goal

pub loop-k-init : goal.loop-k-init
loop-k-init c = let e = no_counts c.args.file.now.bytes.now in grind (arith, c.default-counts.ensures, e)

pub with_kind-counts-requires : goal.with_kind-counts-requires
with_kind-counts-requires c =
    let loop = c.loop-k in
    subst (λ n. Few n most_nodes) (sym loop.invariant)
    (few_more (omega (arith, few_bounds c.args.file.now.layout c.args.file.now.laid.few)) (counts_few c.args.file.now.bytes.now loop.k))

pub loop-k-preserved : goal.loop-k-preserved
loop-k-preserved c =
    let loop = c.loop-k in
    c.with_kind-counts.ensures
    ∙ ap (λ n. with_kind n c.part.result.kind) loop.invariant
    ∙ counts_more c.args.file.now.bytes.now loop.k c.part.result.kind
    (ap (λ (x : Part). x.kind) c.part.ensures.part ∙ ap (λ e. (part_of c.args.file.now.bytes.now (e + loop.k)).kind) (expressions_are c.args.file.now.laid))
