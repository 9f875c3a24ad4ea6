-- `name_word`: the entry, packed.
use mathlib.Core.Path.{ap, ◌∙◌}
use Prim.Native.Nat.{◌<◌}
use native.Mathlib.Omega.{arith}
use Rattle.book.specs.LevelBook.{most_levels, at_or_below}
use Rattle.layout.specs.Layout.{name_count}
use Rattle.layout.proofs.Layouts.{names_are}
use Rattle.plan.proofs.Plans.{name_packed}
use Rattle.plan.proofs.reading.Reading.name_word.Goals as goal

pub returns : goal.returns
returns c =
    let f = c.args.self.now in
    let s = f.checked.file.bytes.now in
    let known : c.args.x < name_count s = omega (arith, c.requires, names_are f.checked.file.laid) in
    let e = c.name-n.ensures.name in
    let level : c.name-n.result.level < most_levels = omega (arith, ap (λ n. n.level) e, f.levelled c.args.x known, f.levels) in
    let kind : c.name-n.result.kind < 2 = omega (arith, ap (λ n. n.kind) e, f.checked.checked.kinds c.args.x known) in
    rw (c.pack_name.ensures, c.is_session.ensures)
    (name_packed s _ c.args.x _ e (omega (arith, level)) kind _
    (c.at_or_below-seen.ensures ∙ ap (λ m. at_or_below f.book.rows m.level f.reader) e))
