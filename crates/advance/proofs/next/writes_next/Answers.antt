-- `writes_next`: by the byte, then by the kind.
use mathlib.Core.Path.{ap, ◌∙◌}
use borrow.Author.Tests.{eq-eqb, ne_eqb}
use Rattle.language.specs.KindGroups.{has_write}
use Rattle.advance.proofs.next.writes_next.Goals as goal

pub returns-then-tag-ne-WRITTEN : goal.returns-then-tag-ne-WRITTEN
returns-then-tag-ne-WRITTEN c = rw (ne_eqb _ 0 c.if-tag-ne-WRITTEN.true)

pub returns : goal.returns
returns c = rw (eq-eqb _ 0 c.if-tag-ne-WRITTEN.false) (c.is_writer.ensures ∙ ap has_write c.kind_at.ensures)
