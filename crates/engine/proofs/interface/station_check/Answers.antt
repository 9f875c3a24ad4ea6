-- `station_check`: the answer's words are stored, where there is room for exactly these.
use mathlib.Core.Path.{ap, ◌∙◌}
use Rattle.results.specs.Words.{verdict_words}
use Rattle.engine.proofs.Asking.{asked, not_asked}
use Rattle.engine.proofs.interface.station_check.Goals as goal

pub returns-then-out-ne-CHECK_WORDS : goal.returns-then-out-ne-CHECK_WORDS
returns-then-out-ne-CHECK_WORDS c = not_asked 6 _ _ _ c.if-out-ne-CHECK_WORDS.true

pub put_verdict-requires : goal.put_verdict-requires
put_verdict-requires c = c.if-out-ne-CHECK_WORDS.false

pub returns : goal.returns
returns c = asked 6 _ _ _ c.if-out-ne-CHECK_WORDS.false (c.put_verdict.ensures ∙ ap verdict_words c.check-v.ensures)
