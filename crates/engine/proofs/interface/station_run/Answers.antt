-- `station_run`: the run's result is stored, where there is room for exactly its words.
use mathlib.Core.Path.{ap, ◌∙◌}
use Rattle.results.specs.Words.{result_words}
use Rattle.engine.proofs.Asking.{asked, not_asked}
use Rattle.engine.proofs.interface.station_run.Goals as goal

pub returns-then-out-ne-RUN_WORDS : goal.returns-then-out-ne-RUN_WORDS
returns-then-out-ne-RUN_WORDS c =
    let n = c.if-out-ne-RUN_WORDS.true in
    record { out_after = not_asked 6 _ _ _ n; values_after = not_asked 6 _ _ _ n; log_after = not_asked 6 _ _ _ n }

pub put_result-requires : goal.put_result-requires
put_result-requires c = c.if-out-ne-RUN_WORDS.false

pub returns : goal.returns
returns c =
    let e = c.if-out-ne-RUN_WORDS.false in
    let r = c.run-r.ensures in
    record {
      out_after = asked 6 _ _ _ e (c.put_result.ensures ∙ ap result_words r.value);
      values_after = asked 6 _ _ _ e r.values_after;
      log_after = asked 6 _ _ _ e r.log_after;
    }
