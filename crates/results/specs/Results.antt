-- 'Check returns number, place, W, T', and by 02 (f) the figure. 'Run returns how it ended, steps, instants, lines.' 'A
-- refusal's other returned numbers are 0; 0 means not refused.' 02 (e): 'for each level the set of other levels'.
use Rattle.std.specs.Prelude.{List, ℕ, Option, None, replicate}
use Rattle.prelude.specs.declared.Refusal.{Refusal}
use Rattle.book.specs.LevelBook.{most_levels}
use Rattle.results.specs.declared.Verdict.{Verdict}
use Rattle.results.specs.declared.RunResult.{RunResult}
use Rattle.results.specs.declared.Flows.{Flows}

abbrev pub verdict_by : Refusal → ℕ → ℕ → Option ℕ → Verdict
verdict_by r w t moves = record { number = r.number; place = r.place; write = w; test = t; moves = moves }

abbrev pub refused_verdict : Refusal → Verdict
refused_verdict r = verdict_by r 0 0 None

abbrev pub refused_result : Refusal → RunResult
refused_result r =
    record { number = r.number; place = r.place; ending = 0; steps = 0; instants = 0; lines = 0 }

abbrev pub result_by : ℕ → ℕ → ℕ → ℕ → RunResult
result_by ending steps instants lines =
    record { number = 0; place = 0; ending = ending; steps = steps; instants = instants; lines = lines }

abbrev pub flows_by : Refusal → List ℕ → Flows
flows_by r to = record { number = r.number; place = r.place; to = to }

abbrev pub refused_flows : Refusal → Flows
refused_flows r = flows_by r (replicate most_levels 0)
