-- The answers' words for C, in their order.
use Rattle.std.specs.Prelude.{List, [], ◌∷◌, ℕ, Option, Some, None}
use Rattle.results.specs.declared.Verdict.{Verdict}
use Rattle.results.specs.declared.RunResult.{RunResult}
use Rattle.results.specs.declared.Flows.{Flows}

-- 'the figure, .. or "none"': whether there is one, and the figure
abbrev pub bound_words : Option ℕ → List ℕ
bound_words (Some moves) = 1 ∷ moves ∷ []
bound_words None = 0 ∷ 0 ∷ []

abbrev pub verdict_words : Verdict → List ℕ
verdict_words v = v.number ∷ v.place ∷ v.write ∷ v.test ∷ bound_words v.moves

abbrev pub result_words : RunResult → List ℕ
result_words r = r.number ∷ r.place ∷ r.ending ∷ r.steps ∷ r.instants ∷ r.lines ∷ []

-- beside the sets, which are words of a buffer of their own
abbrev pub flows_words : Flows → List ℕ
flows_words f = f.number ∷ f.place ∷ []
