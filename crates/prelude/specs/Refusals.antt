-- 01, the table of refusals: a number and a place.
use Rattle.std.specs.Prelude.{Bool, cond, ℕ, eqb}
use Rattle.prelude.specs.declared.Refusal.{Refusal}

abbrev pub refused_by : ℕ → ℕ → Refusal
refused_by number place = record { number = number; place = place }

-- "0 means not refused", and "a refusal's other returned numbers are 0"
abbrev pub not_refused : Refusal
not_refused = refused_by 0 0

abbrev pub passes : Refusal → Bool
passes r = eqb r.number 0

-- 'The lowest number that applies is given': later rows count only where the rows before refuse nothing.
abbrev pub or_else : Refusal → Refusal → Refusal
or_else r next = cond (passes r) next r
