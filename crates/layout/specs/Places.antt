-- 01, the table of refusals: the places that rows 6 to 10 give.
use Rattle.std.specs.Prelude.{Bool, cond, List, ℕ, ◌+◌, ◌-◌, ltb}
use Rattle.prelude.specs.declared.Refusal.{Refusal}
use Rattle.prelude.specs.Refusals.{refused_by, not_refused}
use Rattle.prelude.specs.Search.{first}
use Rattle.layout.specs.Layout.{expression_count}

-- 'where several entries are at fault, the place is the smallest'
abbrev pub at_first : (ℕ → Bool) → ℕ → (ℕ → Refusal) → Refusal → Refusal
at_first fault n given rest = cond (ltb (first fault n) n) (given (first fault n)) rest

-- 'expression, or 256 + node', of part q, where e parts are expressions
abbrev pub place_of_part : ℕ → ℕ → ℕ
place_of_part e q = cond (ltb q e) q (256 + (q - e))

-- what was found among the first n parts, of which e are expressions: part q, or n for none
abbrev pub at_part : ℕ → ℕ → ℕ → ℕ → Refusal
at_part number e n q = cond (ltb q n) (refused_by number (place_of_part e q)) not_refused

-- 'Under 9 and 10 expressions come first': they are the first parts.
abbrev pub at_first_part : List ℕ → ℕ → (ℕ → Bool) → ℕ → Refusal
at_first_part s number fault n = at_part number (expression_count s) n (first fault n)
