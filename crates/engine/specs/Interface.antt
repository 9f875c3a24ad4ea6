-- The calls for C.
use Rattle.std.specs.Prelude.{cond, List, ℕ, eqb, length}

-- where there is room for exactly n words the call is made, else all is as before
unfoldable pub where_asked : {A : Type 0} → ℕ → List ℕ → A → A → A
where_asked n out made before = cond (eqb (length out) n) made before

-- where there is room for exactly so many elements in two buffers
abbrev pub where_both_asked : {A : Type 0} → ℕ → List ℕ → ℕ → List ℕ → A → A → A
where_both_asked n out m other made before = where_asked n out (where_asked m other made before) before
