-- 02 (f), 'How long the instrument can be busy': the most moves of a script that holds no while. What counts the nodes by
-- their kinds is given: it is the same figure of a file's nodes and of a process.
use Rattle.std.specs.Prelude.{Bool, not, ℕ, ◌+◌, ◌*◌, eqb}
use Rattle.language.specs.Kinds.{nil, while, parallel}

abbrev pub is_not_nil : ℕ → Bool
is_not_nil kind = not (eqb kind nil)

abbrev pub is_parallel : ℕ → Bool
is_parallel kind = eqb kind parallel

abbrev pub is_while : ℕ → Bool
is_while kind = eqb kind while

module _ (nodes : (ℕ → Bool) → ℕ) where
  -- 'scripts that hold no while'
  abbrev pub holds_no_while : Bool
  holds_no_while = eqb (nodes is_while) 0

  -- 'With k nodes other than nil and p parallel nodes, .. at most k × (p + 1) moves'
  abbrev pub most_moves : ℕ
  most_moves = nodes is_not_nil * (nodes is_parallel + 1)
