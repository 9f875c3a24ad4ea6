-- 02 (f): 'Give the figure with the check, or "none" where there is a while.'
use Rattle.std.specs.Prelude.{cond, List, ℕ, Option, Some, None}
use Rattle.language.specs.MoveBounds.{holds_no_while, most_moves}
use Rattle.layout.specs.Entries.{nodes_with}

unfoldable pub bound_of : List ℕ → Option ℕ
bound_of s = cond (holds_no_while (nodes_with s)) (Some (most_moves (nodes_with s))) None
