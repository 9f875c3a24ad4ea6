-- What is counted while the nodes are looked at: what the functions ask and give, no part of what is promised.
use Rattle.std.specs.Prelude.{Bool, cond, List, ℕ, ◌+◌, ◌*◌, ◌≤◌, eqb, Option, Some, None}
use Rattle.prelude.specs.Search.{count}
use Rattle.language.specs.MoveBounds.{is_not_nil, is_parallel, is_while}
use Rattle.layout.specs.Entries.{part_of, node}
use Rattle.bound.specs.declared.NodeCounts.{NodeCounts}

-- of the first n nodes
abbrev pub counts_up_to : List ℕ → ℕ → NodeCounts
counts_up_to s n =
    let among : (ℕ → Bool) → ℕ = λ f. count (λ k. f (part_of s (node s k)).kind) n in
    record { others = among is_not_nil; parallels = among is_parallel; whiles = among is_while }

abbrev pub one_if : Bool → ℕ
one_if test = cond test 1 0

-- with one node of this kind more
abbrev pub with_kind : NodeCounts → ℕ → NodeCounts
with_kind n kind =
    record {
      others = n.others + one_if (is_not_nil kind);
      parallels = n.parallels + one_if (is_parallel kind);
      whiles = n.whiles + one_if (is_while kind);
    }

-- no count is above n
pub record Few (counts : NodeCounts) (n : ℕ) : Type 0 where
  pub others : counts.others ≤ n
  pub parallels : counts.parallels ≤ n
  pub whiles : counts.whiles ≤ n

abbrev pub bound_by : NodeCounts → Option ℕ
bound_by n = cond (eqb n.whiles 0) (Some (n.others * (n.parallels + 1))) None
