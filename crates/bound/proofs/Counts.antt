-- Counts of nodes: what one node more adds, and that none is above the number of nodes.
use mathlib.Core.Path.{◌≡◌, refl, sym}
use mathlib.Core.Bool.{Bool}
use mathlib.Core.List.{List}
use Prim.Native.Nat.{ℕ, ◌+◌, ◌≤◌}
use native.Mathlib.Omega.{arith}
use Rattle.prelude.specs.Search.{count}
use Rattle.prelude.proofs.Counts.{count_within, count_more}
use Rattle.language.specs.MoveBounds.{is_not_nil, is_parallel, is_while}
use Rattle.layout.specs.Entries.{part_of, node}
use Rattle.bound.specs.declared.NodeCounts.{NodeCounts}
use Rattle.bound.specs.Promises.{one_if, counts_up_to, with_kind, Few}

module _ (s : List ℕ) where
  pub no_counts : record { others = 0; parallels = 0; whiles = 0 } ≡ counts_up_to s 0
  unfolding count
  no_counts = refl

  pub counts_more : (n kind : ℕ) → kind ≡ (part_of s (node s n)).kind → with_kind (counts_up_to s n) kind ≡ counts_up_to s (n + 1)
  counts_more n kind e = rw (e, more is_not_nil, more is_parallel, more is_while)
    where
      more :
          (f : ℕ → Bool) →
          count (λ k. f (part_of s (node s k)).kind) n + one_if (f (part_of s (node s n)).kind)
          ≡ count (λ k. f (part_of s (node s k)).kind) (n + 1)
      more f = sym (count_more (λ k. f (part_of s (node s k)).kind) n)

  pub counts_few : (n : ℕ) → Few (counts_up_to s n) n
  counts_few n =
      record { others = count_within _ n; parallels = count_within _ n; whiles = count_within _ n }

pub few_more : {counts : NodeCounts} {n m : ℕ} → n ≤ m → Few counts n → Few counts m
few_more l f =
    record {
      others = omega (arith, f.others, l);
      parallels = omega (arith, f.parallels, l);
      whiles = omega (arith, f.whiles, l);
    }
