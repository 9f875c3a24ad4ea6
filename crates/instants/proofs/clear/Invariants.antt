-- `clear`: the names below x hold their new values, the others what they held.
use Rattle.std.proofs.Common.{ℕ, Bool, cond, length}
use lib.IntN.{pos}
use Rattle.prelude.specs.Promises.{Computes}
use Rattle.language.specs.Steps.{held}
use Rattle.instants.proofs.Clearing.{Renewed}
use Rattle.instants.proofs.clear.Given as goal

abbrev pub invariant-loop-x : goal.invariant-loop-x
invariant-loop-x g l =
    (f : ℕ → Bool) → Computes (goal.F-post g l.cleared) (length l.initial.values) f →
    Renewed (λ y. cond (f y) (pos 0) (held l.initial.values y)) l.initial.values l.x l.values
