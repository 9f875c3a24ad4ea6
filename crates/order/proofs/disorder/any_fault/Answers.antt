-- `any_fault`: of the levels that are left out, none shows a fault.
use mathlib.Core.Path.{◌≡◌, refl, sym, ap, ◌∙◌}
use mathlib.Core.Bool.{Bool, true, false, ◌&&◌}
use mathlib.Core.List.{List}
use Prim.Native.Nat.{ℕ, ◌-◌, ◌^◌, ◌<◌}
use native.Mathlib.Decide.{ℕ_discrete}
use native.Mathlib.Omega.{arith}
use lib.ListN.{get_or}
use Rattle.prelude.specs.Sets.{has, outside}
use Rattle.prelude.proofs.Bools.{and_intro}
use Rattle.prelude.proofs.Searches.{any_some, any_none}
use Rattle.prelude.proofs.Sets.{has_zero, out_other}
use Rattle.book.proofs.Lowest.{next_below, next_in, next_less}
use Rattle.order.proofs.disorder.any_fault.Invariants.{Left}
use Rattle.order.proofs.disorder.any_fault.Goals as goal
use Rattle.order.proofs.disorder.any_fault.Goals.{After-lowest-j}

-- it shows no fault
left-more :
    (rows : List ℕ) (n others left j : ℕ) → has left j ≡ true → outside (get_or rows j 0) others n ≡ false →
    Left rows n others left → Left rows n others (left - 2 ^ j)
left-more rows n others left j own none keeps k =
    elim (ℕ_discrete k j) [
      | yes e ↦
          let shown : outside (get_or rows k 0) others n ≡ false = ap (λ x. outside (get_or rows x 0) others n) e ∙ none in
          nothing (has (left - 2 ^ j) k) _ shown ∙ sym (nothing (has others k) _ shown)
      | no e ↦ ap (λ b. b && outside (get_or rows k 0) others n) (out_other left j own k e) ∙ keeps k
    ]
  where
    nothing : (p q : Bool) → q ≡ false → (p && q) ≡ false
    nothing true q h = h
    nothing false q h = refl

-- the smallest level that is left is a level, and one of them
low :
    (l : After-lowest-j) →
    (l.lowest-j.result < l.args.b.now.count)
    × (has l.loop-left.left l.lowest-j.result ≡ true)
low l =
    let few = l.requires.0 in
    let below = l.loop-left.invariant.0 in
    let some = l.loop-left-test.true in (
      next_below _ _ _ few below some l.lowest-j.ensures,
      next_in _ _ _ few below some l.lowest-j.ensures,
    )

pub offset_bounds-b-j : goal.offset_bounds-b-j
offset_bounds-b-j c = record { fits = omega (arith, (low (goal.at.offset_bounds-b-j c).After-lowest-j).0, c.requires.0) }

pub bounds-b-j : goal.bounds-b-j
bounds-b-j c = omega (arith, (low (goal.at.bounds-b-j c).After-lowest-j).0, c.requires.0)

pub returns-then-any_outside : goal.returns-then-any_outside
returns-then-any_outside c =
    sym
    (any_some _ _ c.lowest-j.result (low (goal.at.returns-then-any_outside c).After-lowest-j).0
    (sym (c.loop-left.invariant.1 c.lowest-j.result)
    ∙ and_intro _ _ (low (goal.at.returns-then-any_outside c).After-lowest-j).1 (sym c.any_outside.ensures ∙ c.if-any_outside.true)))

pub without-left-requires : goal.without-left-requires
without-left-requires c =
    (omega (arith, (low (goal.at.without-left-requires c).After-lowest-j).0, c.requires.0), (low (goal.at.without-left-requires c).After-lowest-j).1)

pub loop-left-preserved : goal.loop-left-preserved
loop-left-preserved c =
    rw c.without-left.ensures (
      omega (arith, next_less c.loop-left.left c.lowest-j.result (low (goal.at.loop-left-preserved c).After-lowest-j).1, c.loop-left.invariant.0),
      left-more c.args.b.now.rows c.args.b.now.count _ _ _ (low (goal.at.loop-left-preserved c).After-lowest-j).1 (sym c.any_outside.ensures ∙ c.if-any_outside.false)
          c.loop-left.invariant.1,
    )

pub returns : goal.returns
returns c = sym (any_none _ _ (λ j l. sym (c.loop-left.invariant.1 j) ∙ rw (c.loop-left-test.false, has_zero j)))
