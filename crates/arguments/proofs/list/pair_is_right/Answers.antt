-- `pair_is_right`: each way out decides one test of the definition.
use mathlib.Core.Path.{◌≡◌, sym, ap, ◌∙◌}
use mathlib.Core.Bool.{false}
use mathlib.Core.List.{List}
use Prim.Native.Nat.{ℕ, ◌-◌, ◌≤◌, ◌<◌}
use native.Mathlib.Omega.{arith}
use borrow.Author.Tests.{lt-ltb, le-ltb, le-leb, lt-leb}
use Rattle.inputs.specs.Lists.{instant_at, signal_at, pair_count}
use Rattle.arguments.specs.Refusals.{is_session_signal, pair_is_right}
use Rattle.arguments.proofs.list.pair_is_right.Goals as goal
use Rattle.arguments.proofs.list.pair_is_right.Goals.{Else-instant-eq0, Else-pair_count-k, else-k-gt0-via-then-k-gt0+else-instant-instant_at as follows, else-k-gt0-via-else-k-gt0 as starts}

module _ (s list : List ℕ) (k : ℕ) where
  is-half : pair_count list ≤ k → false ≡ pair_is_right s list k
  is-half h = sym (rw (le-ltb k (pair_count list) h))

  module _ (l : k < pair_count list) where
    is_zero : instant_at list k ≤ 0 → false ≡ pair_is_right s list k
    is_zero h = sym (rw (lt-ltb k (pair_count list) l, le-ltb 0 (instant_at list k) h))

    module _ (p : 0 < instant_at list k) where
      falls : instant_at list k < instant_at list (k - 1) → false ≡ pair_is_right s list k
      falls h =
          sym (rw (lt-ltb k (pair_count list) l, lt-ltb 0 (instant_at list k) p, lt-leb (instant_at list (k - 1)) (instant_at list k) h))

      rises : instant_at list (k - 1) ≤ instant_at list k → is_session_signal s (signal_at list k) ≡ pair_is_right s list k
      rises h =
          sym (rw (lt-ltb k (pair_count list) l, lt-ltb 0 (instant_at list k) p, le-leb (instant_at list (k - 1)) (instant_at list k) h))

      -- the first pair is held against itself
      is-first : k ≤ 0 → instant_at list (k - 1) ≤ instant_at list k
      is-first z = let e : k - 1 ≡ k = omega arith in rw e (omega arith)

-- pair k is whole, and its instant is not 0
whole : (c : Else-pair_count-k) → c.args.k < pair_count c.args.list.now
whole c = omega (arith, c.pair_count.ensures, c.if-pair_count-k.false)

positive : (c : Else-instant-eq0) → 0 < instant_at c.args.list.now c.args.k
positive c = omega (arith, c.instant_at-instant.ensures, c.if-instant-eq0.false)

pub returns-then-pair_count-k : goal.returns-then-pair_count-k
returns-then-pair_count-k c =
    let a = c.args in
    is-half a.file.now.bytes.now a.list.now a.k (omega (arith, c.pair_count.ensures, c.if-pair_count-k.true))

pub instant_at-instant-requires : goal.instant_at-instant-requires
instant_at-instant-requires c = whole (goal.at.instant_at-instant-requires c).Else-pair_count-k

pub returns-then-instant-eq0 : goal.returns-then-instant-eq0
returns-then-instant-eq0 c =
    let a = c.args in
    is_zero a.file.now.bytes.now a.list.now a.k (whole (goal.at.returns-then-instant-eq0 c).Else-pair_count-k) (omega (arith, c.instant_at-instant.ensures, c.if-instant-eq0.true))

pub instant_at-requires : goal.instant_at-requires
instant_at-requires c = omega (arith, whole (goal.at.instant_at-requires c).Else-pair_count-k)

pub returns-then-instant-instant_at : goal.returns-then-instant-instant_at
returns-then-instant-instant_at c =
    let a = c.args in
    falls a.file.now.bytes.now a.list.now a.k (whole (goal.at.returns-then-instant-instant_at c).Else-pair_count-k) (positive (goal.at.returns-then-instant-instant_at c).Else-instant-eq0)
    (omega (arith, c.instant_at-instant.ensures, c.instant_at.ensures, c.if-instant-instant_at.true))

pub signal_at-a-requires : goal.signal_at-a-requires
signal_at-a-requires c = whole (goal.at.signal_at-a-requires c).Else-pair_count-k

pub returns : goal.returns
returns c =
    let a = c.args in
    c.is_session_signal.ensures
    ∙ ap (is_session_signal a.file.now.bytes.now) c.signal_at-a.ensures
    ∙ rises a.file.now.bytes.now a.list.now a.k (whole (goal.at.returns c).Else-pair_count-k) (positive (goal.at.returns c).Else-instant-eq0)
    (elim c.else-k-gt0.branch [
      | follows t ↦ omega (arith, c.instant_at-instant.ensures, t.instant_at.ensures, t.if-instant-instant_at.false)
      | starts t ↦ is-first a.file.now.bytes.now a.list.now a.k (whole (goal.at.returns c).Else-pair_count-k) (positive (goal.at.returns c).Else-instant-eq0) (omega (arith, t.if-k-gt0.false))
    ])
