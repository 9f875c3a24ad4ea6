-- The moves of a path, and so of a run: each makes the potential less.
use Prim.Native.Nat.{ℕ, suc, ◌+◌, ◌*◌, ◌≤◌}
use native.Mathlib.Numerals.{add-one}
use native.Mathlib.Omega.{arith}
use mathlib.Core.Path.{◌≡◌, ap}
use mathlib.Core.Bool.{Bool, true}
use mathlib.Core.List.{List}
use lib.IntN.{ℤ}
use borrow.Author.Tests.{eqb-true}
use Rattle.language.specs.Syntax.{Names, Proc}
use Rattle.language.specs.NodeCounts.{counted}
use Rattle.language.specs.MoveBounds.{is_not_nil, is_parallel, holds_no_while, most_moves}
use Rattle.language.specs.Frames.{before_the, watched_by, guarded_by, beside_the}
use Rattle.language.specs.Steps.{present, Output, Inputs, instant_start}
use Rattle.language.specs.Calls.{Line, System, starts}
use Rattle.language.specs.Moves.{Move, ASSIGN-OP, SEQ-OP₁, SEQ-OP₂, LET-OP, COND-OP₁, COND-OP₂, WHILE-OP₁, WHILE-OP₂, EMIT-OP, LOCAL-OP, WATCH-OP₁, WATCH-OP₂, WHEN-OP₁, WHEN-OP₂, PAR-OP₁, PAR-OP₂, PAR-OP₃}
use Rattle.language.specs.Instants.{MOVE, INSTANT-OP}
use Rattle.language.specs.Paths.{Path, here, more}
use Rattle.language.specs.Results.{MovesBounded}
use Rattle.language.proofs.MoveBounds.{whiles, Progress, around_progress, no_while_inside, trade, work_done, Held, potential, potential_most, held_on, moved_less, held_changed, changed_no_more}
use Rattle.language.proofs.Executions.{run_is}

module _ {L : Type 0} where
  move_progress :
      {s s' : List ℤ} {p p' : Proc L} {o : Output} → Move s p o p' s' → whiles p ≡ 0 → Progress (present s) (present s') p p'
  unfolding counted
  move_progress ASSIGN-OP w = work_done (omega arith) (omega arith) (omega arith)
  move_progress SEQ-OP₁ w = work_done (omega arith) (omega arith) (omega arith)
  move_progress (SEQ-OP₂ {p = p} {q = q} d) w =
      around_progress (before_the q) tt (move_progress d (no_while_inside (before_the q) p w))
  move_progress LET-OP w = work_done (omega arith) (omega arith) (omega arith)
  move_progress (COND-OP₁ h) w = work_done (omega arith) (omega arith) (omega arith)
  move_progress (COND-OP₂ h) w = work_done (omega arith) (omega arith) (omega arith)
  move_progress (WHILE-OP₁ h) w = absurd (omega (arith, w))
  move_progress (WHILE-OP₂ h) w = absurd (omega (arith, w))
  move_progress EMIT-OP w = work_done (omega arith) (omega arith) (omega arith)
  move_progress LOCAL-OP w = work_done (omega arith) (omega arith) (omega arith)
  move_progress WATCH-OP₁ w = work_done (omega arith) (omega arith) (omega arith)
  move_progress (WATCH-OP₂ {a = a} {p = p} d) w =
      around_progress (watched_by a) tt (move_progress d (no_while_inside (watched_by a) p w))
  move_progress (WHEN-OP₁ h) w = work_done (omega arith) (omega arith) (omega arith)
  move_progress (WHEN-OP₂ {a = a} {p = p} h d) w =
      around_progress (guarded_by a) h (move_progress d (no_while_inside (guarded_by a) p w))
  move_progress PAR-OP₁ w = work_done (omega arith) (omega arith) (omega arith)
  move_progress (PAR-OP₂ {p = p} {q = q} d) w =
      around_progress (beside_the q) tt (move_progress d (no_while_inside (beside_the q) p w))
  move_progress (PAR-OP₃ {p = p} {q = q} d n) w = trade p q d n

  module _ (names : Names L) (inputs : Inputs) (seen : ℕ → Bool) (n : ℕ) where
    abbrev left : System L → ℕ
    left at = potential n (present at.values) at.process

    -- the steps of a path, less its instants, are within the potential of its start
    path_within :
        {m : ℕ} {at end : System L} {ls : List Line} → Path names inputs seen m at ls end → Held n at.process →
        m + at.instants ≤ left at + end.instants
    path_within here h = omega arith
    path_within (more (MOVE d) rest) h =
        let moved = move_progress d h.whiles in
        omega (arith, path_within rest (held_on n moved h), moved_less n moved h)
    path_within (more {at = at} (INSTANT-OP d c) rest) h =
        let begun = instant_start names (inputs (suc at.instants)) at.values in
        omega (arith, path_within rest (held_changed n c h), changed_no_more n c d (present begun))

  -- what is counted of a process that holds no while
  pub held_self : (p : Proc L) → holds_no_while (counted p) ≡ true → Held (counted p is_parallel) p
  held_self p h = record { parallels = omega arith; whiles = eqb-true (whiles p) 0 h }

  pub most_is : (E : ℕ → Bool) (p : Proc L) → potential (counted p is_parallel) E p ≤ most_moves (counted p)
  most_is E p =
      omega (
        arith,
        potential_most (counted p is_parallel) E p,
        ap (λ n. counted p is_not_nil * n) (add-one (counted p is_parallel)),
      )

  -- a path counts no more instants than steps
  path_instants :
      {names : Names L} {inputs : Inputs} {seen : ℕ → Bool} {m : ℕ} {at end : System L} {ls : List Line} →
      Path names inputs seen m at ls end → end.instants ≤ at.instants + m
  path_instants here = omega arith
  path_instants (more (MOVE d) rest) = omega (arith, path_instants rest)
  path_instants (more (INSTANT-OP d c) rest) = omega (arith, path_instants rest)

  pub moves_bounded :
      (names : Names L) (inputs : Inputs) (seen : ℕ → Bool) (n room : ℕ) (p : Proc L) (s : List ℤ) →
      MovesBounded names inputs seen n room p s
  moves_bounded names inputs seen n room p s =
      let r = run_is names inputs seen n room (starts p s) in
      record {
        instants = omega (arith, path_instants r.path, r.steps, r.instants);
        moves =
            λ h.
            omega (
              arith,
              path_within names inputs seen (counted p is_parallel) r.path (held_self p h),
              most_is (present s) p,
              r.steps,
              r.instants,
            );
      }
