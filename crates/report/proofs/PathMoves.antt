-- The moves of the report's paths: each makes the potential less, as in place. A new name takes no node away.
use Prim.Native.Nat.{ℕ, suc, ◌+◌, ◌≤◌}
use native.Mathlib.Nat.{le_trans}
use native.Mathlib.Omega.{arith}
use mathlib.Core.Path.{◌≡◌, refl, ap, ap₂}
use mathlib.Core.Bool.{Bool, cond}
use mathlib.Core.List.{List}
use lib.IntN.{ℤ}
use Rattle.language.specs.Syntax.{Proc}
use Rattle.language.specs.Kinds as kinds
use Rattle.language.specs.NodeCounts.{counted}
use Rattle.language.specs.MoveBounds.{is_not_nil, is_parallel, is_while}
use Rattle.language.specs.Frames.{before_the, watched_by, guarded_by, beside_the}
use Rattle.language.specs.Typing.{Environment}
use Rattle.language.specs.Steps.{Output, Inputs}
use Rattle.language.proofs.MoveBounds.{whiles, Progress, around_progress, no_while_inside, trade, work_done, Held, potential, held_on, moved_less, held_changed, changed_no_more}
use Rattle.language.proofs.PathMoves.{held_self, most_is}
use Rattle.report.specs.Names.{Renaming, Renamed, r_nil, r_assign, r_let, r_if, r_while, r_sequence, r_emit, r_local, r_watching, r_when, r_parallel}
use Rattle.report.specs.Configurations.{Configuration}
use Rattle.report.specs.Moves.{Move, ASSIGN-OP, SEQ-OP₁, SEQ-OP₂, LET-OP, COND-OP₁, COND-OP₂, WHILE-OP₁, WHILE-OP₂, EMIT-OP, LOCAL-OP, WATCH-OP₁, WATCH-OP₂, WHEN-OP₁, WHEN-OP₂, PAR-OP₁, PAR-OP₂, PAR-OP₃}
use Rattle.report.specs.Instants.{MOVE, INSTANT-OP}
use Rattle.report.specs.Paths.{NamedLine, ExecutionPath, here, more, moves_in}
use Rattle.report.specs.Results.{PathBounded}

module _ {L : Type 0} where
  -- a renaming leaves the kinds of the nodes
  renamed_counted : {ρ : Renaming} {p p' : Proc L} → Renamed ρ p p' → (f : ℕ → Bool) → counted p' f ≡ counted p f
  unfolding counted
  renamed_counted r_nil f = refl
  renamed_counted (r_assign x e) f = refl
  renamed_counted (r_let e c d) f = ap (λ n. cond (f kinds.let_in) (suc n) n) (renamed_counted d f)
  renamed_counted (r_if e d d') f =
      ap₂ (λ n m. cond (f kinds.if_then_else) (suc (n + m)) (n + m)) (renamed_counted d f) (renamed_counted d' f)
  renamed_counted (r_while e d) f = ap (λ n. cond (f kinds.while) (suc n) n) (renamed_counted d f)
  renamed_counted (r_sequence d d') f =
      ap₂ (λ n m. cond (f kinds.sequence) (suc (n + m)) (n + m)) (renamed_counted d f) (renamed_counted d' f)
  renamed_counted (r_emit a) f = refl
  renamed_counted (r_local c d) f = ap (λ n. cond (f kinds.local) (suc n) n) (renamed_counted d f)
  renamed_counted (r_watching a d) f = ap (λ n. cond (f kinds.watching) (suc n) n) (renamed_counted d f)
  renamed_counted (r_when a d) f = ap (λ n. cond (f kinds.when) (suc n) n) (renamed_counted d f)
  renamed_counted (r_parallel d d') f =
      ap₂ (λ n m. cond (f kinds.parallel) (suc (n + m)) (n + m)) (renamed_counted d f) (renamed_counted d' f)

  module _ {Γ : Environment L} {S : ℕ → ℤ} {E : ℕ → Bool} where
    move_progress :
        {Γ' : Environment L} {S' : ℕ → ℤ} {E' : ℕ → Bool} {p p' : Proc L} {o : Output} → Move Γ S E p o Γ' S' E' p' →
        whiles p ≡ 0 → Progress E E' p p'
    unfolding counted
    move_progress ASSIGN-OP w = work_done (omega arith) (omega arith) (omega arith)
    move_progress SEQ-OP₁ w = work_done (omega arith) (omega arith) (omega arith)
    move_progress (SEQ-OP₂ {p = p} {q = q} d) w =
        around_progress (before_the q) tt (move_progress d (no_while_inside (before_the q) p w))
    move_progress (LET-OP z d) w =
        work_done
        (omega (arith, renamed_counted d is_not_nil))
        (omega (arith, renamed_counted d is_parallel))
        (omega (arith, renamed_counted d is_while))
    move_progress (COND-OP₁ h) w = work_done (omega arith) (omega arith) (omega arith)
    move_progress (COND-OP₂ h) w = work_done (omega arith) (omega arith) (omega arith)
    move_progress (WHILE-OP₁ h) w = absurd (omega (arith, w))
    move_progress (WHILE-OP₂ h) w = absurd (omega (arith, w))
    move_progress EMIT-OP w = work_done (omega arith) (omega arith) (omega arith)
    move_progress (LOCAL-OP z d) w =
        work_done
        (omega (arith, renamed_counted d is_not_nil))
        (omega (arith, renamed_counted d is_parallel))
        (omega (arith, renamed_counted d is_while))
    move_progress WATCH-OP₁ w = work_done (omega arith) (omega arith) (omega arith)
    move_progress (WATCH-OP₂ {a = a} {p = p} d) w =
        around_progress (watched_by a) tt (move_progress d (no_while_inside (watched_by a) p w))
    move_progress (WHEN-OP₁ h) w = work_done (omega arith) (omega arith) (omega arith)
    move_progress (WHEN-OP₂ {a = a} {p = p} h d) w =
        around_progress (guarded_by a) h (move_progress d (no_while_inside (guarded_by a) p w))
    move_progress PAR-OP₁ w = work_done (omega arith) (omega arith) (omega arith)
    move_progress (PAR-OP₂ {p = p} {q = q} d) w =
        around_progress (beside_the q) tt (move_progress d (no_while_inside (beside_the q) p w))
    move_progress (PAR-OP₃ {p = p} {q = q} d n) w = trade p q d n

  module _ (below : L → Bool) {inputs : Inputs} where
    moves_within :
        (n : ℕ) {m : ℕ} {C D : Configuration L} {ls : List NamedLine} (path : ExecutionPath below inputs m C ls D) →
        Held n C.process → moves_in below path ≤ potential n C.signals C.process
    unfolding moves_in
    moves_within n here h = omega arith
    moves_within n (more (MOVE d) rest) h =
        let moved = move_progress d h.whiles in
        omega (arith, moves_within n rest (held_on n moved h), moved_less n moved h)
    moves_within n (more {C = C} (INSTANT-OP d c) rest) h =
        omega (arith, moves_within n rest (held_changed n c h), changed_no_more n c d (inputs (suc C.instants)))

    steps_counted :
        {m : ℕ} {C D : Configuration L} {ls : List NamedLine} (path : ExecutionPath below inputs m C ls D) →
        m + C.instants ≡ moves_in below path + D.instants
    unfolding moves_in
    steps_counted here = omega arith
    steps_counted (more (MOVE d) rest) = omega (arith, steps_counted rest)
    steps_counted (more (INSTANT-OP d c) rest) = omega (arith, steps_counted rest)

    pub path_bounded :
        {m : ℕ} {C D : Configuration L} {ls : List NamedLine} (path : ExecutionPath below inputs m C ls D) →
        PathBounded below inputs path
    path_bounded {C = C} path =
        record {
          steps = steps_counted path;
          moves =
              λ h.
              le_trans
              (moves_within (counted C.process is_parallel) path (held_self C.process h))
              (most_is C.signals C.process);
        }
