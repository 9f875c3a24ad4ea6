-- What a process may test and write, seen by a reader of the low names; and that every step keeps it so.
use Prim.Native.Nat.{ℕ}
use mathlib.Core.Path.{◌≡◌}
use mathlib.Core.Bool.{Bool, true, false}
use mathlib.Core.List.{List}
use mathlib.Core.Logic.{◌⊎◌, ⊎_map}
use lib.IntN.{ℤ}
use Rattle.prelude.proofs.Bools.{by_cases}
use Rattle.language.specs.Syntax.{Names, Exp, Occurs, Proc, nil, assign, let_in, if_then_else, while, sequence, emit, local, watching, when, parallel, is_nil}
use Rattle.language.specs.Steps.{present, test, StepResult, suspended, move, change, step}

-- Tested names are among the first, assigned and emitted names among the second, declared names among the third.
module _ {L : Type 0} (tested written declared : ℕ → Type 0) where
  abbrev pub Uses : Proc L → Type 0
  Uses nil = Unit {0}
  Uses (assign x e) = written x
  Uses (let_in x δ e p) = declared x × Uses p
  Uses (if_then_else e p q) = ((x : ℕ) → Occurs x e → tested x) × Uses p × Uses q
  Uses (while e p) = ((x : ℕ) → Occurs x e → tested x) × Uses p
  Uses (sequence p q) = Uses p × Uses q
  Uses (emit a) = written a
  Uses (local a δ p) = declared a × Uses p
  Uses (watching a p) = tested a × Uses p
  Uses (when a p) = tested a × Uses p
  Uses (parallel p q) = Uses p × Uses q

  change_uses : (p : Proc L) (s : List ℤ) → Uses p → Uses (change p s)
  unfolding change
  change_uses nil s h = h
  change_uses (assign x e) s h = h
  change_uses (let_in x δ e p) s h = h
  change_uses (if_then_else e p q) s h = h
  change_uses (while e p) s h = h
  change_uses (sequence p q) s h = (change_uses p s h.0, h.1)
  change_uses (emit a) s h = h
  change_uses (local a δ p) s h = h
  change_uses (watching a p) s h = by_cases Uses (present s a) (λ t. tt) (λ f. (h.0, change_uses p s h.1))
  change_uses (when a p) s h = by_cases Uses (present s a) (λ t. (h.0, change_uses p s h.1)) (λ f. h)
  change_uses (parallel p q) s h = (change_uses p s h.0, change_uses q s h.1)

  -- of what an outcome leaves
  abbrev pub UsesAfter : StepResult L → Type 0
  UsesAfter r = Uses r.process

  move_uses : (p : Proc L) (s : List ℤ) → Uses p → UsesAfter (move p s)
  unfolding move
  move_uses nil s h = h
  move_uses (assign x e) s h = tt
  move_uses (let_in x δ e p) s h = h.1
  move_uses (if_then_else e p q) s h = by_cases Uses (test e s) (λ t. h.1) (λ f. h.2)
  move_uses (while e p) s h = by_cases Uses (test e s) (λ t. (h.1, h)) (λ f. tt)
  move_uses (sequence p q) s h = by_cases UsesAfter (is_nil p) (λ t. h.1) (λ f. (move_uses p s h.0, h.1))
  move_uses (emit a) s h = tt
  move_uses (local a δ p) s h = h.1
  move_uses (watching a p) s h = by_cases UsesAfter (is_nil p) (λ t. tt) (λ f. (h.0, move_uses p s h.1))
  move_uses (when a p) s h = by_cases UsesAfter (is_nil p) (λ t. tt) (λ f. (h.0, move_uses p s h.1))
  move_uses (parallel p q) s h =
      by_cases
      UsesAfter
      (is_nil p)
      (λ t. h.1)
      (λ f. by_cases UsesAfter (suspended p s) (λ t. (h.1, h.0)) (λ g. (move_uses p s h.0, h.1)))

  pub step_uses :
      (names : Names L) (listed : ℕ → Bool) (p : Proc L) (s : List ℤ) → Uses p → UsesAfter (step names listed p s)
  unfolding step
  step_uses names listed p s h = by_cases UsesAfter (suspended p s) (λ t. change_uses p s h) (λ f. move_uses p s h)

module _ {L : Type 0} (names : Names L) (low : ℕ → Bool) where
  abbrev pub LowReads : Exp → Type 0
  LowReads e = (x : ℕ) → Occurs x e → low x ≡ true

  -- every test is of low names
  abbrev pub LowTests : Proc L → Type 0
  LowTests = Uses (λ x. low x ≡ true) (λ x. Unit {0}) (λ x. Unit {0})

  -- no low name is assigned or emitted, and what is declared is not the session's
  abbrev pub Quiet : Proc L → Type 0
  Quiet = Uses (λ x. Unit {0}) (λ x. low x ≡ false) (λ x. names.is_session x ≡ false)

  -- at each construct the tests that it goes by are low, or what follows them is quiet
  abbrev pub Safe : Proc L → Type 0
  Safe nil = Unit {0}
  Safe (assign x e) = low x ≡ true → LowReads e
  Safe (let_in x δ e p) = (low x ≡ true → LowReads e) × Safe p
  Safe (if_then_else e p q) = (LowReads e ⊎ (Quiet p × Quiet q)) × Safe p × Safe q
  Safe (while e p) = ((LowReads e × LowTests p) ⊎ Quiet p) × Safe p
  Safe (sequence p q) = (LowTests p ⊎ Quiet q) × Safe p × Safe q
  Safe (emit a) = Unit {0}
  Safe (local a δ p) = Safe p
  Safe (watching a p) = ((low a ≡ true) ⊎ Quiet p) × Safe p
  Safe (when a p) = ((low a ≡ true) ⊎ Quiet p) × Safe p
  Safe (parallel p q) = (LowTests p ⊎ Quiet q) × (LowTests q ⊎ Quiet p) × Safe p × Safe q

module _ {L : Type 0} (names : Names L) (low : ℕ → Bool) where
  change_tests : (p : Proc L) (s : List ℤ) → LowTests names low p → LowTests names low (change p s)
  change_tests = change_uses _ _ _

  change_quiet : (p : Proc L) (s : List ℤ) → Quiet names low p → Quiet names low (change p s)
  change_quiet = change_uses _ _ _

  change_safe : (p : Proc L) (s : List ℤ) → Safe names low p → Safe names low (change p s)
  unfolding change
  change_safe nil s h = h
  change_safe (assign x e) s h = h
  change_safe (let_in x δ e p) s h = h
  change_safe (if_then_else e p q) s h = h
  change_safe (while e p) s h = h
  change_safe (sequence p q) s h = (⊎_map (change_tests p s) (λ u. u) h.0, change_safe p s h.1, h.2)
  change_safe (emit a) s h = h
  change_safe (local a δ p) s h = h
  change_safe (watching a p) s h =
      by_cases
      (Safe names low)
      (present s a)
      (λ t. tt)
      (λ f. (⊎_map (λ u. u) (change_quiet p s) h.0, change_safe p s h.1))
  change_safe (when a p) s h =
      by_cases
      (Safe names low)
      (present s a)
      (λ t. (⊎_map (λ u. u) (change_quiet p s) h.0, change_safe p s h.1))
      (λ f. h)
  change_safe (parallel p q) s h = (
    ⊎_map (change_tests p s) (change_quiet q s) h.0,
    ⊎_map (change_tests q s) (change_quiet p s) h.1,
    change_safe p s h.2,
    change_safe q s h.3,
  )

  abbrev SafeAfter : StepResult L → Type 0
  SafeAfter r = Safe names low r.process

  move_tests : (p : Proc L) (s : List ℤ) → LowTests names low p → LowTests names low (move p s).process
  move_tests = move_uses _ _ _

  move_quiet : (p : Proc L) (s : List ℤ) → Quiet names low p → Quiet names low (move p s).process
  move_quiet = move_uses _ _ _

  move_safe : (p : Proc L) (s : List ℤ) → Safe names low p → SafeAfter (move p s)
  unfolding move
  move_safe nil s h = h
  move_safe (assign x e) s h = tt
  move_safe (let_in x δ e p) s h = h.1
  move_safe (if_then_else e p q) s h = by_cases (Safe names low) (test e s) (λ t. h.1) (λ f. h.2)
  move_safe (while e p) s h =
      by_cases (Safe names low) (test e s) (λ t. (⊎_map (λ u. u.1) (λ u. (λ x o. tt, u)) h.0, h.1, h)) (λ f. tt)
  move_safe (sequence p q) s h =
      by_cases SafeAfter (is_nil p) (λ t. h.2) (λ f. (⊎_map (move_tests p s) (λ u. u) h.0, move_safe p s h.1, h.2))
  move_safe (emit a) s h = tt
  move_safe (local a δ p) s h = h
  move_safe (watching a p) s h =
      by_cases SafeAfter (is_nil p) (λ t. tt) (λ f. (⊎_map (λ u. u) (move_quiet p s) h.0, move_safe p s h.1))
  move_safe (when a p) s h =
      by_cases SafeAfter (is_nil p) (λ t. tt) (λ f. (⊎_map (λ u. u) (move_quiet p s) h.0, move_safe p s h.1))
  move_safe (parallel p q) s h =
      by_cases
      SafeAfter
      (is_nil p)
      (λ t. h.3)
      (λ f.
      by_cases
      SafeAfter
      (suspended p s)
      (λ t. (h.1, h.0, h.3, h.2))
      (λ g. (⊎_map (move_tests p s) (λ u. u) h.0, ⊎_map (λ u. u) (move_quiet p s) h.1, move_safe p s h.2, h.3)))

  pub step_safe :
      (listed : ℕ → Bool) (p : Proc L) (s : List ℤ) → Safe names low p → SafeAfter (step names listed p s)
  unfolding step
  step_safe listed p s h = by_cases SafeAfter (suspended p s) (λ t. change_safe p s h) (λ f. move_safe p s h)
