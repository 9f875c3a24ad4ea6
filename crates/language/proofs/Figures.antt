-- The functions of 01's 'Steps' make exactly the steps of the report's Figures 1 to 4.
use Prim.Native.Nat.{ℕ, suc}
use mathlib.Core.Path.{◌≡◌, refl, ap, ap₂, sym, subst, ◌∙◌}
use mathlib.Core.Bool.{Bool, true, false, cond, not, not-not, true≢false, false≢true}
use mathlib.Core.List.{List}
use lib.IntN.{ℤ}
use Rattle.prelude.proofs.Bools.{by_cases, fails, or_left, or_right}
use Rattle.language.specs.Syntax.{Names, Proc, nil, assign, let_in, if_then_else, while, sequence, emit, local, watching, when, parallel, is_nil}
use Rattle.language.specs.Steps.{present, Output, silent, StepResult, leaves, inside, suspended, move, change, Inputs, instant_start, step}
use Rattle.language.specs.Calls.{System, output, next}
use Rattle.language.specs.Suspension.{Suspended, WHEN-SUS₁, WHEN-SUS₂, WATCH-SUS, SEQ-SUS, PAR-SUS}
use Rattle.language.specs.Moves.{Move, ASSIGN-OP, SEQ-OP₁, SEQ-OP₂, LET-OP, COND-OP₁, COND-OP₂, WHILE-OP₁, WHILE-OP₂, EMIT-OP, LOCAL-OP, WATCH-OP₁, WATCH-OP₂, WHEN-OP₁, WHEN-OP₂, PAR-OP₁, PAR-OP₂, PAR-OP₃}
use Rattle.language.specs.Instants.{Changed, WATCH-PRESENT, WATCH-ABSENT, WHEN-PRESENT, WHEN-ABSENT, SEQ-CHANGED, PAR-CHANGED, Step, MOVE, INSTANT-OP}
use Rattle.language.proofs.Suspensions.{suspended_of, suspended_is}

module _ {L : Type 0} where
  nil_of : (p : Proc L) → is_nil p ≡ true → p ≡ nil
  unfolding is_nil
  nil_of nil h = refl
  nil_of (assign x e) h = absurd (false≢true h)
  nil_of (let_in x δ e p) h = absurd (false≢true h)
  nil_of (if_then_else e p q) h = absurd (false≢true h)
  nil_of (while e p) h = absurd (false≢true h)
  nil_of (sequence p q) h = absurd (false≢true h)
  nil_of (emit a) h = absurd (false≢true h)
  nil_of (local a δ p) h = absurd (false≢true h)
  nil_of (watching a p) h = absurd (false≢true h)
  nil_of (when a p) h = absurd (false≢true h)
  nil_of (parallel p q) h = absurd (false≢true h)

  -- Figure 1
  suspended_not_nil : {E : ℕ → Bool} {p : Proc L} → Suspended E p → is_nil p ≡ false
  unfolding is_nil
  suspended_not_nil (WHEN-SUS₁ h) = refl
  suspended_not_nil (WHEN-SUS₂ d) = refl
  suspended_not_nil (WATCH-SUS d) = refl
  suspended_not_nil (SEQ-SUS d) = refl
  suspended_not_nil (PAR-SUS d d') = refl

  not_suspended_is : (p : Proc L) (s : List ℤ) → suspended p s ≡ false → Suspended (present s) p → ⊥
  not_suspended_is p s h d = true≢false (sym (suspended_of s d) ∙ h)

  not_suspended : (p : Proc L) (s : List ℤ) → (Suspended (present s) p → ⊥) → suspended p s ≡ false
  not_suspended p s n = fails (suspended p s) (λ h. n (suspended_is p s h))

  -- Figures 2 and 3
  move_not_nil : {s s' : List ℤ} {p p' : Proc L} {o : Output} → Move s p o p' s' → is_nil p ≡ false
  unfolding is_nil
  move_not_nil ASSIGN-OP = refl
  move_not_nil SEQ-OP₁ = refl
  move_not_nil (SEQ-OP₂ d) = refl
  move_not_nil LET-OP = refl
  move_not_nil (COND-OP₁ h) = refl
  move_not_nil (COND-OP₂ h) = refl
  move_not_nil (WHILE-OP₁ h) = refl
  move_not_nil (WHILE-OP₂ h) = refl
  move_not_nil EMIT-OP = refl
  move_not_nil LOCAL-OP = refl
  move_not_nil WATCH-OP₁ = refl
  move_not_nil (WATCH-OP₂ d) = refl
  move_not_nil (WHEN-OP₁ h) = refl
  move_not_nil (WHEN-OP₂ h d) = refl
  move_not_nil PAR-OP₁ = refl
  move_not_nil (PAR-OP₂ d) = refl
  move_not_nil (PAR-OP₃ d n) = refl

  move_not_suspended : {s s' : List ℤ} {p p' : Proc L} {o : Output} → Move s p o p' s' → suspended p s ≡ false
  unfolding suspended
  move_not_suspended ASSIGN-OP = refl
  move_not_suspended SEQ-OP₁ = refl
  move_not_suspended (SEQ-OP₂ d) = move_not_suspended d
  move_not_suspended LET-OP = refl
  move_not_suspended (COND-OP₁ h) = refl
  move_not_suspended (COND-OP₂ h) = refl
  move_not_suspended (WHILE-OP₁ h) = refl
  move_not_suspended (WHILE-OP₂ h) = refl
  move_not_suspended EMIT-OP = refl
  move_not_suspended LOCAL-OP = refl
  move_not_suspended WATCH-OP₁ = refl
  move_not_suspended (WATCH-OP₂ d) = move_not_suspended d
  move_not_suspended (WHEN-OP₁ h) = rw h
  move_not_suspended (WHEN-OP₂ h d) = rw (h, move_not_suspended d)
  move_not_suspended PAR-OP₁ = refl
  move_not_suspended (PAR-OP₂ d) = rw (move_not_suspended d)
  move_not_suspended {s} (PAR-OP₃ {q = q} d n) = rw (suspended_of s d, not_suspended q s n)

  -- the function's move is the only one that a rule allows
  abbrev Is : StepResult L → Output → Proc L → List ℤ → Type 0
  Is r o p s = (r.output ≡ o) × (r.process ≡ p) × (r.values ≡ s)

  is_inside :
      (context : Proc L → Proc L) {r : StepResult L} {o : Output} {p : Proc L} {s : List ℤ} →
      Is r o p s → Is (inside context r) o (context p) s
  is_inside context h = (h.0, ap context h.1, h.2)

  pub move_only : {s s' : List ℤ} {p p' : Proc L} {o : Output} → Move s p o p' s' → Is (move p s) o p' s'
  unfolding move is_nil
  move_only ASSIGN-OP = (refl, refl, refl)
  move_only SEQ-OP₁ = (refl, refl, refl)
  move_only (SEQ-OP₂ {q = q} d) = rw (move_not_nil d) (is_inside (λ z. sequence z q) (move_only d))
  move_only LET-OP = (refl, refl, refl)
  move_only (COND-OP₁ h) = rw h (refl, refl, refl)
  move_only (COND-OP₂ h) = rw h (refl, refl, refl)
  move_only (WHILE-OP₁ h) = rw h (refl, refl, refl)
  move_only (WHILE-OP₂ h) = rw h (refl, refl, refl)
  move_only EMIT-OP = (refl, refl, refl)
  move_only LOCAL-OP = (refl, refl, refl)
  move_only WATCH-OP₁ = (refl, refl, refl)
  move_only (WATCH-OP₂ {a = a} d) = rw (move_not_nil d) (is_inside (watching a) (move_only d))
  move_only (WHEN-OP₁ h) = (refl, refl, refl)
  move_only (WHEN-OP₂ {a = a} h d) = rw (move_not_nil d) (is_inside (when a) (move_only d))
  move_only PAR-OP₁ = (refl, refl, refl)
  move_only (PAR-OP₂ {q = q} d) = rw (move_not_nil d, move_not_suspended d) (is_inside (λ z. parallel z q) (move_only d))
  move_only {s} (PAR-OP₃ d n) = rw (suspended_not_nil d, suspended_of s d) (refl, refl, refl)

  -- and a rule allows it
  abbrev Allowed : List ℤ → Proc L → StepResult L → Type 0
  Allowed s p r = Move s p r.output r.process r.values

  pub move_is : (p : Proc L) (s : List ℤ) → is_nil p ≡ false → suspended p s ≡ false → Allowed s p (move p s)
  unfolding move suspended is_nil
  move_is nil s n h = absurd (true≢false n)
  move_is (assign x e) s n h = ASSIGN-OP
  move_is (let_in x δ e p) s n h = LET-OP
  move_is (if_then_else e p q) s n h = by_cases (λ z. Move s (if_then_else e p q) silent z s) _ COND-OP₁ COND-OP₂
  move_is (while e p) s n h = by_cases (λ z. Move s (while e p) silent z s) _ WHILE-OP₁ WHILE-OP₂
  move_is (sequence p q) s n h =
      by_cases (Allowed s (sequence p q)) _ (λ e. rw (nil_of p e) SEQ-OP₁) (λ e. SEQ-OP₂ (move_is p s e h))
  move_is (emit a) s n h = EMIT-OP
  move_is (local a δ p) s n h = LOCAL-OP
  move_is (watching a p) s n h =
      by_cases (Allowed s (watching a p)) _ (λ e. rw (nil_of p e) WATCH-OP₁) (λ e. WATCH-OP₂ (move_is p s e h))
  move_is (when a p) s n h =
      let here = sym (not-not (present s a)) ∙ ap not (or_left (not (present s a)) (suspended p s) h) in
      let free = or_right (not (present s a)) (suspended p s) h in
      by_cases (Allowed s (when a p)) _ (λ e. rw (nil_of p e) (WHEN-OP₁ here)) (λ e. WHEN-OP₂ here (move_is p s e free))
  move_is (parallel p q) s n h =
      by_cases
      (Allowed s (parallel p q))
      _
      (λ e. rw (nil_of p e) PAR-OP₁)
      (λ e.
      by_cases
      (Allowed s (parallel p q))
      _
      (λ w. PAR-OP₃ (suspended_is p s w) (not_suspended_is q s (rw w at h)))
      (λ w. PAR-OP₂ (move_is p s e w)))

  -- Figure 4
  changed_only : (s : List ℤ) {p p' : Proc L} → Changed (present s) p p' → change p s ≡ p'
  unfolding change
  changed_only s (WATCH-PRESENT h) = rw h refl
  changed_only s (WATCH-ABSENT {a = a} h d) = rw h (ap (watching a) (changed_only s d))
  changed_only s (WHEN-PRESENT {a = a} h d) = rw h (ap (when a) (changed_only s d))
  changed_only s (WHEN-ABSENT h) = rw h
  changed_only s (SEQ-CHANGED {q = q} d) = ap (λ z. sequence z q) (changed_only s d)
  changed_only s (PAR-CHANGED d d') = ap₂ parallel (changed_only s d) (changed_only s d')

  change_is : (s : List ℤ) {p : Proc L} → Suspended (present s) p → Changed (present s) p (change p s)
  unfolding change
  change_is s (WHEN-SUS₁ {a = a} {p = p} e) =
      by_cases (Changed (present s) (when a p)) _ (λ h. absurd (true≢false (sym h ∙ e))) WHEN-ABSENT
  change_is s (WHEN-SUS₂ {a = a} {p = p} d) =
      by_cases (Changed (present s) (when a p)) _ (λ h. WHEN-PRESENT h (change_is s d)) WHEN-ABSENT
  change_is s (WATCH-SUS {a = a} {p = p} d) =
      by_cases (Changed (present s) (watching a p)) _ WATCH-PRESENT (λ h. WATCH-ABSENT h (change_is s d))
  change_is s (SEQ-SUS d) = SEQ-CHANGED (change_is s d)
  change_is s (PAR-SUS d d') = PAR-CHANGED (change_is s d) (change_is s d')

module _ {L : Type 0} (names : Names L) (inputs : Inputs) (at : System L) where
  -- a system from its parts
  abbrev built : Proc L → List ℤ → ℕ → System L
  built p s i = record { process = p; values = s; steps = suc at.steps; instants = i }

  -- what is next, where it is known whether the process is suspended
  abbrev outcome : Bool → StepResult L
  outcome b =
      cond
      b
      (leaves (change at.process at.values) (instant_start names (inputs (suc at.instants)) at.values))
      (move at.process at.values)

  abbrev following : Bool → System L
  following b = built (outcome b).process (outcome b).values (cond b (suc at.instants) at.instants)

  known :
      (b : Bool) → suspended at.process at.values ≡ b →
      (output names inputs at ≡ (outcome b).output) × (next names inputs at ≡ following b)
  unfolding step
  known b h = subst (λ c. (output names inputs at ≡ (outcome c).output) × (next names inputs at ≡ following c)) h (refl, refl)

  pub step_only : {o : Output} {to : System L} → Step names inputs at o to → (output names inputs at ≡ o) × (next names inputs at ≡ to)
  step_only (MOVE d) =
      let k = known false (move_not_suspended d) in
      let m = move_only d in
      (k.0 ∙ m.0, k.1 ∙ ap₂ (λ p s. built p s at.instants) m.1 m.2)
  step_only (INSTANT-OP d c) =
      let k = known true (suspended_of at.values d) in (
        k.0,
        k.1 ∙ ap (λ p. built p (instant_start names (inputs (suc at.instants)) at.values) (suc at.instants))
            (changed_only at.values c),
      )

  pub step_is : is_nil at.process ≡ false → Step names inputs at (output names inputs at) (next names inputs at)
  unfolding step
  step_is n = go (suspended at.process at.values) refl
    where
      go : (b : Bool) → suspended at.process at.values ≡ b → Step names inputs at (outcome b).output (following b)
      go true h = let d = suspended_is at.process at.values h in INSTANT-OP d (change_is at.values d)
      go false h = MOVE (move_is at.process at.values n h)

  pub nil_rests : is_nil at.process ≡ true → {o : Output} {to : System L} → Step names inputs at o to → ⊥
  nil_rests h (MOVE d) = true≢false (sym h ∙ move_not_nil d)
  nil_rests h (INSTANT-OP d c) = true≢false (sym h ∙ suspended_not_nil d)
