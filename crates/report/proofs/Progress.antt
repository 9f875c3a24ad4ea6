-- The report can always make the next step, with a name that is not in dom(Γ) where it wants one.
use Prim.Native.Nat.{ℕ, suc, ◌+◌, ◌≤◌, ◌<◌}
use native.Mathlib.Nat.{le_refl}
use native.Mathlib.Omega.{arith}
use mathlib.Core.Path.{◌≡◌, refl, sym, ◌∙◌}
use mathlib.Core.Bool.{Bool, true, false, true≢false}
use mathlib.Core.Option.{none, some}
use mathlib.Core.Logic.{◌⊎◌, inl, inr, ⊎_elim}
use lib.IntN.{ℤ}
use Rattle.prelude.proofs.Bools.{by_cases}
use Rattle.values.specs.Values.{holds}
use Rattle.language.specs.Syntax.{Exp, constant, register, binary, negated, Occurs, here, left, right, under, Proc, nil, assign, let_in, if_then_else, while, sequence, emit, local, watching, when, parallel}
use Rattle.language.specs.NameKinds.{Kind, var, sig, same, put}
use Rattle.language.specs.Typing.{Environment}
use Rattle.language.specs.Steps.{evaluate, Output, Inputs}
use Rattle.language.proofs.NameKinds.{same_number, other, either}
use Rattle.report.specs.Names.{Free, Renaming, renamed_in, Renamed, r_nil, r_assign, r_let, r_if, r_while, r_sequence, r_emit, r_local, r_watching, r_when, r_parallel, Substituted}
use Rattle.report.specs.Configurations.{Configuration}
use Rattle.language.specs.Suspension.{Suspended, WHEN-SUS₁, WHEN-SUS₂, WATCH-SUS, SEQ-SUS, PAR-SUS}
use Rattle.report.specs.Moves.{Move, ASSIGN-OP, SEQ-OP₁, SEQ-OP₂, LET-OP, COND-OP₁, COND-OP₂, WHILE-OP₁, WHILE-OP₂, EMIT-OP, LOCAL-OP, WATCH-OP₁, WATCH-OP₂, WHEN-OP₁, WHEN-OP₂, PAR-OP₁, PAR-OP₂, PAR-OP₃}
use Rattle.language.specs.Instants.{Changed, WATCH-PRESENT, WATCH-ABSENT, WHEN-PRESENT, WHEN-ABSENT, SEQ-CHANGED, PAR-CHANGED}
use Rattle.report.specs.Instants.{Step, MOVE, INSTANT-OP, Alive}

-- Every name of an expression, or free in a process, is below a number.
expression_top : Exp → ℕ
expression_top (constant v) = 0
expression_top (register x) = suc x
expression_top (binary o a b) = expression_top a + expression_top b
expression_top (negated a) = expression_top a

occurs_below : {y : ℕ} {e : Exp} → Occurs y e → y < expression_top e
unfolding expression_top
occurs_below here = le_refl _
occurs_below (left o) = omega (arith, occurs_below o)
occurs_below (right o) = omega (arith, occurs_below o)
occurs_below (under o) = occurs_below o

number_below : (kk : Kind) (x : ℕ) (k : Kind) (y : ℕ) → same kk x k y ≡ true → y < suc x
number_below kk x k y h = omega (arith, same_number kk x k y h)

module _ {L : Type 0} where
  top : Proc L → ℕ
  top nil = 0
  top (assign x e) = suc x + expression_top e
  top (let_in x l e p) = expression_top e + top p
  top (if_then_else e p q) = expression_top e + (top p + top q)
  top (while e p) = expression_top e + top p
  top (sequence p q) = top p + top q
  top (emit a) = suc a
  top (local a l p) = top p
  top (watching a p) = suc a + top p
  top (when a p) = suc a + top p
  top (parallel p q) = top p + top q

  free_below : (p : Proc L) (k : Kind) (y : ℕ) → Free k y p → y < top p
  unfolding top
  free_below nil k y h = elim h [ ]
  free_below (assign x e) k y (inl h) = omega (arith, number_below var x k y h)
  free_below (assign x e) k y (inr r) = omega (arith, occurs_below r.1)
  free_below (let_in x l e p) k y (inl r) = omega (arith, occurs_below r.1)
  free_below (let_in x l e p) k y (inr f) = omega (arith, free_below p k y f.1)
  free_below (if_then_else e p q) k y (inl r) = omega (arith, occurs_below r.1)
  free_below (if_then_else e p q) k y (inr (inl f)) = omega (arith, free_below p k y f)
  free_below (if_then_else e p q) k y (inr (inr f)) = omega (arith, free_below q k y f)
  free_below (while e p) k y (inl r) = omega (arith, occurs_below r.1)
  free_below (while e p) k y (inr f) = omega (arith, free_below p k y f)
  free_below (sequence p q) k y (inl f) = omega (arith, free_below p k y f)
  free_below (sequence p q) k y (inr f) = omega (arith, free_below q k y f)
  free_below (emit a) k y h = number_below sig a k y h
  free_below (local a l p) k y f = free_below p k y f.1
  free_below (watching a p) k y (inl h) = omega (arith, number_below sig a k y h)
  free_below (watching a p) k y (inr f) = omega (arith, free_below p k y f)
  free_below (when a p) k y (inl h) = omega (arith, number_below sig a k y h)
  free_below (when a p) k y (inr f) = omega (arith, free_below p k y f)
  free_below (parallel p q) k y (inl f) = omega (arith, free_below p k y f)
  free_below (parallel p q) k y (inr f) = omega (arith, free_below q k y f)

  abbrev Below : Renaming → Proc L → ℕ → Type 0
  Below ρ p m = (k : Kind) (y : ℕ) → Free k y p → ρ k y < m

  below_put :
      (ρ : Renaming) (kk : Kind) (x : ℕ) (p : Proc L) (m : ℕ) →
      ((k : Kind) (y : ℕ) → same kk x k y ≡ false → Free k y p → ρ k y < m) → Below (put ρ kk x m) p (suc m)
  below_put ρ kk x p m h k y f =
      by_cases (λ z. z < suc m) (same kk x k y) (λ e. le_refl _) (λ e. omega (arith, h k y e f))

  -- A renaming exists.
  pub rename : (p : Proc L) (ρ : Renaming) (m : ℕ) → Below ρ p m → (p' : Proc L) × Renamed ρ p p'
  rename nil ρ m h = (nil, r_nil)
  rename (assign x e) ρ m h = (assign (ρ var x) (renamed_in (ρ var) e), r_assign refl refl)
  rename (let_in x l e p) ρ m h =
      let u = rename p (put ρ var x m) (suc m) (below_put ρ var x p m (λ k y n f. h k y (inr (n, f)))) in (
        let_in m l (renamed_in (ρ var) e) u.0,
        r_let refl (λ k y f n. other var m k (ρ k y) (λ e e'. omega (arith, h k y (inr (n, f))))) u.1,
      )
  rename (if_then_else e p q) ρ m h =
      let u = rename p ρ m (λ k y f. h k y (inr (inl f))) in
      let w = rename q ρ m (λ k y f. h k y (inr (inr f))) in
      (if_then_else (renamed_in (ρ var) e) u.0 w.0, r_if refl u.1 w.1)
  rename (while e p) ρ m h =
      let u = rename p ρ m (λ k y f. h k y (inr f)) in
      (while (renamed_in (ρ var) e) u.0, r_while refl u.1)
  rename (sequence p q) ρ m h =
      let u = rename p ρ m (λ k y f. h k y (inl f)) in
      let w = rename q ρ m (λ k y f. h k y (inr f)) in
      (sequence u.0 w.0, r_sequence u.1 w.1)
  rename (emit a) ρ m h = (emit (ρ sig a), r_emit refl)
  rename (local a l p) ρ m h =
      let u = rename p (put ρ sig a m) (suc m) (below_put ρ sig a p m (λ k y n f. h k y (n, f))) in (
        local m l u.0,
        r_local (λ k y f n. other sig m k (ρ k y) (λ e e'. omega (arith, h k y (n, f)))) u.1,
      )
  rename (watching a p) ρ m h =
      let u = rename p ρ m (λ k y f. h k y (inr f)) in
      (watching (ρ sig a) u.0, r_watching refl u.1)
  rename (when a p) ρ m h =
      let u = rename p ρ m (λ k y f. h k y (inr f)) in
      (when (ρ sig a) u.0, r_when refl u.1)
  rename (parallel p q) ρ m h =
      let u = rename p ρ m (λ k y f. h k y (inl f)) in
      let w = rename q ρ m (λ k y f. h k y (inr f)) in
      (parallel u.0 w.0, r_parallel u.1 w.1)

  pub substitute : (p : Proc L) (kk : Kind) (x z : ℕ) → (p' : Proc L) × Substituted kk x z p p'
  substitute p kk x z =
      rename p _ (suc z + top p) (λ k y f.
      by_cases
      (λ u. u < suc z + top p)
      (same kk x k y)
      (λ e. omega arith)
      (λ e. omega (arith, free_below p k y f)))

module _ {L : Type 0} (E : ℕ → Bool) where
  sequence_inverse : {p q : Proc L} → Suspended E (sequence p q) → Suspended E p
  sequence_inverse (SEQ-SUS f) = f

  watching_inverse : {a : ℕ} {p : Proc L} → Suspended E (watching a p) → Suspended E p
  watching_inverse (WATCH-SUS f) = f

  when_inverse : {a : ℕ} {p : Proc L} → Suspended E (when a p) → (E a ≡ false) ⊎ Suspended E p
  when_inverse (WHEN-SUS₁ e) = inl e
  when_inverse (WHEN-SUS₂ f) = inr f

  parallel_inverse : {p q : Proc L} → Suspended E (parallel p q) → Suspended E p × Suspended E q
  parallel_inverse (PAR-SUS f g) = (f, g)

  suspended? : (p : Proc L) → Suspended E p ⊎ (Suspended E p → ⊥)
  suspended? nil = inr (λ f. elim f [ ])
  suspended? (assign x e) = inr (λ f. elim f [ ])
  suspended? (let_in x δ e p) = inr (λ f. elim f [ ])
  suspended? (if_then_else e p q) = inr (λ f. elim f [ ])
  suspended? (while e p) = inr (λ f. elim f [ ])
  suspended? (emit a) = inr (λ f. elim f [ ])
  suspended? (local a δ p) = inr (λ f. elim f [ ])
  suspended? (sequence p q) = ⊎_elim (λ f. inl (SEQ-SUS f)) (λ n. inr (λ f. n (sequence_inverse f))) (suspended? p)
  suspended? (watching a p) = ⊎_elim (λ f. inl (WATCH-SUS f)) (λ n. inr (λ f. n (watching_inverse f))) (suspended? p)
  suspended? (when a p) =
      ⊎_elim
      (λ e.
      ⊎_elim
      (λ f. inl (WHEN-SUS₂ f))
      (λ n. inr (λ f. ⊎_elim (λ h. true≢false (sym e ∙ h)) n (when_inverse f)))
      (suspended? p))
      (λ e. inl (WHEN-SUS₁ e))
      (either (E a))
  suspended? (parallel p q) =
      ⊎_elim
      (λ f. ⊎_elim (λ g. inl (PAR-SUS f g)) (λ n. inr (λ h. n (parallel_inverse h).1)) (suspended? q))
      (λ n. inr (λ h. n (parallel_inverse h).0))
      (suspended? p)

  -- [p]_E is there for what is suspended
  changes : {p : Proc L} → Suspended E p → (p' : Proc L) × Changed E p p'
  changes (WHEN-SUS₁ e) = (_, WHEN-ABSENT e)
  changes (WHEN-SUS₂ {a = a} f) =
      let u = changes f in
      ⊎_elim (λ e. (_, WHEN-PRESENT e u.1)) (λ e. (_, WHEN-ABSENT e)) (either (E a))
  changes (WATCH-SUS {a = a} f) =
      let u = changes f in
      ⊎_elim (λ e. (_, WATCH-PRESENT e)) (λ e. (_, WATCH-ABSENT e u.1)) (either (E a))
  changes (SEQ-SUS f) = (_, SEQ-CHANGED (changes f).1)
  changes (PAR-SUS f g) = (_, PAR-CHANGED (changes f).1 (changes g).1)

-- Γ has no name from m on
abbrev pub NamesBelow : {L : Type 0} → ℕ → Environment L → Type 0
NamesBelow m Γ = (k : Kind) (x : ℕ) → m ≤ x → Γ k x ≡ none

below_more : {L : Type 0} (Γ : Environment L) (m : ℕ) → NamesBelow m Γ → NamesBelow (suc m) Γ
below_more Γ m h k x l = h k x (omega arith)

below_with : {L : Type 0} (Γ : Environment L) (m : ℕ) (k : Kind) (δ : L) → NamesBelow m Γ → NamesBelow (suc m)
    (put Γ k m (some δ))
below_with Γ m k δ h j x l = rw (other k m j x (λ e q. omega arith)) (h j x (omega arith))

module _ {L : Type 0} (m : ℕ) (Γ : Environment L) (S : ℕ → ℤ) (E : ℕ → Bool) (h : NamesBelow m Γ) where
  record CanMove (p : Proc L) : Type 0 where
    out : Output
    Γ' : Environment L
    S' : ℕ → ℤ
    E' : ℕ → Bool
    rest : Proc L
    move : Move Γ S E p out Γ' S' E' rest
    names : NamesBelow (suc m) Γ'

  -- nil, suspended, or able to move, with the name m where a fresh one is wanted
  abbrev Can : Proc L → Type 0
  Can p = (p ≡ nil) ⊎ (Suspended E p ⊎ CanMove p)

  it :
      {Γ' : Environment L} {S' : ℕ → ℤ} {E' : ℕ → Bool} {p p' : Proc L} {o : Output} →
      NamesBelow (suc m) Γ' → Move Γ S E p o Γ' S' E' p' → Can p
  it b f = inr (inr (record { out = _; Γ' = _; S' = _; E' = _; rest = _; move = f; names = b }))

  can : (p : Proc L) → Can p
  can nil = inl refl
  can (assign x e) = it (below_more Γ m h) ASSIGN-OP
  can (let_in x δ e p) = it (below_with Γ m var δ h) (LET-OP (h var m (le_refl _)) (substitute p var x m).1)
  can (if_then_else e p q) =
      ⊎_elim
      (λ w. it (below_more Γ m h) (COND-OP₁ w))
      (λ w. it (below_more Γ m h) (COND-OP₂ w))
      (either (holds (evaluate e S)))
  can (while e p) =
      ⊎_elim
      (λ w. it (below_more Γ m h) (WHILE-OP₁ w))
      (λ w. it (below_more Γ m h) (WHILE-OP₂ w))
      (either (holds (evaluate e S)))
  can (emit a) = it (below_more Γ m h) EMIT-OP
  can (local a δ p) = it (below_with Γ m sig δ h) (LOCAL-OP (h sig m (le_refl _)) (substitute p sig a m).1)
  can (sequence p q) = go (can p)
    where
      go : Can p → Can (sequence p q)
      go (inl e) = rw e (it (below_more Γ m h) SEQ-OP₁)
      go (inr (inl f)) = inr (inl (SEQ-SUS f))
      go (inr (inr u)) = it u.names (SEQ-OP₂ u.move)
  can (watching a p) = go (can p)
    where
      go : Can p → Can (watching a p)
      go (inl e) = rw e (it (below_more Γ m h) WATCH-OP₁)
      go (inr (inl f)) = inr (inl (WATCH-SUS f))
      go (inr (inr u)) = it u.names (WATCH-OP₂ u.move)
  can (when a p) = go (either (E a)) (can p)
    where
      go : (E a ≡ true) ⊎ (E a ≡ false) → Can p → Can (when a p)
      go (inr n) u = inr (inl (WHEN-SUS₁ n))
      go (inl w) (inl e) = rw e (it (below_more Γ m h) (WHEN-OP₁ w))
      go (inl w) (inr (inl f)) = inr (inl (WHEN-SUS₂ f))
      go (inl w) (inr (inr u)) = it u.names (WHEN-OP₂ w u.move)
  can (parallel p q) = go (can p) (suspended? E q)
    where
      go : Can p → Suspended E q ⊎ (Suspended E q → ⊥) → Can (parallel p q)
      go (inl e) w = rw e (it (below_more Γ m h) PAR-OP₁)
      go (inr (inl f)) (inl g) = inr (inl (PAR-SUS f g))
      go (inr (inl f)) (inr n) = it (below_more Γ m h) (PAR-OP₃ f n)
      go (inr (inr u)) w = it u.names (PAR-OP₂ u.move)

-- Proposition 2.4: a configuration is terminated exactly when its process is nil
pub record CanStep {L : Type 0} (inputs : Inputs) (m : ℕ) (C : Configuration L) : Type 0 where
  pub alive : Alive inputs C
  pub names : NamesBelow (suc m) alive.next.environment

pub can_step :
    {L : Type 0} (inputs : Inputs) (m : ℕ) (C : Configuration L) → NamesBelow m C.environment →
    (C.process ≡ nil) ⊎ CanStep inputs m C
can_step inputs m C h = go (can m C.environment C.store C.signals h C.process)
  where
    go : Can m C.environment C.store C.signals h C.process → (C.process ≡ nil) ⊎ CanStep inputs m C
    go (inl e) = inl e
    go (inr (inl f)) =
        let u = changes C.signals f in
        inr (record {
          alive = record { output = _; next = _; step = INSTANT-OP f u.1 };
          names = below_more C.environment m h;
        })
    go (inr (inr u)) =
        inr (record { alive = record { output = _; next = _; step = MOVE u.move }; names = u.names })

no_move :
    {L : Type 0} {Γ Γ' : Environment L} {S S' : ℕ → ℤ} {E E' : ℕ → Bool} {p p' : Proc L} {o : Output} →
    Move Γ S E p o Γ' S' E' p' → p ≡ nil → ⊥
no_move f q = elim (rw q at f) [ ]

no_suspension : {L : Type 0} {E : ℕ → Bool} {p : Proc L} → Suspended E p → p ≡ nil → ⊥
no_suspension f q = elim (rw q at f) [ ]

pub nil_terminated : {L : Type 0} (inputs : Inputs) (C : Configuration L) → C.process ≡ nil → Alive inputs C → ⊥
nil_terminated inputs C q a = go a.step
  where
    go : {o : Output} {D : Configuration _} → Step inputs C o D → ⊥
    go (MOVE f) = no_move f q
    go (INSTANT-OP f g) = no_suspension f q
