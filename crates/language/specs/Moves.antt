-- RR-5594, Figures 2 and 3: moves, C → C'. A configuration ⟨Γ, S, E, P⟩ is the process with the values that hold S and
-- E; Γ plays no part in a move. A move also says what it writes, which the record of a run is made of.
--
-- In the report LET-OP and LOCAL-OP put a fresh name for the declared one. Here the declared name stays: LET-OP sets
-- it, and LOCAL-OP makes it absent, as a fresh signal is.
use Rattle.std.specs.Prelude.{ℕ, ◌≡◌, true, false, List, ℤ, pos, set}
use Rattle.language.specs.Syntax.{Exp, Proc, nil, assign, let_in, if_then_else, while, sequence, emit, local, watching, when, parallel}
use Rattle.language.specs.Steps.{present, value, test, Output, silent, assigned, emitted}
use Rattle.language.specs.Suspension.{Suspended}

pub data Move {L : Type 0} (s : List ℤ) : Proc L → Output → Proc L → List ℤ → Type 0 where
  -- Figure 2: imperative constructs
  ASSIGN-OP : {x : ℕ} {e : Exp} → Move s (assign x e) (assigned x (value e s)) nil (set s x (value e s))
  SEQ-OP₁ : {q : Proc L} → Move s (sequence nil q) silent q s
  SEQ-OP₂ : {p p' q : Proc L} {o : Output} {s' : List ℤ} → Move s p o p' s' → Move s (sequence p q) o (sequence p' q) s'
  LET-OP : {x : ℕ} {δ : L} {e : Exp} {p : Proc L} → Move s (let_in x δ e p) silent p (set s x (value e s))
  COND-OP₁ : {e : Exp} {p q : Proc L} → test e s ≡ true → Move s (if_then_else e p q) silent p s
  COND-OP₂ : {e : Exp} {p q : Proc L} → test e s ≡ false → Move s (if_then_else e p q) silent q s
  WHILE-OP₁ : {e : Exp} {p : Proc L} → test e s ≡ true → Move s (while e p) silent (sequence p (while e p)) s
  WHILE-OP₂ : {e : Exp} {p : Proc L} → test e s ≡ false → Move s (while e p) silent nil s
  -- Figure 3: reactive constructs
  EMIT-OP : {a : ℕ} → Move s (emit a) (emitted a) nil (set s a (pos 1))
  LOCAL-OP : {a : ℕ} {δ : L} {p : Proc L} → Move s (local a δ p) silent p (set s a (pos 0))
  WATCH-OP₁ : {a : ℕ} → Move s (watching a nil) silent nil s
  WATCH-OP₂ :
      {a : ℕ} {p p' : Proc L} {o : Output} {s' : List ℤ} → Move s p o p' s' → Move s (watching a p) o (watching a p') s'
  WHEN-OP₁ : {a : ℕ} → present s a ≡ true → Move s (when a nil) silent nil s
  WHEN-OP₂ :
      {a : ℕ} {p p' : Proc L} {o : Output} {s' : List ℤ} →
      present s a ≡ true → Move s p o p' s' → Move s (when a p) o (when a p') s'
  PAR-OP₁ : {q : Proc L} → Move s (parallel nil q) silent q s
  PAR-OP₂ : {p p' q : Proc L} {o : Output} {s' : List ℤ} → Move s p o p' s' → Move s (parallel p q) o (parallel p' q) s'
  PAR-OP₃ :
      {p q : Proc L} → Suspended (present s) p → (Suspended (present s) q → ⊥) →
      Move s (parallel p q) silent (parallel q p) s
