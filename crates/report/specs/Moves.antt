-- RR-5594, Figures 2 and 3: moves, ⟨Γ, S, E, P⟩ → ⟨Γ', S', E', P'⟩. A move also says what it writes, which the record of
-- a run is made of. The new name of LET-OP and LOCAL-OP is ANY name of its kind that is not in dom(Γ); a new signal is
-- absent, since E ⊆ dom(Γ).
use Rattle.std.specs.Prelude.{ℕ, ◌≡◌, Bool, true, false, ℤ}
use Rattle.std.proofs.Math.Option.{none, some}
use Rattle.language.specs.Syntax.{Exp, Proc, nil, assign, let_in, if_then_else, while, sequence, emit, local, watching, when, parallel}
use Rattle.language.specs.NameKinds.{var, sig, put}
use Rattle.values.specs.Values.{holds}
use Rattle.language.specs.Typing.{Environment}
use Rattle.language.specs.Steps.{evaluate, Output, silent, assigned, emitted}
use Rattle.language.specs.Suspension.{Suspended}
use Rattle.report.specs.Names.{Substituted}
use Rattle.report.specs.Configurations.{update}

pub data Move {L : Type 0} (Γ : Environment L) (S : ℕ → ℤ) (E : ℕ → Bool) :
    Proc L → Output → Environment L → (ℕ → ℤ) → (ℕ → Bool) → Proc L → Type 0
  where
    -- Figure 2: imperative constructs
    ASSIGN-OP : {x : ℕ} {e : Exp} → Move Γ S E (assign x e) (assigned x (evaluate e S)) Γ
        (update S x (evaluate e S)) E nil
    SEQ-OP₁ : {q : Proc L} → Move Γ S E (sequence nil q) silent Γ S E q
    SEQ-OP₂ :
        {p p' q : Proc L} {o : Output} {Γ' : Environment L} {S' : ℕ → ℤ} {E' : ℕ → Bool} →
        Move Γ S E p o Γ' S' E' p' → Move Γ S E (sequence p q) o Γ' S' E' (sequence p' q)
    LET-OP :
        {x x' : ℕ} {δ : L} {e : Exp} {p p' : Proc L} →
        Γ var x' ≡ none → Substituted var x x' p p' →
        Move Γ S E (let_in x δ e p) silent (put Γ var x' (some δ)) (update S x' (evaluate e S)) E p'
    COND-OP₁ : {e : Exp} {p q : Proc L} → holds (evaluate e S) ≡ true → Move Γ S E (if_then_else e p q) silent Γ S E p
    COND-OP₂ : {e : Exp} {p q : Proc L} → holds (evaluate e S) ≡ false → Move Γ S E (if_then_else e p q) silent Γ S E q
    WHILE-OP₁ :
        {e : Exp} {p : Proc L} → holds (evaluate e S) ≡ true → Move Γ S E (while e p) silent Γ S E
        (sequence p (while e p))
    WHILE-OP₂ : {e : Exp} {p : Proc L} → holds (evaluate e S) ≡ false → Move Γ S E (while e p) silent Γ S E nil
    -- Figure 3: reactive constructs
    EMIT-OP : {a : ℕ} → Move Γ S E (emit a) (emitted a) Γ S (update E a true) nil
    LOCAL-OP :
        {a a' : ℕ} {δ : L} {p p' : Proc L} →
        Γ sig a' ≡ none → Substituted sig a a' p p' → Move Γ S E (local a δ p) silent (put Γ sig a' (some δ)) S E p'
    WATCH-OP₁ : {a : ℕ} → Move Γ S E (watching a nil) silent Γ S E nil
    WATCH-OP₂ :
        {a : ℕ} {p p' : Proc L} {o : Output} {Γ' : Environment L} {S' : ℕ → ℤ} {E' : ℕ → Bool} →
        Move Γ S E p o Γ' S' E' p' → Move Γ S E (watching a p) o Γ' S' E' (watching a p')
    WHEN-OP₁ : {a : ℕ} → E a ≡ true → Move Γ S E (when a nil) silent Γ S E nil
    WHEN-OP₂ :
        {a : ℕ} {p p' : Proc L} {o : Output} {Γ' : Environment L} {S' : ℕ → ℤ} {E' : ℕ → Bool} →
        E a ≡ true → Move Γ S E p o Γ' S' E' p' → Move Γ S E (when a p) o Γ' S' E' (when a p')
    PAR-OP₁ : {q : Proc L} → Move Γ S E (parallel nil q) silent Γ S E q
    PAR-OP₂ :
        {p p' q : Proc L} {o : Output} {Γ' : Environment L} {S' : ℕ → ℤ} {E' : ℕ → Bool} →
        Move Γ S E p o Γ' S' E' p' → Move Γ S E (parallel p q) o Γ' S' E' (parallel p' q)
    PAR-OP₃ :
        {p q : Proc L} → Suspended E p → (Suspended E q → ⊥) → Move Γ S E (parallel p q) silent Γ S E (parallel q p)
