-- RR-5594, Figure 5: the typing rules.
use Rattle.std.specs.Prelude.{ℕ, ◌≡◌, Bool, true, cond, ◌&&◌}
use Rattle.std.proofs.Math.Option.{Option, none, some}
use Rattle.lattice.specs.Lattice.{Lattice}
use Rattle.language.specs.Syntax.{Names, Exp, Occurs, Proc, nil, assign, let_in, if_then_else, while, sequence, emit, local, watching, when, parallel}
use Rattle.language.specs.NameKinds.{Kind, var, sig, put, is_of}

-- Γ: the level of each name that it has. 'Γ(x) = δ var' is Γ var x ≡ some δ, 'Γ(a) = δ sig' is Γ sig a ≡ some δ.
abbrev pub Environment : Type 0 → Type 0
Environment L = Kind → ℕ → Option L

-- the environment of the names in a scope, each with its kind and level
abbrev pub environment : {L : Type 0} → Names L → (ℕ → Bool) → Environment L
environment names scope k x = cond (scope x && is_of k (names.is_signal x)) (some (names.level x)) none

module _ {L : Type 0} (𝓛 : Lattice L) where
  -- δ is at or below θ
  abbrev pub Below : L → L → Type 0
  Below δ θ = 𝓛.leq δ θ ≡ true

  -- Γ ⊢ e : δ
  pub data HasLevel (Γ : Environment L) : Exp → L → Type 0 where
    EXPR : {e : Exp} {δ : L} → ((x : ℕ) → Occurs x e → (θ : L) × (Γ var x ≡ some θ) × Below θ δ) → HasLevel Γ e δ

  -- Γ ⊢ p : (θ, σ) cmd
  pub data Typed : Environment L → Proc L → L → L → Type 0 where
    NIL : {Γ : Environment L} {θ σ : L} → Typed Γ nil θ σ
    ASSIGN : {Γ : Environment L} {x : ℕ} {e : Exp} {θ σ : L} → HasLevel Γ e θ → Γ var x ≡ some θ → Typed Γ (assign x e) θ σ
    LET :
        {Γ : Environment L} {x : ℕ} {e : Exp} {p : Proc L} {δ θ σ : L} →
        HasLevel Γ e δ → Typed (put Γ var x (some δ)) p θ σ → Typed Γ (let_in x δ e p) θ σ
    SEQ :
        {Γ : Environment L} {p q : Proc L} {θ₁ σ₁ θ₂ σ₂ : L} →
        Typed Γ p θ₁ σ₁ → Typed Γ q θ₂ σ₂ → Below σ₁ θ₂ → Typed Γ (sequence p q) (𝓛.meet θ₁ θ₂) (𝓛.join σ₁ σ₂)
    COND :
        {Γ : Environment L} {e : Exp} {p q : Proc L} {δ θ σ : L} →
        HasLevel Γ e δ → Typed Γ p θ σ → Typed Γ q θ σ → Below δ θ → Typed Γ (if_then_else e p q) θ (𝓛.join δ σ)
    WHILE :
        {Γ : Environment L} {e : Exp} {p : Proc L} {δ θ σ : L} →
        HasLevel Γ e δ → Typed Γ p θ σ → Below (𝓛.join δ σ) θ → Typed Γ (while e p) θ (𝓛.join δ σ)
    EMIT : {Γ : Environment L} {a : ℕ} {θ σ : L} → Γ sig a ≡ some θ → Typed Γ (emit a) θ σ
    LOCAL :
        {Γ : Environment L} {a : ℕ} {p : Proc L} {δ θ σ : L} →
        Typed (put Γ sig a (some δ)) p θ σ → Typed Γ (local a δ p) θ σ
    WATCH :
        {Γ : Environment L} {a : ℕ} {p : Proc L} {δ θ σ : L} →
        Γ sig a ≡ some δ → Typed Γ p θ σ → Below δ θ → Typed Γ (watching a p) θ (𝓛.join δ σ)
    WHEN :
        {Γ : Environment L} {a : ℕ} {p : Proc L} {δ θ σ : L} →
        Γ sig a ≡ some δ → Typed Γ p θ σ → Below δ θ → Typed Γ (when a p) θ (𝓛.join δ σ)
    PAR :
        {Γ : Environment L} {p q : Proc L} {θ₁ σ₁ θ₂ σ₂ : L} →
        Typed Γ p θ₁ σ₁ → Typed Γ q θ₂ σ₂ → Below σ₁ θ₂ → Below σ₂ θ₁ →
        Typed Γ (parallel p q) (𝓛.meet θ₁ θ₂) (𝓛.join σ₁ σ₂)
    SUB :
        {Γ : Environment L} {p : Proc L} {θ σ θ' σ' : L} →
        Typed Γ p θ σ → Below θ' θ → Below σ σ' → Typed Γ p θ' σ'

  -- no pair that the rules give p is tighter: (θ, σ) has the greatest θ and the least σ
  abbrev pub Tightest : Environment L → Proc L → L → L → Type 0
  Tightest Γ p θ σ = (θ' σ' : L) → Typed Γ p θ' σ' → Below θ' θ × Below σ σ'
