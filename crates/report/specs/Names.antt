-- RR-5594, 2.1: free names, declared names, and 'the (capture avoiding) substitution of m by n in P'.
use Rattle.std.specs.Prelude.{ℕ, ◌≡◌, true, false, ◌⊎◌}
use Rattle.language.specs.Syntax.{Exp, constant, register, binary, negated, Occurs, Proc, nil, assign, let_in, if_then_else, while, sequence, emit, local, watching, when, parallel}
use Rattle.language.specs.NameKinds.{Kind, var, sig, same, put}

-- the name k y occurs in an expression
abbrev pub OccursIn : Kind → ℕ → Exp → Type 0
OccursIn k y e = (k ≡ var) × Occurs y e

module _ {L : Type 0} (k : Kind) (y : ℕ) where
  -- the name k y is free in a process
  abbrev pub Free : Proc L → Type 0
  Free nil = ⊥
  Free (assign x e) = (same var x k y ≡ true) ⊎ OccursIn k y e
  Free (let_in x δ e p) = OccursIn k y e ⊎ ((same var x k y ≡ false) × Free p)
  Free (if_then_else e p q) = OccursIn k y e ⊎ (Free p ⊎ Free q)
  Free (while e p) = OccursIn k y e ⊎ Free p
  Free (sequence p q) = Free p ⊎ Free q
  Free (emit a) = same sig a k y ≡ true
  Free (local a δ p) = (same sig a k y ≡ false) × Free p
  Free (watching a p) = (same sig a k y ≡ true) ⊎ Free p
  Free (when a p) = (same sig a k y ≡ true) ⊎ Free p
  Free (parallel p q) = Free p ⊎ Free q

-- a renaming: the new number of each name; it keeps kinds
abbrev pub Renaming : Type 0
Renaming = Kind → ℕ → ℕ

unfoldable pub renamed_in : (ℕ → ℕ) → Exp → Exp
renamed_in f (constant v) = constant v
renamed_in f (register x) = register (f x)
renamed_in f (binary o a b) = binary o (renamed_in f a) (renamed_in f b)
renamed_in f (negated a) = negated (renamed_in f a)

-- the new name z of a declared name x is not the new name of another name that is free in its scope p
abbrev pub CapturesNone : {L : Type 0} → Renaming → Kind → ℕ → ℕ → Proc L → Type 0
CapturesNone ρ k x z p = (j : Kind) (y : ℕ) → Free j y p → same k x j y ≡ false → same k z j (ρ j y) ≡ false

-- p' is p with its free names renamed by ρ. A declaration may take any name that captures none.
pub data Renamed {L : Type 0} : Renaming → Proc L → Proc L → Type 0 where
  r_nil : {ρ : Renaming} → Renamed ρ nil nil
  r_assign :
      {ρ : Renaming} {x x' : ℕ} {e e' : Exp} →
      x' ≡ ρ var x → e' ≡ renamed_in (ρ var) e → Renamed ρ (assign x e) (assign x' e')
  r_let :
      {ρ : Renaming} {x z : ℕ} {δ : L} {e e' : Exp} {p p' : Proc L} →
      e' ≡ renamed_in (ρ var) e → CapturesNone ρ var x z p → Renamed (put ρ var x z) p p' →
      Renamed ρ (let_in x δ e p) (let_in z δ e' p')
  r_if :
      {ρ : Renaming} {e e' : Exp} {p p' q q' : Proc L} →
      e' ≡ renamed_in (ρ var) e → Renamed ρ p p' → Renamed ρ q q' → Renamed ρ (if_then_else e p q) (if_then_else e' p' q')
  r_while :
      {ρ : Renaming} {e e' : Exp} {p p' : Proc L} →
      e' ≡ renamed_in (ρ var) e → Renamed ρ p p' → Renamed ρ (while e p) (while e' p')
  r_sequence :
      {ρ : Renaming} {p p' q q' : Proc L} → Renamed ρ p p' → Renamed ρ q q' → Renamed ρ (sequence p q) (sequence p' q')
  r_emit : {ρ : Renaming} {a a' : ℕ} → a' ≡ ρ sig a → Renamed ρ (emit a) (emit a')
  r_local :
      {ρ : Renaming} {a z : ℕ} {δ : L} {p p' : Proc L} →
      CapturesNone ρ sig a z p → Renamed (put ρ sig a z) p p' → Renamed ρ (local a δ p) (local z δ p')
  r_watching :
      {ρ : Renaming} {a a' : ℕ} {p p' : Proc L} →
      a' ≡ ρ sig a → Renamed ρ p p' → Renamed ρ (watching a p) (watching a' p')
  r_when :
      {ρ : Renaming} {a a' : ℕ} {p p' : Proc L} → a' ≡ ρ sig a → Renamed ρ p p' → Renamed ρ (when a p) (when a' p')
  r_parallel :
      {ρ : Renaming} {p p' q q' : Proc L} → Renamed ρ p p' → Renamed ρ q q' → Renamed ρ (parallel p q) (parallel p' q')

-- {z/x} p is p', up to the names of p's own declarations
abbrev pub Substituted : {L : Type 0} → Kind → ℕ → ℕ → Proc L → Proc L → Type 0
Substituted k x z p p' = Renamed (put (λ j y. y) k x z) p p'
