-- 01, 'Script file': where a name may be used, and that it is declared once. This is what refusals 6 to 10 leave of a
-- file's names.
use Rattle.std.specs.Prelude.{ℕ, ◌≡◌, Bool, true, false, ◌||◌, eqb, ◌⊎◌}
use Rattle.language.specs.NameKinds.{Kind, var, sig, same}
use Rattle.language.specs.Syntax.{Names, Exp, Occurs, Proc, nil, assign, let_in, if_then_else, while, sequence, emit, local, watching, when, parallel}

-- a scope: the names that may be used; and with one name more
abbrev pub with_name : (ℕ → Bool) → ℕ → ℕ → Bool
with_name scope x y = eqb x y || scope y

module _ {L : Type 0} (names : Names L) where
  abbrev pub RegisterIn : (ℕ → Bool) → ℕ → Type 0
  RegisterIn scope x = (scope x ≡ true) × (names.is_signal x ≡ false)

  abbrev pub SignalIn : (ℕ → Bool) → ℕ → Type 0
  SignalIn scope a = (scope a ≡ true) × (names.is_signal a ≡ true)

  abbrev pub ReadsIn : (ℕ → Bool) → Exp → Type 0
  ReadsIn scope e = (x : ℕ) → Occurs x e → RegisterIn scope x

  -- a declaration of an owned name, with the level that the name has in the file
  pub record Declares (kind : Bool) (x : ℕ) (δ : L) : Type 0 where
    pub owned : names.is_session x ≡ false
    pub kinded : names.is_signal x ≡ kind
    pub carried : δ ≡ names.level x

  -- 'An owned name is used only inside the body of its declaration; a let's expression lies outside it.'
  abbrev pub Scoped : (ℕ → Bool) → Proc L → Type 0
  Scoped scope nil = Unit {0}
  Scoped scope (assign x e) = RegisterIn scope x × ReadsIn scope e
  Scoped scope (let_in x δ e p) = Declares false x δ × ReadsIn scope e × Scoped (with_name scope x) p
  Scoped scope (if_then_else e p q) = ReadsIn scope e × Scoped scope p × Scoped scope q
  Scoped scope (while e p) = ReadsIn scope e × Scoped scope p
  Scoped scope (sequence p q) = Scoped scope p × Scoped scope q
  Scoped scope (emit a) = SignalIn scope a
  Scoped scope (local a δ p) = Declares true a δ × Scoped (with_name scope a) p
  Scoped scope (watching a p) = SignalIn scope a × Scoped scope p
  Scoped scope (when a p) = SignalIn scope a × Scoped scope p
  Scoped scope (parallel p q) = Scoped scope p × Scoped scope q

module _ {L : Type 0} (k : Kind) (y : ℕ) where
  -- the name k y is declared somewhere in a process
  abbrev pub Declared : Proc L → Type 0
  Declared nil = ⊥
  Declared (assign x e) = ⊥
  Declared (let_in x δ e p) = (same var x k y ≡ true) ⊎ Declared p
  Declared (if_then_else e p q) = Declared p ⊎ Declared q
  Declared (while e p) = Declared p
  Declared (sequence p q) = Declared p ⊎ Declared q
  Declared (emit a) = ⊥
  Declared (local a δ p) = (same sig a k y ≡ true) ⊎ Declared p
  Declared (watching a p) = Declared p
  Declared (when a p) = Declared p
  Declared (parallel p q) = Declared p ⊎ Declared q

module _ {L : Type 0} where
  -- no name is declared in both
  abbrev pub Apart : Proc L → Proc L → Type 0
  Apart p q = (k : Kind) (y : ℕ) → Declared k y p → Declared k y q → ⊥

  -- no name is declared twice: 'otherwise it is the node that declares it'
  abbrev pub Once : Proc L → Type 0
  Once nil = Unit {0}
  Once (assign x e) = Unit {0}
  Once (let_in x δ e p) = (Declared var x p → ⊥) × Once p
  Once (if_then_else e p q) = Apart p q × Once p × Once q
  Once (while e p) = Once p
  Once (sequence p q) = Apart p q × Once p × Once q
  Once (emit a) = Unit {0}
  Once (local a δ p) = (Declared sig a p → ⊥) × Once p
  Once (watching a p) = Once p
  Once (when a p) = Once p
  Once (parallel p q) = Apart p q × Once p × Once q
