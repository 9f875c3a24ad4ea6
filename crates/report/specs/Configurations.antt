-- RR-5594, 2.2: 'configurations, which are quadruples ⟨Γ, S, E, P⟩'; and how a script's session starts one.
use Rattle.std.specs.Prelude.{ℕ, ◌≡◌, Bool, true, false, cond, ◌&&◌, eqb, ℤ}
use Rattle.std.proofs.Math.Option.{Option, none, some}
use Rattle.language.specs.Syntax.{Proc}
use Rattle.language.specs.NameKinds.{var, sig}
use Rattle.language.specs.Typing.{Environment}
use Rattle.language.specs.Steps.{held, present, Inputs}
use Rattle.language.specs.Calls.{System}

-- A configuration, and how many steps and instants have been counted. What the store holds outside dom(Γ) is left free.
pub record Configuration (L : Type 0) : Type 0 where
  pub environment : Environment L
  pub store : ℕ → ℤ
  pub signals : ℕ → Bool
  pub process : Proc L
  pub steps : ℕ
  pub instants : ℕ

-- {x ↦ v} f
abbrev pub update : {B : Type 0} → (ℕ → B) → ℕ → B → ℕ → B
update f x v y = cond (eqb x y) v (f y)

-- A configuration to start from: Γ is this environment, S and E hold what the values hold of the names in dom(Γ), and
-- E ⊆ dom(Γ).
pub record Begins {L : Type 0} (Γ : Environment L) (at : System L) (C : Configuration L) : Type 0 where
  pub environment : C.environment ≡ Γ
  pub store : (x : ℕ) (δ : L) → Γ var x ≡ some δ → C.store x ≡ held at.values x
  pub signals : (a : ℕ) (δ : L) → Γ sig a ≡ some δ → C.signals a ≡ present at.values a
  pub absent : (a : ℕ) → Γ sig a ≡ none → C.signals a ≡ false
  pub process : C.process ≡ at.process
  pub steps : C.steps ≡ at.steps
  pub instants : C.instants ≡ at.instants

-- I ⊆ dom(Γ), in every instant
abbrev pub InputsWithin : {L : Type 0} → Environment L → Inputs → Type 0
InputsWithin Γ inputs = (i a : ℕ) → Γ sig a ≡ none → inputs i a ≡ false

-- there is one
abbrev is_in : {L : Type 0} → Option L → Bool
is_in none = false
is_in (some δ) = true

abbrev pub begun : {L : Type 0} → Environment L → System L → Configuration L
begun Γ at =
    record {
      environment = Γ;
      store = held at.values;
      signals = λ a. is_in (Γ sig a) && present at.values a;
      process = at.process;
      steps = at.steps;
      instants = at.instants;
    }
