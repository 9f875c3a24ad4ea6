-- What refusals 6, 8, 9 and 10 leave of a script's names.
use Rattle.std.specs.Prelude.{ℕ, ◌<◌, ◌≡◌, Bool, true}
use Rattle.language.specs.Syntax.{Names, Proc}
use Rattle.language.specs.NameKinds.{Kind}
use Rattle.language.specs.Scope.{Scoped, Declared, Once}

-- a script whose names are among n; in its scope are names of the session
pub record Script {L : Type 0} (names : Names L) (scope : ℕ → Bool) (n : ℕ) (p : Proc L) : Type 0 where
  pub scoped : Scoped names scope p
  pub once : Once p
  pub sessions : (x : ℕ) → scope x ≡ true → (names.is_session x ≡ true) × (x < n)
  pub declared : (k : Kind) (y : ℕ) → Declared k y p → y < n
