-- What the theorems ask of a script can be met: the example of specs/Examples.antt.
use Prim.Native.Nat.{ℕ, ◌<◌}
use native.Mathlib.Omega.{arith}
use mathlib.Core.Path.{◌≡◌, refl}
use mathlib.Core.Bool.{Bool}
use mathlib.Core.Logic.{⊎_elim}
use lib.IntN.{pos}
use borrow.Author.Tests.{eqb-true}
use Rattle.language.specs.Syntax.{Exp, constant, register, Occurs, here, left, right, under}
use Rattle.language.specs.NameKinds.{Kind, sig}
use Rattle.language.specs.Scope.{with_name, RegisterIn, ReadsIn, Declared}
use Rattle.language.specs.Typing.{environment}
use Rattle.language.specs.Steps.{no_inputs}
use Rattle.language.specs.Calls.{run}
use Rattle.language.proofs.NameKinds.{same_number}
use Rattle.language.proofs.Theorems.{runs_agree}
use Rattle.report.specs.Configurations.{begun}
use Rattle.report.specs.Scope.{Script}
use Rattle.report.specs.Results.{Reported}
use Rattle.report.specs.Examples.{is_of_session, loop_names, loop, loop_starts}
use Rattle.report.proofs.Starts.{begun_begins}
use Rattle.report.proofs.Theorems.{reported}

reads_first : {x : ℕ} {e : Exp} → Occurs x e → e ≡ register 0 → RegisterIn loop_names is_of_session x
reads_first {x} here q = let z : x ≡ 0 = cc in rw z (refl, refl)
reads_first (left o) q = let z : ◌≡◌ {A = ℕ} 0 1 = cc in absurd (omega arith)
reads_first (right o) q = let z : ◌≡◌ {A = ℕ} 0 1 = cc in absurd (omega arith)
reads_first (under o) q = let z : ◌≡◌ {A = ℕ} 0 1 = cc in absurd (omega arith)

reads_none : (scope : ℕ → Bool) → ReadsIn loop_names scope (constant (pos 0))
reads_none scope x o = elim o [ ]

declares_one : (k : Kind) (y : ℕ) → Declared k y loop → y < 2
declares_one k y =
    ⊎_elim (λ h. omega (arith, same_number sig 1 k y h)) (⊎_elim absurd absurd)

pub loop_is_script : Script loop_names is_of_session 2 loop
loop_is_script =
    record {
      scoped = (
        λ x o. reads_first o refl,
        (
          record { owned = refl; kinded = refl; carried = refl },
          ((refl, refl), ((refl, refl), ((refl, refl), reads_none (with_name is_of_session 1)))),
        ),
      );
      once = (⊎_elim absurd absurd, (λ k y a b. absurd a, tt, tt));
      sessions = λ x h. (h, omega (arith, eqb-true x 0 h));
      declared = declares_one;
    }

-- its runs, of any length, are the report's
pub loop_reported :
    (below : ℕ → Bool) (limit room : ℕ) →
    Reported loop_names (environment loop_names is_of_session) no_inputs below limit loop_starts
    (begun (environment loop_names is_of_session) loop_starts)
    (run loop_names no_inputs (λ x. below 0) limit room loop_starts)
loop_reported below limit room =
    reported loop_is_script refl (begun_begins (environment loop_names is_of_session) loop_starts) (λ i a e. refl) below
    (runs_agree loop_names no_inputs (λ x. below 0) limit room loop_starts).path
    refl
