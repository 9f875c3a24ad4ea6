-- `check`: what was prepared is the answer, and of an accepted script the bound on its moves.
use mathlib.Core.Path.{◌≡◌, refl, sym, ap, ap₂, ◌∙◌}
use mathlib.Core.Bool.{true}
use mathlib.Core.List.{List}
use Prim.Native.Nat.{ℕ}
use Rattle.std.proofs.Common.{Option}
use Rattle.prelude.specs.Refusals.{passes, not_refused}
use Rattle.checker.specs.declared.Prepared.{Prepared}
use Rattle.checker.specs.Refusals.{check_refusal}
use Rattle.checker.specs.Promises.{Prepares}
use Rattle.bound.specs.Bound.{bound_of}
use Rattle.results.specs.Results.{verdict_by, refused_verdict}
use Rattle.engine.specs.Answers.{verdict}
use Rattle.engine.proofs.Passing.{check_passed}
use Rattle.engine.proofs.check.Goals as goal

found :
    (b s : List ℕ) (p : Prepared) → passes (check_refusal b s) ≡ true → Prepares b s p → (moves : Option ℕ) →
    moves ≡ bound_of p.checked.file.bytes.now → verdict_by not_refused p.write p.test moves ≡ verdict b s
unfolding verdict
found b s p h made moves e =
    rw (made.write, made.test, e, made.bytes, h, check_passed b s h) refl

pub returns-in-Ok : goal.returns-in-Ok
returns-in-Ok c = let h = c.in-Ok.ensures in found _ _ c.in-Ok.p h.0 h.1 _ c.find_bound.ensures

pub returns-in-Err : goal.returns-in-Err
unfolding verdict
returns-in-Err c = let h = c.in-Err.ensures in c.from.ensures ∙ ap refused_verdict h.1 ∙ sym (rw h.0 refl)
