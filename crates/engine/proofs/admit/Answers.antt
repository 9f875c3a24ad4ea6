-- `admit`: the book and the script, then the rest of the call.
use mathlib.Core.Path.{◌≡◌, refl, sym, ap, ◌∙◌}
use mathlib.Core.Bool.{true, false}
use mathlib.Core.List.{List}
use Prim.Native.Nat.{ℕ}
use lib.IntN.{ℤ}
use Rattle.std.proofs.lemmas.Result.{err_from_is_err_and}
use Rattle.prelude.specs.declared.Refusal.{Refusal}
use Rattle.prelude.specs.Refusals.{passes}
use Rattle.prelude.proofs.Outcomes.{ok_passes, err_refuses}
use Rattle.book.specs.declared.Book.{Book}
use Rattle.book.specs.LevelBook.{count}
use Rattle.checker.specs.declared.Prepared.{Prepared}
use Rattle.checker.specs.Refusals.{check_refusal}
use Rattle.checker.specs.Promises.{Prepares}
use Rattle.arguments.specs.Refusals.{call_refusal, run_refusal}
use Rattle.engine.proofs.admit.Goals as goal

module _ (b s : List ℕ) (p : Prepared) (passed : passes (check_refusal b s) ≡ true) (made : Prepares b s p)
    (reader : ℕ) (values : List ℤ) (limit : ℕ) (list : List ℕ) where
  -- what is asked of the call, by what was prepared
  call-is : call_refusal p.book.count p.checked.file.bytes.now reader values limit list ≡ run_refusal b s reader values limit list
  unfolding run_refusal
  call-is =
      ap (λ (x : Book). call_refusal x.count p.checked.file.bytes.now reader values limit list) made.book
      ∙ ap (λ t. call_refusal (count b) t reader values limit list) made.bytes
      ∙ sym (rw passed refl)

-- where the check refuses
check-is :
    (b s : List ℕ) (reader : ℕ) (values : List ℤ) (limit : ℕ) (list : List ℕ) → passes (check_refusal b s) ≡ false →
    check_refusal b s ≡ run_refusal b s reader values limit list
unfolding run_refusal
check-is b s reader values limit list f = sym (rw f refl)

pub returns-in_err-prepared : goal.returns-in_err-prepared
returns-in_err-prepared c =
    let a = c.args in
    let p = err_from_is_err_and c.from_residual.result c.from_residual.ensures.1 in
    let h = c.in_err-prepared.ensures in
    let e = check-is _ _ a.reader a.values.now a.limit a.list.now h.0 in
    rw (p.1, p.2) (ap passes (sym e) ∙ h.0, h.1 ∙ e)

pub returns-in_err-check_call : goal.returns-in_err-check_call
returns-in_err-check_call c =
    let a = c.args in
    let p = err_from_is_err_and c.from_residual-in_err-check_call.result c.from_residual-in_err-check_call.ensures.1 in
    let h = c.in_ok-prepared.ensures in
    let e = call-is _ _ _ h.0 h.1 a.reader a.values.now a.limit a.list.now in
    let r = err_refuses _ _ (sym c.in_err-check_call.ensures) in
    rw (p.1, p.2) (ap passes (sym e) ∙ r.0, sym r.1 ∙ e)

pub returns : goal.returns
returns c =
    let a = c.args in
    let h = c.in_ok-prepared.ensures in
    let e = call-is _ _ _ h.0 h.1 a.reader a.values.now a.limit a.list.now in
    (ap passes (sym e) ∙ ok_passes _ _ (sym c.in_ok-check_call.ensures), h.1)
