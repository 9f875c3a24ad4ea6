-- `load`: each way out goes past the rows that refuse nothing; what they leave is what the next ask for.
use mathlib.Core.Path.{◌≡◌, sym, ap, ◌∙◌, subst}
use mathlib.Core.Bool.{true}
use mathlib.Core.List.{List}
use Prim.Native.Nat.{ℕ}
use native.Mathlib.Omega.{arith}
use Rattle.std.proofs.lemmas.Result.{err_from_is_err_and}
use Rattle.prelude.specs.Refusals.{passes, or_else}
use Rattle.entries.specs.Faults.{fault_refusal}
use Rattle.uses.specs.Uses.{use_refusal}
use Rattle.scope.specs.Reach.{reach_refusal}
use Rattle.prelude.proofs.Outcomes.{ok_passes, err_refuses}
use Rattle.prelude.proofs.Refusing.{both_pass, refused_first, refused_next}
use Rattle.layout.specs.Layout.{layout_refusal}
use Rattle.layout.proofs.Layouts.{few_bounds, nodes_are}
use Rattle.entries.proofs.Sounding.{faultless, sound}
use Rattle.uses.proofs.Counting.{each_once}
use Rattle.script.specs.Checked.{Levelled}
use Rattle.script.specs.Refusals.{entry_refusal, refusal, is_accepted}
use Rattle.script.proofs.Accepting.{checked}
use Rattle.script.proofs.load.Goals as goal
use Rattle.script.proofs.load.Goals.{In_ok-check-3}

-- the bytes that were read are laid out
laid_out : {s b : List ℕ} → (passes (layout_refusal s) ≡ true) × (b ≡ s) → passes (layout_refusal b) ≡ true
laid_out h = ap (λ z. passes (layout_refusal z)) h.1 ∙ h.0

pub returns-in_err-file-clause-answers : goal.returns-in_err-file-clause-answers
unfolding refusal
returns-in_err-file-clause-answers c =
    let p = err_from_is_err_and c.from_residual.result c.from_residual.ensures.1 in
    let h = c.in_err-file.ensures in
    rw (p.1, p.2) (refused_first _ _ (h.0, sym h.1))

pub returns-in_err-check-clause-answers : goal.returns-in_err-check-clause-answers
unfolding refusal entry_refusal
returns-in_err-check-clause-answers c =
    let p = err_from_is_err_and c.from_residual-in_err-check.result c.from_residual-in_err-check.ensures.1 in
    let read = c.in_ok-file.ensures in
    let s = c.in_ok-file.file.bytes.now in
    let fault = fault_refusal s c.args.levels in
    rw (p.1, p.2, ← read.1)
    (refused_next (layout_refusal s) (or_else fault (or_else (use_refusal s) (reach_refusal s))) (laid_out read)
    (refused_first fault (or_else (use_refusal s) (reach_refusal s)) (err_refuses _ _ (sym c.in_err-check.ensures))))

pub returns-in_err-check-2-clause-answers : goal.returns-in_err-check-2-clause-answers
unfolding refusal entry_refusal
returns-in_err-check-2-clause-answers c =
    let p = err_from_is_err_and c.from_residual-in_err-check-2.result c.from_residual-in_err-check-2.ensures.1 in
    let read = c.in_ok-file.ensures in
    let s = c.in_ok-file.file.bytes.now in
    let fault = fault_refusal s c.args.levels in
    rw (p.1, p.2, ← read.1)
    (refused_next (layout_refusal s) (or_else fault (or_else (use_refusal s) (reach_refusal s))) (laid_out read)
    (refused_next fault (or_else (use_refusal s) (reach_refusal s)) (ok_passes _ _ (sym c.in_ok-check.ensures))
    (refused_first (use_refusal s) (reach_refusal s) (err_refuses _ _ (sym c.in_err-check-2.ensures)))))

pub returns-in_err-check-3-clause-answers : goal.returns-in_err-check-3-clause-answers
unfolding refusal entry_refusal
returns-in_err-check-3-clause-answers c =
    let p = err_from_is_err_and c.from_residual-in_err-check-3.result c.from_residual-in_err-check-3.ensures.1 in
    let read = c.in_ok-file.ensures in
    let s = c.in_ok-file.file.bytes.now in
    let fault = fault_refusal s c.args.levels in
    let reach = err_refuses _ _ (sym c.in_err-check-3.ensures) in
    rw (p.1, p.2, ← read.1)
    (refused_next (layout_refusal s) (or_else fault (or_else (use_refusal s) (reach_refusal s))) (laid_out read)
    (refused_next fault (or_else (use_refusal s) (reach_refusal s)) (ok_passes _ _ (sym c.in_ok-check.ensures))
    (refused_next (use_refusal s) (reach_refusal s) (ok_passes _ _ (sym c.in_ok-check-2.ensures)) (reach.0, sym reach.1))))

-- what rows 6 to 9 leave, which row 10 asks for
pub invariant_of-check : goal.invariant_of-check
invariant_of-check c =
    let file = c.in_ok-file.file in
    let s = file.bytes.now in
    record {
      joined =
          record {
            sound = sound s c.args.levels (faultless s c.args.levels (ok_passes _ _ (sym c.in_ok-check.ensures)));
            once =
                each_once s (omega (arith, nodes_are file.laid, few_bounds file.layout file.laid.few))
                (ok_passes _ _ (sym c.in_ok-check-2.ensures));
          };
    }

-- past all rows
accepted : (c : In_ok-check-3) → is_accepted c.in_ok-file.file.bytes.now c.args.levels ≡ true
unfolding refusal entry_refusal
accepted c =
    both_pass _ _ (laid_out c.in_ok-file.ensures)
    (both_pass _ _ (ok_passes _ _ (sym c.in_ok-check.ensures))
    (both_pass _ _ (ok_passes _ _ (sym c.in_ok-check-2.ensures)) (ok_passes _ _ (sym c.in_ok-check-3.ensures))))

pub invariant_of-result : goal.invariant_of-result
invariant_of-result c = record { checked = (checked _ _ (accepted c)).0 }

pub returns-clause-answers : goal.returns-clause-answers
returns-clause-answers c =
    let at = (goal.at.returns-clause-answers c).In_ok-check-3 in
    let same = c.in_ok-file.ensures.1 in
    (subst (λ s. is_accepted s c.args.levels ≡ true) same (accepted at), same)

pub returns-clause-levelled : goal.returns-clause-levelled
returns-clause-levelled c =
    let at = (goal.at.returns-clause-levelled c).In_ok-check-3 in
    subst (λ s. Levelled s c.args.levels) c.in_ok-file.ensures.1 (checked _ _ (accepted at)).1
