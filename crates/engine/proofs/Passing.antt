-- What passes is not refused: its number and its place are 0.
use mathlib.Core.Path.{◌≡◌, refl, sym, ap, ◌∙◌}
use mathlib.Core.Bool.{Bool, true, false, cond, false≢true}
use mathlib.Core.List.{List}
use Prim.Native.Nat.{ℕ}
use Rattle.prelude.specs.declared.Refusal.{Refusal}
use Rattle.prelude.specs.Refusals.{refused_by, not_refused, passes, or_else}
use Rattle.prelude.proofs.Refusing.{passes_both}
use Rattle.book.specs.LevelBook.{most_levels, count}
use Rattle.lattice.specs.Lattice.{book_lattice}
use Rattle.layout.specs.Layout.{layout_refusal, part_count}
use Rattle.layout.proofs.Placing.{passes_parts, past_parts}
use Rattle.entries.specs.Faults.{fault_refusal}
use Rattle.uses.specs.Uses.{use_refusal}
use Rattle.scope.specs.Reach.{is_out_of_reach, reach_refusal}
use Rattle.script.specs.Refusals.{entry_refusal}
use Rattle.script.specs.Refusals as scripts
use Rattle.checker.specs.Refusals.{flow_refusal, check_refusal}
use Rattle.checker.proofs.Passing.{accepted}
use Rattle.engine.specs.Answers.{file_refusal}

row : (b : Bool) (place : ℕ) → passes (cond b (refused_by 11 place) not_refused) ≡ true → cond b (refused_by 11 place) not_refused ≡ not_refused
row true place h = absurd (false≢true h)
row false place h = refl

flow_alone : (b s : List ℕ) → passes (check_refusal b s) ≡ true → check_refusal b s ≡ flow_refusal (book_lattice b) s
unfolding check_refusal
flow_alone b s h = let a = accepted b s h in rw (a.book, a.script) refl

pub check_passed : (b s : List ℕ) → passes (check_refusal b s) ≡ true → check_refusal b s ≡ not_refused
check_passed b s h = let same = flow_alone b s h in same ∙ row _ _ (sym (ap passes same) ∙ h)

pub file_passed : (s : List ℕ) → passes (file_refusal s) ≡ true → file_refusal s ≡ not_refused
unfolding scripts.refusal entry_refusal reach_refusal
file_passed s h =
    let one = passes_both (layout_refusal s) (entry_refusal s most_levels) h in
    let two = passes_both (fault_refusal s most_levels) (or_else (use_refusal s) (reach_refusal s)) one.1 in
    let three = passes_both (use_refusal s) (reach_refusal s) two.1 in
    rw (one.0, two.0, three.0)
    (past_parts s 10 (is_out_of_reach s) (part_count s) (passes_parts s 10 (is_out_of_reach s) (part_count s) refl three.1))
