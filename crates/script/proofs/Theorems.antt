-- The theorems about script files. Their statements stand in specs/Results.antt.
use mathlib.Core.Path.{subst}
use Rattle.std.proofs.Common.{◌≡◌, List, ℕ, Result, IfOk, Ok, Err}
use Rattle.prelude.specs.declared.Refusal.{Refusal}
use Rattle.prelude.specs.Promises.{Answers}
use Rattle.layout.specs.Promises.{Laid}
use Rattle.script.specs.Checked.{Checked, Levelled}
use Rattle.script.specs.declared.CheckedFile.{CheckedFile}
use Rattle.script.specs.Refusals.{refusal}
use Rattle.script.specs.Results.{AcceptedExactly, LoadedChecked}
use Rattle.script.proofs.Accepting.{checked, accepts}

pub accepted_exactly : AcceptedExactly
accepted_exactly = record { checked = checked; accepted = accepts }

answered_checked :
    (s : List ℕ) (levels : ℕ) (r : Result CheckedFile Refusal) →
    Answers (refusal s levels) (λ f. f.file.bytes.now ≡ s) r →
    IfOk r (λ f. Laid s f.file.layout × (Checked s × Levelled s levels))
answered_checked s levels (Ok f) a =
    let ok = checked s levels a.0 in
    (subst (λ b. Laid b f.file.layout) a.1 f.file.laid, ok)
answered_checked s levels (Err e) a = tt

pub loaded_checked : LoadedChecked
loaded_checked =
    record {
      accepted = λ s levels h. let ok = checked s levels h in (ok.0.laid, ok);
      answered = answered_checked;
    }
