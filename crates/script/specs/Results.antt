-- What is proved about script files.
use Rattle.std.specs.Prelude.{◌≡◌, true, List, ℕ, Result, IfOk}
use Rattle.prelude.specs.declared.Refusal.{Refusal}
use Rattle.prelude.specs.Promises.{Answers}
use Rattle.layout.specs.Layout.{layout_of}
use Rattle.layout.specs.Promises.{Laid}
use Rattle.script.specs.Checked.{Checked, Levelled}
use Rattle.script.specs.declared.CheckedFile.{CheckedFile}
use Rattle.script.specs.Refusals.{refusal, is_accepted}

-- A file is not refused exactly when it has everything that later layers ask of it.
pub record AcceptedExactly : Type 0 where
  pub checked : (s : List ℕ) (levels : ℕ) → is_accepted s levels ≡ true → Checked s × Levelled s levels
  pub accepted : (s : List ℕ) (levels : ℕ) → Checked s → Levelled s levels → is_accepted s levels ≡ true

-- What a caller of `load` has.
pub record LoadedChecked : Type 0 where
  -- a file that is not refused is laid out as its tail says, and checked
  pub accepted :
      (s : List ℕ) (levels : ℕ) → is_accepted s levels ≡ true → Laid s (layout_of s) × (Checked s × Levelled s levels)
  -- what is answered of it has the bytes that were read, and is laid out and checked
  pub answered :
      (s : List ℕ) (levels : ℕ) (r : Result CheckedFile Refusal) →
      Answers (refusal s levels) (λ f. f.file.bytes.now ≡ s) r →
      IfOk r (λ f. Laid s f.file.layout × (Checked s × Levelled s levels))
