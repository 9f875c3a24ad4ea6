-- RR-5594, Figure 1: the suspension predicate, on pairs (E, P). E is the set of the signals that are present.
use Rattle.std.specs.Prelude.{ℕ, ◌≡◌, Bool, false}
use Rattle.language.specs.Syntax.{Proc, sequence, watching, when, parallel}

pub data Suspended {L : Type 0} (E : ℕ → Bool) : Proc L → Type 0 where
  WHEN-SUS₁ : {a : ℕ} {p : Proc L} → E a ≡ false → Suspended E (when a p)
  WHEN-SUS₂ : {a : ℕ} {p : Proc L} → Suspended E p → Suspended E (when a p)
  WATCH-SUS : {a : ℕ} {p : Proc L} → Suspended E p → Suspended E (watching a p)
  SEQ-SUS : {p q : Proc L} → Suspended E p → Suspended E (sequence p q)
  PAR-SUS : {p q : Proc L} → Suspended E p → Suspended E q → Suspended E (parallel p q)
