-- What functions answer that may refuse: of one row, and of rows one after the other.
use mathlib.Core.Path.{◌≡◌, refl, ap}
use mathlib.Core.Bool.{Bool, true, false, cond}
use Rattle.std.proofs.Common.{Result, Ok, Err, rules}
use Rattle.prelude.specs.declared.Refusal.{Refusal}
use Rattle.prelude.specs.Refusals.{passes, or_else}
use Rattle.prelude.specs.Promises.{outcome}

module _ {X : Type 0} (r : Refusal) (x : X) where
  pub outcome_ok : passes r ≡ true → outcome r x ≡ Ok x
  outcome_ok h = rw h refl

  pub outcome_err : passes r ≡ false → outcome r x ≡ Err r
  outcome_err h = rw h refl

  pub ok_passes : {y : X} → outcome r x ≡ Ok y → passes r ≡ true
  ok_passes = go (passes r)
    where
      go : (b : Bool) {y : X} → ◌≡◌ {A = Result X Refusal} (cond b (Ok x) (Err r)) (Ok y) → b ≡ true
      go true e = refl
      go false e = search rules

  pub err_refuses : {e : Refusal} → outcome r x ≡ Err e → (passes r ≡ false) × (r ≡ e)
  err_refuses = go (passes r)
    where
      go : (b : Bool) {e : Refusal} → ◌≡◌ {A = Result X Refusal} (cond b (Ok x) (Err r)) (Err e) → (b ≡ false) × (r ≡ e)
      go true e = search rules
      go false e = (refl, search rules)

module _ {X Y : Type 0} (r next : Refusal) (x : X) (y : Y) where
  -- the rows that follow one that passes
  pub outcome_next : {z : Y} → outcome r y ≡ Ok z → outcome (or_else r next) x ≡ outcome next x
  outcome_next e = rw (ok_passes r y e) refl

  -- a row that refuses
  pub outcome_first : {d : Refusal} → outcome r y ≡ Err d → outcome (or_else r next) x ≡ Err d
  outcome_first e = let h = err_refuses r y e in rw (h.0, h.0) (ap Err h.1)
