-- `is_suspended` and `rear_waits`: by the form of the node, its part in front decides, or the part behind it.
use mathlib.Core.Path.{◌≡◌, sym, ap, ◌∙◌, subst}
use mathlib.Core.Bool.{true, false}
use mathlib.Core.List.{List}
use Prim.Native.Nat.{ℕ, ◌<◌, ◌≤◌}
use native.Mathlib.Omega.{arith}
use lib.IntN.{ℤ}
use lib.ListN.{length}
use Rattle.language.specs.Steps.{suspended}
use Rattle.program.specs.Program.{kind_at}
use Rattle.program.specs.declared.forms.Front.{Front}
use Rattle.program.specs.Forms.{form_of, itself, beside, part_in}
use Rattle.program.proofs.Fronts.{front_form}
use Rattle.residual.specs.Residual.{own}
use Rattle.residual.specs.Nodes.{NodeIn, in_front, in_rear, residual_of}
use Rattle.residual.proofs.Residuals.{some_bytes}
use Rattle.instants.specs.Promises.{RearAsked}
use Rattle.instants.proofs.Deciding.{found_in, Part, front_part, rear_part, rear_found, stays, signal_known, shuts, rear_decides}
use Rattle.instants.proofs.suspension.+is_suspended_rear_waits.Goals as goal
use Rattle.instants.proofs.suspension.+is_suspended_rear_waits.Goals.{is_suspended-else-form-eq-GUARDED-via-then-form-eq-GUARDED+else-not-signal_is_present as passes, is_suspended-else-form-eq-GUARDED-via-else-form-eq-GUARDED as other}

module _ (words : List ℕ) (k : ℕ) (st : List ℕ) where
  -- the form that was found is that of the node
  form_is : {r : ℕ} → r ≡ form_of (kind_at words k) (own st) → r ≡ (in_front words k st).form
  form_is e = e ∙ sym (front_form words k (own st) (length st))

  -- the part in front
  part :
      {values : List ℤ} → NodeIn words k st values → {r : ℕ} → r ≡ form_of (kind_at words k) (own st) → itself < r →
      {f : Front} → f ≡ in_front words k st → Part words k st f
  part asked e some q = rw q (front_part (found_in asked) (omega (arith, form_is e, some)))

  -- the other part of a parallel
  module _ {values : List ℤ} {n : ℕ} (asked : RearAsked words k st values n) (parallel : beside ≤ n) where
    other-part : {g : Front} → g ≡ in_rear words k st → Part words k st g
    other-part q = subst (Part words k st) (sym q) (rear_part (found_in asked.at) (omega (arith, asked.form, parallel))).part

pub is_suspended-bounds-state-0 : goal.is_suspended-bounds-state-0
is_suspended-bounds-state-0 t c = some_bytes c.requires.node

pub is_suspended-returns-then-form-le-ITSELF : goal.is_suspended-returns-then-form-le-ITSELF
is_suspended-returns-then-form-le-ITSELF t c =
    let e = form_is c.args.program.now c.args.k c.args.state.now c.form_at-form.ensures in
    sym (stays (found_in c.requires) (omega (arith, e, c.if-form-le-ITSELF.true))).waits

pub is_suspended-signal_is_present-requires : goal.is_suspended-signal_is_present-requires
is_suspended-signal_is_present-requires t c =
    let e = form_is c.args.program.now c.args.k c.args.state.now c.form_at-form.ensures in (
      omega arith,
      signal_known (found_in c.requires) (omega (arith, e, c.if-form-eq-GUARDED.true)) (omega (arith, e, c.if-form-eq-GUARDED.true)),
    )

pub is_suspended-returns-then-not-signal_is_present : goal.is_suspended-returns-then-not-signal_is_present
is_suspended-returns-then-not-signal_is_present t c =
    let e = form_is c.args.program.now c.args.k c.args.state.now c.form_at-form.ensures in
    sym
    (shuts (found_in c.requires) (sym e ∙ c.if-form-eq-GUARDED.true)
    (sym c.signal_is_present.ensures ∙ c.if-not-signal_is_present.true)).waits

pub is_suspended-rear_waits-requires : goal.is_suspended-rear_waits-requires
is_suspended-rear_waits-requires t c =
    (omega arith, record { at = c.requires; form = form_is c.args.program.now c.args.k c.args.state.now c.form_at-form.ensures })

pub is_suspended-returns-then-not-rear_waits : goal.is_suspended-returns-then-not-rear_waits
is_suspended-returns-then-not-rear_waits t c =
    let e = form_is c.args.program.now c.args.k c.args.state.now c.form_at-form.ensures in
    sym
    (rear_decides (found_in c.requires) (omega (arith, e, c.if-form-le-ITSELF.false))
    (λ q.
    elim c.else-form-eq-GUARDED.branch [
      | passes w ↦ sym w.signal_is_present.ensures ∙ w.if-not-signal_is_present.false
      | other w ↦ absurd (w.if-form-eq-GUARDED.false (e ∙ q))
    ])
    {waits = false} (rw (← c.if-not-rear_waits.true, ← e) c.rear_waits.ensures))

pub is_suspended-slice_bounds-is_suspended-count : goal.is_suspended-slice_bounds-is_suspended-count
is_suspended-slice_bounds-is_suspended-count t c =
    (part c.args.program.now c.args.k c.args.state.now c.requires c.form_at-form.ensures c.if-form-le-ITSELF.false c.find_front-f.ensures).order

pub is_suspended-slice_bounds-is_suspended-start : goal.is_suspended-slice_bounds-is_suspended-start
is_suspended-slice_bounds-is_suspended-start t c =
    (part c.args.program.now c.args.k c.args.state.now c.requires c.form_at-form.ensures c.if-form-le-ITSELF.false c.find_front-f.ensures).order

pub is_suspended-slice_bounds-is_suspended-end : goal.is_suspended-slice_bounds-is_suspended-end
is_suspended-slice_bounds-is_suspended-end t c =
    (part c.args.program.now c.args.k c.args.state.now c.requires c.form_at-form.ensures c.if-form-le-ITSELF.false c.find_front-f.ensures).within

pub is_suspended-is_suspended-requires : goal.is_suspended-is_suspended-requires
is_suspended-is_suspended-requires t c =
    let p = part c.args.program.now c.args.k c.args.state.now c.requires c.form_at-form.ensures c.if-form-le-ITSELF.false c.find_front-f.ensures in
    (omega (arith, p.earlier), record { valued = c.requires.valued; node = p.at })

pub is_suspended-returns : goal.is_suspended-returns
is_suspended-returns t c =
    let args = c.args in
    let e = form_is args.program.now args.k args.state.now c.form_at-form.ensures in
    c.is_suspended.ensures
    ∙ ap (λ (f : Front). suspended (residual_of args.program.now f.child (part_in f args.state.now)) args.values.now) c.find_front-f.ensures
    ∙ sym
    (rear_decides (found_in c.requires) (omega (arith, e, c.if-form-le-ITSELF.false))
    (λ q.
    elim c.else-form-eq-GUARDED.branch [
      | passes w ↦ sym w.signal_is_present.ensures ∙ w.if-not-signal_is_present.false
      | other w ↦ absurd (w.if-form-eq-GUARDED.false (e ∙ q))
    ])
    {waits = true} (rw (← c.if-not-rear_waits.false, ← e) c.rear_waits.ensures))

pub rear_waits-slice_bounds-is_suspended-count : goal.rear_waits-slice_bounds-is_suspended-count
rear_waits-slice_bounds-is_suspended-count t c =
    (other-part c.args.program.now c.args.k c.args.state.now c.requires c.if-form-lt-BESIDE.false
    (c.find_rear-g.ensures ∙ rear_found (found_in c.requires.at) c.requires.form c.if-form-lt-BESIDE.false)).order

pub rear_waits-slice_bounds-is_suspended-start : goal.rear_waits-slice_bounds-is_suspended-start
rear_waits-slice_bounds-is_suspended-start t c =
    (other-part c.args.program.now c.args.k c.args.state.now c.requires c.if-form-lt-BESIDE.false
    (c.find_rear-g.ensures ∙ rear_found (found_in c.requires.at) c.requires.form c.if-form-lt-BESIDE.false)).order

pub rear_waits-slice_bounds-is_suspended-end : goal.rear_waits-slice_bounds-is_suspended-end
rear_waits-slice_bounds-is_suspended-end t c =
    (other-part c.args.program.now c.args.k c.args.state.now c.requires c.if-form-lt-BESIDE.false
    (c.find_rear-g.ensures ∙ rear_found (found_in c.requires.at) c.requires.form c.if-form-lt-BESIDE.false)).within

pub rear_waits-is_suspended-requires : goal.rear_waits-is_suspended-requires
rear_waits-is_suspended-requires t c =
    let p =
    other-part c.args.program.now c.args.k c.args.state.now c.requires c.if-form-lt-BESIDE.false
    (c.find_rear-g.ensures ∙ rear_found (found_in c.requires.at) c.requires.form c.if-form-lt-BESIDE.false) in
    (omega (arith, p.earlier), record { valued = c.requires.at.valued; node = p.at })

pub rear_waits-returns : goal.rear_waits-returns
rear_waits-returns t c =
    let args = c.args in
    record {
      none = λ h. absurd (omega (arith, c.if-form-lt-BESIDE.false));
      other =
          λ h.
          c.is_suspended.ensures
          ∙ ap (λ (f : Front). suspended (residual_of args.program.now f.child (part_in f args.state.now)) args.values.now)
          (c.find_rear-g.ensures ∙ rear_found (found_in c.requires.at) c.requires.form c.if-form-lt-BESIDE.false);
    }
