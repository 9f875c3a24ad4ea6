-- `change_instant`: without a watching the node stays; else, by its form, its part in front changes, and of a parallel the
-- part behind it.
use mathlib.Core.Path.{◌≡◌, sym, ap, ◌∙◌}
use mathlib.Core.List.{List}
use Prim.Native.Nat.{ℕ, ◌<◌, ◌≤◌}
use native.Mathlib.Omega.{arith}
use lib.IntN.{ℤ}
use lib.ListN.{length}
use Rattle.program.specs.Program.{kind_at, process_of}
use Rattle.program.specs.declared.forms.Front.{Front}
use Rattle.program.specs.Forms.{form_of, rear_of, itself, beside, part_in}
use Rattle.program.proofs.Fronts.{front_form}
use Rattle.residual.specs.Residual.{own}
use Rattle.residual.specs.Nodes.{NodeIn, in_front}
use Rattle.residual.proofs.Residuals.{some_bytes}
use Rattle.residual.proofs.Staying.{unwatched_stays}
use Rattle.instants.proofs.Deciding.{Found, found_in, Part, front_part, stays, signal_known, ends, shuts}
use Rattle.instants.proofs.Changing.{put, length_one, one_changed, rear_after, length_two, two_changed}
use Rattle.instants.proofs.+change_instant.Goals as goal
use Rattle.instants.proofs.+change_instant.Goals.{else-form-eq-WATCHED-via-then-form-eq-WATCHED+else-signal_is_present as silent, else-form-eq-WATCHED-via-else-form-eq-WATCHED as unwatched, else-form-eq-GUARDED-via-then-form-eq-GUARDED+else-not-signal_is_present as shown, else-form-eq-GUARDED-via-else-form-eq-GUARDED as unguarded}

module _ (words : List ℕ) (k : ℕ) (st : List ℕ) where
  -- the form that was found is that of the node
  form_is : {r : ℕ} → r ≡ form_of (kind_at words k) (own st) → r ≡ (in_front words k st).form
  form_is e = e ∙ sym (front_form words k (own st) (length st))

  -- what was found to be in front of the node
  standing : {values : List ℤ} → NodeIn words k st values → {f : Front} → f ≡ in_front words k st → Found words values k st f
  standing asked q = record { valued = asked.valued; at = asked.node; front = q }

  ahead :
      {r : ℕ} → r ≡ form_of (kind_at words k) (own st) → itself < r → {f : Front} → f ≡ in_front words k st →
      itself < f.form
  ahead e some q = rw q (omega (arith, form_is e, some))

  part :
      {values : List ℤ} → NodeIn words k st values → {r : ℕ} → r ≡ form_of (kind_at words k) (own st) → itself < r →
      {f : Front} → f ≡ in_front words k st → Part words k st f
  part asked e some q = front_part (standing asked q) (ahead e some q)

  -- the part behind it, where the part in front has changed
  behind :
      {values : List ℤ} → NodeIn words k st values → {r : ℕ} → r ≡ form_of (kind_at words k) (own st) → itself < r →
      {f : Front} → f ≡ in_front words k st → (ys : List ℕ) → length ys ≡ length (part_in f st) →
      beside ≤ r → {g : Front} → g ≡ rear_of words k r (length st) → Part words k (put f st ys) g
  behind asked e some q ys l parallel u =
      rear_after (standing asked q) (ahead e some q) ys l (form_is e) parallel u

pub returns-then-not-watches_at : goal.returns-then-not-watches_at
returns-then-not-watches_at t c =
    let runs = c.requires.valued.runnable.nodes c.args.k c.requires.node.known in
    let none = sym runs.watches ∙ sym c.watches_at.ensures ∙ c.if-not-watches_at.true in
    sym (unwatched_stays c.args.values.now (process_of c.args.program.now c.args.k) none c.args.state.now)

pub bounds-state-0 : goal.bounds-state-0
bounds-state-0 t c = some_bytes c.requires.node

pub returns-then-form-le-ITSELF : goal.returns-then-form-le-ITSELF
returns-then-form-le-ITSELF t c =
    let e = form_is c.args.program.now c.args.k c.args.state.now c.form_at-form.ensures in
    sym (stays (found_in c.requires) (omega (arith, e, c.if-form-le-ITSELF.true))).same

pub signal_is_present-requires : goal.signal_is_present-requires
signal_is_present-requires t c =
    let e = form_is c.args.program.now c.args.k c.args.state.now c.form_at-form.ensures in (
      omega arith,
      signal_known (found_in c.requires) (omega (arith, e, c.if-form-eq-WATCHED.true)) (omega (arith, e, c.if-form-eq-WATCHED.true)),
    )

pub bounds-state-0-then-signal_is_present : goal.bounds-state-0-then-signal_is_present
bounds-state-0-then-signal_is_present t c = some_bytes c.requires.node

pub returns-then-signal_is_present : goal.returns-then-signal_is_present
returns-then-signal_is_present t c =
    let e = form_is c.args.program.now c.args.k c.args.state.now c.form_at-form.ensures in
    ends (found_in c.requires) (sym e ∙ c.if-form-eq-WATCHED.true) (sym c.signal_is_present.ensures ∙ c.if-signal_is_present.true)

pub signal_is_present-requires-then-form-eq-GUARDED : goal.signal_is_present-requires-then-form-eq-GUARDED
signal_is_present-requires-then-form-eq-GUARDED t c =
    let e = form_is c.args.program.now c.args.k c.args.state.now c.form_at-form.ensures in (
      omega arith,
      signal_known (found_in c.requires) (omega (arith, e, c.if-form-eq-GUARDED.true)) (omega (arith, e, c.if-form-eq-GUARDED.true)),
    )

pub returns-then-not-signal_is_present : goal.returns-then-not-signal_is_present
returns-then-not-signal_is_present t c =
    let e = form_is c.args.program.now c.args.k c.args.state.now c.form_at-form.ensures in
    let absent = sym c.signal_is_present-then-form-eq-GUARDED.ensures ∙ c.if-not-signal_is_present.true in
    sym (shuts (found_in c.requires) (sym e ∙ c.if-form-eq-GUARDED.true) absent).same

pub slice_bounds-change_instant-count : goal.slice_bounds-change_instant-count
slice_bounds-change_instant-count t c =
    (part c.args.program.now c.args.k c.args.state.now c.requires c.form_at-form.ensures c.if-form-le-ITSELF.false c.find_front-f.ensures).order

pub slice_bounds-change_instant-start : goal.slice_bounds-change_instant-start
slice_bounds-change_instant-start t c =
    (part c.args.program.now c.args.k c.args.state.now c.requires c.form_at-form.ensures c.if-form-le-ITSELF.false c.find_front-f.ensures).order

pub slice_bounds-change_instant-end : goal.slice_bounds-change_instant-end
slice_bounds-change_instant-end t c =
    (part c.args.program.now c.args.k c.args.state.now c.requires c.form_at-form.ensures c.if-form-le-ITSELF.false c.find_front-f.ensures).within

pub change_instant-requires : goal.change_instant-requires
change_instant-requires t c =
    let p = part c.args.program.now c.args.k c.args.state.now c.requires c.form_at-form.ensures c.if-form-le-ITSELF.false c.find_front-f.ensures in
    (omega (arith, p.earlier), record { valued = c.requires.valued; node = p.at })

pub slice_bounds-change_instant-count-then-form-ge-BESIDE : goal.slice_bounds-change_instant-count-then-form-ge-BESIDE
slice_bounds-change_instant-count-then-form-ge-BESIDE t c =
    (behind c.args.program.now c.args.k c.args.state.now c.requires c.form_at-form.ensures c.if-form-le-ITSELF.false c.find_front-f.ensures
    c.change_instant.new.state c.change_instant.auto.state c.if-form-ge-BESIDE.true c.find_rear-g.ensures).order

pub slice_bounds-change_instant-start-then-form-ge-BESIDE : goal.slice_bounds-change_instant-start-then-form-ge-BESIDE
slice_bounds-change_instant-start-then-form-ge-BESIDE t c =
    (behind c.args.program.now c.args.k c.args.state.now c.requires c.form_at-form.ensures c.if-form-le-ITSELF.false c.find_front-f.ensures
    c.change_instant.new.state c.change_instant.auto.state c.if-form-ge-BESIDE.true c.find_rear-g.ensures).order

pub slice_bounds-change_instant-end-then-form-ge-BESIDE : goal.slice_bounds-change_instant-end-then-form-ge-BESIDE
slice_bounds-change_instant-end-then-form-ge-BESIDE t c =
    (behind c.args.program.now c.args.k c.args.state.now c.requires c.form_at-form.ensures c.if-form-le-ITSELF.false c.find_front-f.ensures
    c.change_instant.new.state c.change_instant.auto.state c.if-form-ge-BESIDE.true c.find_rear-g.ensures).within

pub change_instant-requires-then-form-ge-BESIDE : goal.change_instant-requires-then-form-ge-BESIDE
change_instant-requires-then-form-ge-BESIDE t c =
    let p =
    behind c.args.program.now c.args.k c.args.state.now c.requires c.form_at-form.ensures c.if-form-le-ITSELF.false c.find_front-f.ensures
    c.change_instant.new.state c.change_instant.auto.state c.if-form-ge-BESIDE.true c.find_rear-g.ensures
    in
    (omega (arith, p.earlier), record { valued = c.requires.valued; node = p.at })

pub shape_of-state-then-form-ge-BESIDE : goal.shape_of-state-then-form-ge-BESIDE
shape_of-state-then-form-ge-BESIDE t c =
    let words = c.args.program.now in
    let q = c.find_front-f.ensures in
    let e = c.form_at-form.ensures in
    length_two (standing words c.args.k c.args.state.now c.requires q) (ahead words c.args.k c.args.state.now e c.if-form-le-ITSELF.false q)
    c.change_instant.new.state c.change_instant.auto.state (form_is words c.args.k c.args.state.now e) c.if-form-ge-BESIDE.true
    c.find_rear-g.ensures c.change_instant-then-form-ge-BESIDE.new.state c.change_instant-then-form-ge-BESIDE.auto.state

pub returns-then-form-ge-BESIDE : goal.returns-then-form-ge-BESIDE
returns-then-form-ge-BESIDE t c =
    let words = c.args.program.now in
    let q = c.find_front-f.ensures in
    let e = c.form_at-form.ensures in
    two_changed (standing words c.args.k c.args.state.now c.requires q) (ahead words c.args.k c.args.state.now e c.if-form-le-ITSELF.false q)
    c.change_instant.new.state c.change_instant.auto.state (form_is words c.args.k c.args.state.now e) c.if-form-ge-BESIDE.true
    c.find_rear-g.ensures c.change_instant-then-form-ge-BESIDE.new.state c.change_instant-then-form-ge-BESIDE.auto.state
    c.change_instant.ensures c.change_instant-then-form-ge-BESIDE.ensures

pub shape_of-state-else-form-ge-BESIDE : goal.shape_of-state-else-form-ge-BESIDE
shape_of-state-else-form-ge-BESIDE t c =
    let words = c.args.program.now in
    let q = c.find_front-f.ensures in
    let e = c.form_at-form.ensures in
    length_one (standing words c.args.k c.args.state.now c.requires q) (ahead words c.args.k c.args.state.now e c.if-form-le-ITSELF.false q)
    c.change_instant.new.state c.change_instant.auto.state

pub returns-else-form-ge-BESIDE : goal.returns-else-form-ge-BESIDE
returns-else-form-ge-BESIDE t c =
    let words = c.args.program.now in
    let q = c.find_front-f.ensures in
    let front = form_is words c.args.k c.args.state.now c.form_at-form.ensures in
    let e = ap (λ (f : Front). f.form) q in
    one_changed (standing words c.args.k c.args.state.now c.requires q)
    (ahead words c.args.k c.args.state.now c.form_at-form.ensures c.if-form-le-ITSELF.false q)
    c.change_instant.new.state c.change_instant.auto.state (omega (arith, e, front, c.if-form-ge-BESIDE.false))
    (λ w.
    elim c.else-form-eq-WATCHED.branch [
      | silent v ↦ sym v.signal_is_present.ensures ∙ v.if-signal_is_present.false
      | unwatched v ↦ absurd (v.if-form-eq-WATCHED.false (front ∙ sym e ∙ w))
    ])
    (λ w.
    elim c.else-form-eq-GUARDED.branch [
      | shown v ↦ sym v.signal_is_present-then-form-eq-GUARDED.ensures ∙ v.if-not-signal_is_present.false
      | unguarded v ↦ absurd (v.if-form-eq-GUARDED.false (front ∙ sym e ∙ w))
    ])
    c.change_instant.ensures
