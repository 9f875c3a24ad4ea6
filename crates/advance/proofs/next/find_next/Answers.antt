-- `find_next`: by the form of the node.
use mathlib.Core.Path.{◌≡◌, refl, sym, ap, ◌∙◌, subst}
use mathlib.Core.Bool.{false≢true}
use Prim.Native.Nat.{ℕ, ◌<◌}
use native.Mathlib.Omega.{arith}
use mathlib.Core.List.{List}
use lib.IntN.{ℤ}
use lib.ListN.{length}
use Rattle.program.specs.Program.{kind_at}
use Rattle.program.specs.declared.forms.Front.{Front}
use Rattle.program.specs.Forms.{form_of, itself, before}
use Rattle.program.proofs.Fronts.{front_form}
use Rattle.residual.specs.Residual.{own}
use Rattle.residual.specs.Nodes.{NodeIn, in_front}
use Rattle.residual.proofs.Residuals.{some_bytes}
use Rattle.residual.proofs.Sights.{part_length}
use Rattle.instants.proofs.Deciding.{Found, Part, sees, front_part, signal_known, shuts}
use Rattle.advance.specs.Promises.{Follows, part_ahead}
use Rattle.advance.proofs.Entries.{own_follows, own_part, writes_both}
use Rattle.advance.proofs.next.find_next.Goals as goal
use Rattle.advance.proofs.next.find_next.Goals.{else-form-eq-GUARDED-via-then-form-eq-GUARDED+else-not-signal_is_present as open_when, else-form-eq-GUARDED-via-else-form-eq-GUARDED as other}

module _ (words : List ℕ) (k : ℕ) (st : List ℕ) where
  -- the form that was found is that of the node
  form_is : {r : ℕ} → r ≡ form_of (kind_at words k) (own st) → r ≡ (in_front words k st).form
  form_is e = e ∙ sym (front_form words k (own st) (length st))

  module _ (values : List ℤ) (asked : NodeIn words k st values) (f : Front) (q : f ≡ in_front words k st) where
    -- what is found of the node
    found : Found words values k st f
    found = record { valued = asked.valued; at = asked.node; front = q }

    module _ (r : ℕ) (e : r ≡ form_of (kind_at words k) (own st)) where
      same-form : r ≡ f.form
      same-form = form_is e ∙ ap (λ (f : Front). f.form) (sym q)

      module _ (some : itself < r) where
        -- a part is in front
        ahead : itself < f.form
        ahead = subst (λ n. itself < n) same-form some

        part-is : Part words k st f
        part-is = front_part found ahead

        some-part : f.from < f.to
        some-part = omega (arith, some_bytes part-is.at, part_length f st part-is.within)

pub bounds-state-0 : goal.bounds-state-0
bounds-state-0 c = some_bytes c.requires.node

pub returns-then-form-le-ITSELF : goal.returns-then-form-le-ITSELF
returns-then-form-le-ITSELF c =
    let a = c.args in
    let here : Found a.program.now a.values.now a.k a.state.now (in_front a.program.now a.k a.state.now) =
    record { valued = c.requires.valued; at = c.requires.node; front = refl } in
    subst (Follows a.program.now a.k a.state.now a.values.now) (sym c.own_next.ensures)
    (own_follows a.values.now (sees here) (form_is a.program.now a.k a.state.now c.form_at-form.ensures) c.if-form-le-ITSELF.true)

pub signal_is_present-requires : goal.signal_is_present-requires
signal_is_present-requires c =
    let pre = c.requires in
    let e = same-form c.args.program.now c.args.k c.args.state.now _ c.requires _ c.find_front-front.ensures _ c.form_at-form.ensures in (
      omega (arith, pre.node.known, pre.valued.runnable.few_nodes),
      signal_known (found c.args.program.now c.args.k c.args.state.now _ c.requires _ c.find_front-front.ensures) (omega (arith, c.if-form-eq-GUARDED.true, e)) (omega (arith, c.if-form-eq-GUARDED.true, e)),
    )

pub returns-then-not-signal_is_present : goal.returns-then-not-signal_is_present
returns-then-not-signal_is_present c =
    (shuts (found c.args.program.now c.args.k c.args.state.now _ c.requires _ c.find_front-front.ensures) (sym (same-form c.args.program.now c.args.k c.args.state.now _ c.requires _ c.find_front-front.ensures _ c.form_at-form.ensures) ∙ c.if-form-eq-GUARDED.true)
    (sym c.signal_is_present.ensures ∙ c.if-not-signal_is_present.true)
    ).waits

pub bounds-state-from : goal.bounds-state-from
bounds-state-from c =
    let p = part-is c.args.program.now c.args.k c.args.state.now _ c.requires _ c.find_front-front.ensures _ c.form_at-form.ensures c.if-form-le-ITSELF.false in omega (arith, some-part c.args.program.now c.args.k c.args.state.now _ c.requires _ c.find_front-front.ensures _ c.form_at-form.ensures c.if-form-le-ITSELF.false, p.within)

pub writes_next-requires : goal.writes_next-requires
writes_next-requires c =
    let pre = c.requires in
    omega (arith, (part-is c.args.program.now c.args.k c.args.state.now _ c.requires _ c.find_front-front.ensures _ c.form_at-form.ensures c.if-form-le-ITSELF.false).earlier, pre.node.known, pre.valued.runnable.few_nodes)

pub returns-then-writes_next : goal.returns-then-writes_next
returns-then-writes_next c =
    let both = writes_both _ _ (sym c.writes_next.ensures ∙ c.if-writes_next.true) in
    part_ahead
    (record {
      front = c.find_front-front.ensures;
      part = ahead c.args.program.now c.args.k c.args.state.now _ c.requires _ c.find_front-front.ensures _ c.form_at-form.ensures c.if-form-le-ITSELF.false;
      shown = λ q.
          elim c.else-form-eq-GUARDED.branch [
            | open_when w ↦ sym w.signal_is_present.ensures ∙ w.if-not-signal_is_present.false
            | other w ↦ absurd (w.if-form-eq-GUARDED.false (same-form c.args.program.now c.args.k c.args.state.now _ c.requires _ c.find_front-front.ensures _ c.form_at-form.ensures ∙ q))
          ];
      writer = λ _. both.0;
      written = λ _. own_part c.find_front-front.result c.args.state.now (some-part c.args.program.now c.args.k c.args.state.now _ c.requires _ c.find_front-front.ensures _ c.form_at-form.ensures c.if-form-le-ITSELF.false) ∙ both.1;
    })

pub returns-then-form-lt-BEFORE : goal.returns-then-form-lt-BEFORE
returns-then-form-lt-BEFORE c =
    record { front = c.find_front-front.ensures; part = ahead c.args.program.now c.args.k c.args.state.now _ c.requires _ c.find_front-front.ensures _ c.form_at-form.ensures c.if-form-le-ITSELF.false; alone = subst (λ n. n < before) (same-form c.args.program.now c.args.k c.args.state.now _ c.requires _ c.find_front-front.ensures _ c.form_at-form.ensures) c.if-form-lt-BEFORE.true }

pub returns : goal.returns
returns c =
    part_ahead
    (record {
      front = c.find_front-front.ensures;
      part = ahead c.args.program.now c.args.k c.args.state.now _ c.requires _ c.find_front-front.ensures _ c.form_at-form.ensures c.if-form-le-ITSELF.false;
      shown = λ q.
          elim c.else-form-eq-GUARDED.branch [
            | open_when w ↦ sym w.signal_is_present.ensures ∙ w.if-not-signal_is_present.false
            | other w ↦ absurd (w.if-form-eq-GUARDED.false (same-form c.args.program.now c.args.k c.args.state.now _ c.requires _ c.find_front-front.ensures _ c.form_at-form.ensures ∙ q))
          ];
      writer = λ e. absurd (false≢true e);
      written = λ e. absurd (false≢true e);
    })
