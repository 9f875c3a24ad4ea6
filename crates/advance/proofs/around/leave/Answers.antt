-- `leave`: a node whose part in front has moved: it rests as its part does, or it moves around it.
use mathlib.Core.Path.{◌≡◌, refl, sym, ◌∙◌, subst}
use mathlib.Core.Bool.{Bool, false≢true}
use mathlib.Core.List.{List}
use Prim.Native.Nat.{ℕ, ◌≤◌}
use native.Mathlib.Decide.{dec_lt}
use native.Mathlib.Omega.{arith}
use lib.IntN.{ℤ}
use Rattle.program.specs.Forms.{before, beside}
use Rattle.residual.specs.Nodes.{residual_of, in_front}
use Rattle.residual.proofs.Residuals.{some_bytes}
use Rattle.instants.specs.Promises.{RearWaits}
use Rattle.instants.proofs.Deciding.{Found, sees, waiting_front}
use Rattle.moves.specs.declared.counts.Counts.{Counts}
use Rattle.moves.specs.declared.counts.Reason.{Reason}
use Rattle.moves.specs.declared.counts.Moved.{Moved}
use Rattle.moves.specs.declared.counts.Moved.TheVariants as moved
use Rattle.advance.specs.Promises.{PartEnds, EndsWith, PartCame, PartRests, CanLeave, Settles, rests_on, LeftBy, Leaves}
use Rattle.advance.proofs.Resting.{drops, trades, byte_bound, settles}
use Rattle.advance.proofs.around.leave.Goals as goal

module _ (words : List ℕ) (k : ℕ) (st : List ℕ) (values : List ℤ) (limit form : ℕ) (part : Moved)
    (asked : CanLeave words k st values limit form part) where
  -- what is found of the node
  found : Found words values k st (in_front words k st)
  found = record { valued = asked.node.valued; at = asked.node.node; front = refl }

  module _ (h : before ≤ form) (why : Reason) (at : Counts) (e : part ≡ moved.Rests why at) where
    -- the part in front rests
    rested : PartRests words k st values limit form why at
    rested = subst (PartCame words k st values limit form) e (asked.came h)

    -- a part that waits can trade places
    framed : before ≤ (in_front words k st).form
    framed = subst (λ n. before ≤ n) rested.form_is h

    -- whether what is behind it waits
    rear : {r w : Bool} → r ≡ w → RearWaits words k st values form r → RearWaits words k st values (in_front words k st).form w
    rear q b = rw (← q, ← rested.form_is) b

    -- what the node comes to is said of its part
    leaves :
        {st' : List ℕ} {m : Moved} →
        Settles limit (residual_of words k st) values (residual_of words k st') why at m →
        Leaves words k st values limit form part st' m
    leaves {st'} {m} s =
        record {
          same = λ l. absurd (omega (arith, l, h));
          still = λ l. absurd (omega (arith, l, h));
          framed = λ _. subst (λ (z : Moved). LeftBy words k st values limit st' m z) (sym e) s;
        }

pub bounds-state-0 : goal.bounds-state-0
bounds-state-0 c = some_bytes c.requires.node.node

pub byte_dropped-byte-requires : goal.byte_dropped-byte-requires
byte_dropped-byte-requires c =
    let a = c.args in
    let r = rested _ _ _ _ _ _ _ c.requires c.if-form-lt-BEFORE.false _ _ c.in-Rests.is in
    rw r.form_is
    (byte_bound a.program.now a.k a.state.now _ a.values.now (sees (found _ _ _ _ _ _ _ c.requires))
    (framed _ _ _ _ _ _ _ c.requires c.if-form-lt-BEFORE.false _ _ c.in-Rests.is))

pub move_around-requires : goal.move_around-requires
move_around-requires c = record { some = some_bytes c.requires.node.node; most = c.requires.most }

pub returns-then-rear_waits : goal.returns-then-rear_waits
returns-then-rear_waits c =
    let a = c.args in
    let r = rested _ _ _ _ _ _ _ c.requires c.if-form-lt-BEFORE.false _ _ c.in-Rests.is in
    let frame = framed _ _ _ _ _ _ _ c.requires c.if-form-lt-BEFORE.false _ _ c.in-Rests.is in
    let p = residual_of a.program.now a.k a.state.now in
    leaves _ _ _ _ _ _ _ c.requires c.if-form-lt-BEFORE.false _ _ c.in-Rests.is
    (rests_on refl refl
    (subst (EndsWith p a.values.now) (sym c.in-Suspended.is)
    (sym
    (waiting_front (found _ _ _ _ _ _ _ c.requires) (omega (arith, frame)) (λ q. r.shown (r.form_is ∙ q))
    (subst (PartEnds _ a.values.now) c.in-Suspended.is r.ends)
    (rear _ _ _ _ _ _ _ c.requires c.if-form-lt-BEFORE.false _ _ c.in-Rests.is c.if-rear_waits.true c.rear_waits.ensures)))))

pub bounds-state-0-in-Suspended : goal.bounds-state-0-in-Suspended
bounds-state-0-in-Suspended c = some_bytes c.requires.node.node

pub overflow_sub-byte : goal.overflow_sub-byte
overflow_sub-byte c =
    let a = c.args in
    let frame = framed _ _ _ _ _ _ _ c.requires c.if-form-lt-BEFORE.false _ _ c.in-Rests.is in
    let waits = rear _ _ _ _ _ _ _ c.requires c.if-form-lt-BEFORE.false _ _ c.in-Rests.is c.if-rear_waits.false c.rear_waits.ensures in
    let far : beside ≤ (in_front a.program.now a.k a.state.now).form =
    elim (dec_lt (in_front a.program.now a.k a.state.now).form beside) [
      | yes l ↦ absurd (false≢true (waits.none l))
      | no n ↦ omega arith
    ] in
    byte_bound a.program.now a.k a.state.now _ a.values.now (sees (found _ _ _ _ _ _ _ c.requires)) frame
    (λ e. omega (arith, far, e)) (λ e. omega (arith, far, e))

pub move_around-requires-in-Suspended : goal.move_around-requires-in-Suspended
move_around-requires-in-Suspended c = record { some = some_bytes c.requires.node.node; most = c.requires.most }

pub returns-in-Nil : goal.returns-in-Nil
returns-in-Nil c =
    let a = c.args in
    let r = rested _ _ _ _ _ _ _ c.requires c.if-form-lt-BEFORE.false _ _ c.in-Rests.is in
    leaves _ _ _ _ _ _ _ c.requires c.if-form-lt-BEFORE.false _ _ c.in-Rests.is
    (settles a.program.now a.k a.state.now (in_front a.program.now a.k a.state.now) a.values.now
    (drops a.program.now a.k a.state.now _ a.values.now (sees (found _ _ _ _ _ _ _ c.requires))
    (framed _ _ _ _ _ _ _ c.requires c.if-form-lt-BEFORE.false _ _ c.in-Rests.is)
    (subst (PartEnds _ a.values.now) c.in-Nil.is r.ends) (λ q. r.shown (r.form_is ∙ q)))
    r.time
    (rw (← r.form_is, ← c.byte_dropped-byte.ensures) c.move_around.ensures))

pub returns-else-rear_waits : goal.returns-else-rear_waits
returns-else-rear_waits c =
    let a = c.args in
    let r = rested _ _ _ _ _ _ _ c.requires c.if-form-lt-BEFORE.false _ _ c.in-Rests.is in
    leaves _ _ _ _ _ _ _ c.requires c.if-form-lt-BEFORE.false _ _ c.in-Rests.is
    (settles a.program.now a.k a.state.now (in_front a.program.now a.k a.state.now) a.values.now
    (trades a.program.now a.k a.state.now _ a.values.now (sees (found _ _ _ _ _ _ _ c.requires))
    (framed _ _ _ _ _ _ _ c.requires c.if-form-lt-BEFORE.false _ _ c.in-Rests.is)
    (subst (PartEnds _ a.values.now) c.in-Suspended.is r.ends)
    (rear _ _ _ _ _ _ _ c.requires c.if-form-lt-BEFORE.false _ _ c.in-Rests.is c.if-rear_waits.false c.rear_waits.ensures))
    r.time
    c.move_around-in-Suspended.ensures)
