-- What the form of a node tells: its parts, and by them whether it is suspended and what an instant change makes of it.
use mathlib.Core.Path.{◌≡◌, refl, sym, ap, ◌∙◌, subst}
use mathlib.Core.Bool.{Bool, true, false, ◌&&◌, and-true, and_comm}
use mathlib.Core.Logic.{◌⊎◌, inl, inr, ⊎_elim}
use mathlib.Core.List.{List}
use Prim.Native.Nat.{ℕ, ◌-◌, ◌≤◌, ◌<◌}
use native.Mathlib.Decide.{dec_lt}
use native.Mathlib.Omega.{arith}
use lib.IntN.{ℤ}
use lib.ListN.{length, set, length-set}
use lib.Seq.{set-get_or}
use Rattle.language.specs.Syntax.{Proc, parallel}
use Rattle.language.specs.Steps.{present, suspended, change}
use Rattle.program.specs.Program.{name_count, kind_at}
use Rattle.program.proofs.Views.{NodeView, a_nil, an_assign, a_let, an_if, a_while, a_sequence, an_emit, a_local, a_watching, a_when, a_parallel, node_view}
use Rattle.program.specs.declared.forms.Front.{Front}
use Rattle.program.proofs.Fronts.{front_form, rear_is, parts_meet}
use Rattle.residual.specs.Residual.{own, residual}
use Rattle.program.specs.Forms.{itself, watched, guarded, beside, form_of, rear_of, part_in}
use Rattle.language.specs.Frames.{Frame, around}
use Rattle.residual.specs.Nodes.{Valued, At, NodeIn, in_front, in_rear, residual_of}
use Rattle.instants.specs.Promises.{RearWaits}
use Rattle.residual.proofs.Sights.{Inside, signal_at, MovesItself, not_itself, alone_within, beside_above, Sight, sees_nothing, sees_itself, sees_alone, sees_before, sees_watched, sees_guarded, sees_beside, sight, part_length}

-- node k with its bytes, and its front
pub record Found (words : List ℕ) (values : List ℤ) (k : ℕ) (st : List ℕ) (f : Front) : Type 0 where
  pub valued : Valued words values
  pub at : At words k st
  pub front : f ≡ in_front words k st

pub found_in :
    {words : List ℕ} {k : ℕ} {st : List ℕ} {values : List ℤ} → NodeIn words k st values →
    Found words values k st (in_front words k st)
found_in n = record { valued = n.valued; at = n.node; front = refl }

-- a part of it, which is a node with its own bytes
pub record Part (words : List ℕ) (k : ℕ) (st : List ℕ) (f : Front) : Type 0 where
  pub earlier : f.child < k
  pub starts : 1 ≤ f.from
  pub order : f.from ≤ f.to
  pub within : f.to ≤ length st
  pub at : At words f.child (part_in f st)

-- node k is a parallel
pub record Rear (words : List ℕ) (k : ℕ) (st : List ℕ) (f : Front) : Type 0 where
  pub part : Part words k st (in_rear words k st)
  pub whole :
      residual_of words k st
      ≡ parallel (residual_of words f.child (part_in f st))
      (residual_of words (in_rear words k st).child (part_in (in_rear words k st) st))

-- p is suspended or not, and an instant change leaves it as it is
pub record Stays (p : Proc ℕ) (values : List ℤ) (waiting : Bool) : Type 0 where
  pub waits : suspended p values ≡ waiting
  pub same : change p values ≡ p

-- a frame that asks the part in front alone, if no signal ends it or shuts it
pub record Ahead (words : List ℕ) (k : ℕ) (st : List ℕ) (f : Front) (values : List ℤ) : Type 0 where
  pub frame : Frame ℕ
  pub inside : Inside words k st f frame
  pub waits :
      (f.form ≡ guarded → present values (signal_at words k) ≡ true) →
      (p : Proc ℕ) → suspended (around frame p) values ≡ suspended p values
  pub changes :
      (f.form ≡ watched → present values (signal_at words k) ≡ false) →
      (f.form ≡ guarded → present values (signal_at words k) ≡ true) →
      (p : Proc ℕ) → change (around frame p) values ≡ around frame (change p values)

-- a frame with a signal
record Signalled (words : List ℕ) (k : ℕ) (st : List ℕ) (f : Front) (values : List ℤ) : Type 0 where
  pub known : signal_at words k < name_count words
  pub ends :
      f.form ≡ watched → present values (signal_at words k) ≡ true →
      residual_of words k (set st 0 4) ≡ change (residual_of words k st) values
  pub shuts : f.form ≡ guarded → present values (signal_at words k) ≡ false → Stays (residual_of words k st) values true

-- the bytes of a part, whatever the node's own byte is
module _ {words : List ℕ} {k : ℕ} {st : List ℕ} (at : At words k st) (f : Front) (F : Frame ℕ) where
  inside_part : (v : ℕ) → Inside words k (set st 0 v) f F → Part words k st f
  inside_part v i =
      let within : f.to ≤ length st = rw (length-set st 0 v) at i.within in
      record {
        earlier = i.earlier;
        starts = i.starts;
        order = i.order;
        within = within;
        at = record { known = omega (arith, i.earlier, at.known); whole = part_length f st within ∙ i.fits };
      }

  part_of_lem : Inside words k st f F → Part words k st f
  part_of_lem i = inside_part (own st) (rw (set-get_or st 0 0) i)

itself_stays :
    {words : List ℕ} {k : ℕ} (st : List ℕ) (values : List ℤ) → NodeView words k → own st ≡ 0 →
    MovesItself (kind_at words k) → Stays (residual_of words k st) values false
unfolding residual suspended change
itself_stays st values (a_nil e q) o m = rw q (record { waits = refl; same = refl })
itself_stays st values (an_assign e q x y) o m = rw (q, o) (record { waits = refl; same = refl })
itself_stays st values (a_let e q x y p) o m = rw (q, o) (record { waits = refl; same = refl })
itself_stays st values (an_if e q y p r) o m = rw (q, o) (record { waits = refl; same = refl })
itself_stays st values (a_while e q y p) o m = rw (q, o) (record { waits = refl; same = refl })
itself_stays st values (a_sequence e q p r) o m = absurd (not_itself m e (inr (inl refl)))
itself_stays st values (an_emit e q x) o m = rw (q, o) (record { waits = refl; same = refl })
itself_stays st values (a_local e q x p) o m = rw (q, o) (record { waits = refl; same = refl })
itself_stays st values (a_watching e q x p g) o m = absurd (not_itself m e (inr (inr (omega arith))))
itself_stays st values (a_when e q x p l) o m = absurd (not_itself m e (inr (inr (omega arith))))
itself_stays st values (a_parallel e q p r) o m = absurd (not_itself m e (inr (inr (omega arith))))

module _ {words : List ℕ} {values : List ℤ} {k : ℕ} {st : List ℕ} {f : Front}
    (found : Found words values k st f) where
  pub sees : Sight words k st f
  sees =
      let at = found.at in
      subst (Sight words k st) (sym found.front) (sight words found.valued.runnable k at.known st at.whole)

  pub front_part : itself < f.form → Part words k st f
  front_part = part sees
    where
      part : Sight words k st f → itself < f.form → Part words k st f
      part (sees_nothing e q) h = absurd (omega arith)
      part (sees_itself e o m) h = absurd (omega arith)
      part (sees_alone e i) h = part_of_lem found.at f _ i
      part (sees_before e o q i z) h = part_of_lem found.at f _ i
      part (sees_watched e n i z) h = part_of_lem found.at f _ i
      part (sees_guarded e n l i z) h = part_of_lem found.at f _ i
      part (sees_beside e o g u i j z) h = part_of_lem found.at f _ i

  pub rear_part : beside ≤ f.form → Rear words k st f
  rear_part = part sees
    where
      part : Sight words k st f → beside ≤ f.form → Rear words k st f
      part (sees_nothing e q) h = absurd (omega arith)
      part (sees_itself e o m) h = absurd (omega arith)
      part (sees_alone e i) h = absurd (omega (arith, alone_within e))
      part (sees_before e o q i z) h = absurd (omega arith)
      part (sees_watched e n i z) h = absurd (omega arith)
      part (sees_guarded e n l i z) h = absurd (omega arith)
      part (sees_beside e o g u i j z) h =
          record { part = rw (← u) (inside_part found.at g _ (1 - own st) j); whole = rw (← u) i.whole }

  -- its parts: the other one as it is found by the form, and where they lie
  module _ {n : ℕ} (e : n ≡ (in_front words k st).form) (b : beside ≤ n) where
    form_is : n ≡ form_of (kind_at words k) (own st)
    form_is = e ∙ front_form words k (own st) (length st)

    kind_known : kind_at words k < 11
    kind_known = (found.valued.runnable.nodes k found.at.known).kind

    pub rear_found : rear_of words k n (length st) ≡ in_rear words k st
    rear_found = rear_is words k (own st) (length st) form_is kind_known b

    pub parts_apart : (f.to ≤ (in_rear words k st).from) ⊎ ((in_rear words k st).to ≤ f.from)
    parts_apart =
        rw found.front
        (⊎_elim (λ m. inl (omega arith)) (λ m. inr (omega arith)) (parts_meet words k (own st) (length st) form_is kind_known b))

  pub ahead : itself < f.form → f.form < beside → Ahead words k st f values
  unfolding suspended change
  ahead = part sees
    where
      part : Sight words k st f → itself < f.form → f.form < beside → Ahead words k st f values
      part (sees_nothing e q) h l = absurd (omega arith)
      part (sees_itself e o m) h l = absurd (omega arith)
      part (sees_alone e i) h l =
          record { frame = _; inside = i; waits = λ on p. refl; changes = λ off on p. refl }
      part (sees_before e o q i z) h l =
          record { frame = _; inside = i; waits = λ on p. refl; changes = λ off on p. refl }
      part (sees_watched e n i z) h l =
          record { frame = _; inside = i; waits = λ on p. refl; changes = λ off on p. rw (off e) }
      part (sees_guarded e n a i z) h l =
          record { frame = _; inside = i; waits = λ on p. rw (on e); changes = λ off on p. rw (on e) }
      part (sees_beside e o g u i j z) h l = absurd (omega (arith, beside_above e))

  signalled : watched ≤ f.form → f.form ≤ guarded → Signalled words k st f values
  unfolding suspended change
  signalled = part sees
    where
      part : Sight words k st f → watched ≤ f.form → f.form ≤ guarded → Signalled words k st f values
      part (sees_nothing e q) h l = absurd (omega arith)
      part (sees_itself e o m) h l = absurd (omega arith)
      part (sees_alone e i) h l = absurd (omega (arith, alone_within e))
      part (sees_before e o q i z) h l = absurd (omega arith)
      part (sees_watched e n i z) h l =
          record { known = n; ends = λ u on. rw (i.whole, on) z; shuts = λ u off. absurd (omega arith) }
      part (sees_guarded e n a i z) h l =
          record {
            known = n;
            ends = λ u on. absurd (omega arith);
            shuts = λ u off. record { waits = rw (i.whole, off); same = rw (i.whole, off) };
          }
      part (sees_beside e o g u i j z) h l = absurd (omega (arith, beside_above e))

  pub signal_known : watched ≤ f.form → f.form ≤ guarded → signal_at words k < length values
  signal_known h l = omega (arith, (signalled h l).known, found.valued.named)

  pub ends :
      f.form ≡ watched → present values (signal_at words k) ≡ true →
      residual_of words k (set st 0 4) ≡ change (residual_of words k st) values
  ends e = (signalled (omega arith) (omega arith)).ends e

  pub shuts : f.form ≡ guarded → present values (signal_at words k) ≡ false → Stays (residual_of words k st) values true
  shuts e = (signalled (omega arith) (omega arith)).shuts e

  pub stays : f.form ≤ itself → Stays (residual_of words k st) values false
  unfolding suspended change
  stays = part sees
    where
      part : Sight words k st f → f.form ≤ itself → Stays (residual_of words k st) values false
      part (sees_nothing e q) h = rw q (record { waits = refl; same = refl })
      part (sees_itself e o m) h =
          itself_stays st values (node_view words found.valued.runnable k found.at.known) o m
      part (sees_alone e i) h = absurd (omega (arith, alone_within e))
      part (sees_before e o q i z) h = absurd (omega arith)
      part (sees_watched e n i z) h = absurd (omega arith)
      part (sees_guarded e n l i z) h = absurd (omega arith)
      part (sees_beside e o g u i j z) h = absurd (omega (arith, beside_above e))

  -- whether it is suspended, where no when is shut
  module _ (h : itself < f.form) (on : f.form ≡ guarded → present values (signal_at words k) ≡ true) where
    abbrev front : Proc ℕ
    front = residual_of words f.child (part_in f st)

    -- nothing behind the part in front could move, and that part is suspended
    pub rear_decides :
        {waits : Bool} → RearWaits words k st values f.form waits →
        suspended (residual_of words k st) values ≡ (waits && suspended front values)
    unfolding suspended
    rear_decides b =
        elim (dec_lt f.form beside) [
          | yes l ↦ let a = ahead h l in rw (a.inside.whole, a.waits on front, b.none l)
          | no n ↦ rw ((rear_part (omega arith)).whole, b.other (omega arith)) (and_comm (suspended front values) _)
        ]

    -- the part in front is suspended, and so is the node if nothing behind it could move
    pub waiting_front :
        {waits : Bool} → suspended front values ≡ true → RearWaits words k st values f.form waits →
        waits ≡ suspended (residual_of words k st) values
    waiting_front {waits} w b = sym (rear_decides b ∙ ap (λ x. waits && x) w ∙ and-true waits)
