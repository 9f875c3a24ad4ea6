-- A node whose part in front is nil, or suspended: the move around it.
use mathlib.Core.Path.{◌≡◌, sym, ap, ◌∙◌}
use mathlib.Core.Bool.{Bool, true, false, false≢true}
use mathlib.Core.List.{List}
use Prim.Native.Nat.{ℕ, ◌-◌, ◌≤◌}
use native.Mathlib.Decide.{dec_lt}
use native.Mathlib.Nat.{le_antisymm}
use native.Mathlib.Omega.{arith}
use lib.IntN.{ℤ}
use lib.ListN.{set}
use borrow.Author.Tests.{le-leb, lt-leb, le-ltb, ne_eqb}
use Rattle.language.specs.Syntax.{Proc, parallel, is_nil}
use Rattle.language.specs.Steps.{present, suspended}
use Rattle.program.specs.declared.forms.Front.{Front}
use Rattle.program.specs.Forms.{before, guarded, beside, part_in}
use Rattle.residual.specs.Residual.{own}
use Rattle.language.specs.Frames.{beside_the}
use Rattle.residual.specs.Nodes.{in_rear, residual_of}
use Rattle.residual.proofs.Sights.{signal_at, Inside, alone_within, beside_above, Sight, sees_nothing, sees_itself, sees_alone, sees_before, sees_watched, sees_guarded, sees_beside, part_set}
use Rattle.instants.specs.Promises.{RearWaits}
use Rattle.moves.specs.declared.counts.Counts.{Counts}
use Rattle.moves.specs.declared.counts.Reason.{Reason}
use Rattle.moves.specs.declared.counts.Moved.{Moved}
use Rattle.moves.specs.Moves.{Silent}
use Rattle.moves.proofs.Framing.{drop_before, drop_watched, drop_guarded, drop_beside, trade}
use Rattle.advance.specs.Promises.{Byte, byte_dropped, MovesAround, Settles, at_limit, makes_move}

module _ (words : List ℕ) (k : ℕ) (st : List ℕ) (f : Front) (vs : List ℤ) where
  -- what is left of the part in front, and of the node with another byte
  abbrev ahead : Proc ℕ
  ahead = residual_of words f.child (part_in f st)

  abbrev with_byte : ℕ → Proc ℕ
  with_byte byte = residual_of words k (set st 0 byte)

  -- the part behind
  rear :
      {w : Bool} (g : Front) → g ≡ in_rear words k st → beside ≤ f.form →
      RearWaits words k st vs f.form w → suspended (residual_of words g.child (part_in g st)) vs ≡ w
  rear g q h p = ap (λ (x : Front). suspended (residual_of words x.child (part_in x st)) vs) q ∙ sym (p.other h)

  traded :
      {g : Front} → Inside words k (set st 0 (1 - own st)) g (beside_the ahead) →
      with_byte (1 - own st) ≡ parallel (residual_of words g.child (part_in g st)) ahead
  traded {g} j =
      j.whole ∙ ap (λ z. parallel (residual_of words g.child z) ahead) (part_set g st (1 - own st) j.starts)

  -- the part in front is nil: it is dropped
  pub drops :
      Sight words k st f → before ≤ f.form → is_nil ahead ≡ true →
      (f.form ≡ guarded → present vs (signal_at words k) ≡ true) →
      Silent (residual_of words k st) vs (with_byte (byte_dropped f.form (own st))) vs
  drops (sees_nothing e r) h z p = absurd (omega (arith, e))
  drops (sees_itself e o m) h z p = absurd (omega (arith, e))
  drops (sees_alone e i) h z p = absurd (omega (arith, alone_within e))
  drops (sees_before e o q i r) h z p = rw (e, i.whole, r) (drop_before vs z q)
  drops (sees_watched e l i r) h z p = rw (e, i.whole, r) (drop_watched vs z (signal_at words k))
  drops (sees_guarded e l a i r) h z p = rw (e, i.whole, r) (drop_guarded vs z (signal_at words k) (p e))
  drops (sees_beside e o g q i j r) h z p =
      rw (ne_eqb f.form before (λ s. omega (arith, beside_above e, s)), le-ltb f.form beside (beside_above e), i.whole, r)
      (drop_beside vs z (residual_of words g.child (part_in g st)))

  -- the part in front waits, and the one behind does not: they trade places
  pub trades :
      Sight words k st f → before ≤ f.form → suspended ahead vs ≡ true → RearWaits words k st vs f.form false →
      Silent (residual_of words k st) vs (with_byte (1 - own st)) vs
  trades (sees_nothing e r) h z p = absurd (omega (arith, e))
  trades (sees_itself e o m) h z p = absurd (omega (arith, e))
  trades (sees_alone e i) h z p = absurd (omega (arith, alone_within e))
  trades (sees_before e o q i r) h z p = absurd (false≢true (p.none (omega (arith, e))))
  trades (sees_watched e l i r) h z p = absurd (false≢true (p.none (omega (arith, e))))
  trades (sees_guarded e l a i r) h z p = absurd (false≢true (p.none (omega (arith, e))))
  trades (sees_beside e o g q i j r) h z p =
      rw (i.whole, traded j) (trade ahead (residual_of words g.child (part_in g st)) vs z (rear g q (beside_above e) p))

  pub byte_bound : Sight words k st f → before ≤ f.form → Byte f.form (own st)
  byte_bound (sees_nothing e r) h a b = absurd (omega (arith, e))
  byte_bound (sees_itself e o m) h a b = absurd (omega (arith, e))
  byte_bound (sees_alone e i) h a b = absurd (omega (arith, alone_within e))
  byte_bound (sees_before e o q i r) h a b = o
  byte_bound (sees_watched e x i r) h a b = absurd (a e)
  byte_bound (sees_guarded e x l i r) h a b = absurd (b e)
  byte_bound (sees_beside e o g q i j r) h a b = o

  -- the node moves so, if there is a step left for it
  pub settles :
      {limit byte : ℕ} {at : Counts} {why : Reason} {st' : List ℕ} {m : Moved} →
      Silent (residual_of words k st) vs (with_byte byte) vs → at.steps ≤ limit → MovesAround st limit at byte st' m →
      Settles limit (residual_of words k st) vs (residual_of words k st') why at m
  settles {limit} {at = at} s t a =
      elim (dec_lt at.steps limit) [
        | yes l ↦
            let more = lt-leb limit at.steps l in
            rw (rw more at a.bytes) (makes_move (rw more at a.moved) l s)
        | no n ↦
            let spent = le-leb limit at.steps (omega arith) in
            at_limit (rw spent at a.moved) (ap (residual_of words k) (rw spent at a.bytes)) s.0
            (le_antisymm t (omega arith))
      ]
