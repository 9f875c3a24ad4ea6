-- A part in front moves as it would alone, and the frame around it stays as it is, and open.
use mathlib.Core.Path.{◌≡◌, refl, sym, ◌∙◌, subst}
use mathlib.Core.Bool.{Bool, true, false, not, ◌&&◌, true≢false, false≢true}
use mathlib.Core.List.{List}
use Prim.Native.Nat.{ℕ, suc, ◌<◌}
use native.Mathlib.Decide.{dec_lt, ℕ_discrete}
use native.Mathlib.Omega.{arith}
use lib.Dec.{eqb}
use lib.IntN.{ℤ, pos}
use lib.ListN.{set, length}
use lib.Seq.{get_or-set_same, get_or-set_other, set_out}
use borrow.Author.Tests.{eqb-false, not-true}
use Rattle.prelude.proofs.Bools.{fails, and_intro, and_left, and_right, by_cases}
use Rattle.language.specs.Syntax.{Proc, nil, assign, let_in, if_then_else, while, sequence, emit, local, watching, when, parallel, is_nil}
use Rattle.language.specs.Steps.{present, test, value, StepResult, inside, suspended, move}
use Rattle.language.specs.Calls.{called_at}
use Rattle.language.specs.Shapes.{leaves_alone}
use Rattle.language.specs.Frames.{Frame, alone, before_the, watched_by, guarded_by, beside_the, around, Open}
use Rattle.moves.specs.Moves.{Running, with_process, next_line, has_room, moved, Live, Silent, MovePath, stays, moves, IsSpent, IsFull}

parts : (b c : Bool) → (b && c) ≡ true → (b ≡ true) × (c ≡ true)
parts b c h = (and_left b c h, and_right b c h)

-- a store to another name takes no signal away, and neither does an emission
present_other :
    (s : List ℤ) (x a : ℕ) (v : ℤ) → not (eqb x a) ≡ true → present s a ≡ true → present (set s x v) a ≡ true
present_other s x a v n h =
    rw (get_or-set_other s x a v (pos 0) (λ e. eqb-false x a (not-true (eqb x a) n) (sym e))) h

present_emitted : (s : List ℤ) (x a : ℕ) → present s a ≡ true → present (set s x (pos 1)) a ≡ true
present_emitted s x a h =
    elim (ℕ_discrete x a) [
      | yes e ↦
          elim (dec_lt x (length s)) [
            | yes i ↦ rw (← e, get_or-set_same s x (pos 1) (pos 0) i)
            | no o ↦ rw (set_out s x (pos 1) (omega arith)) h
          ]
      | no n ↦ rw (get_or-set_other s x a (pos 1) (pos 0) (λ e. n (sym e))) h
    ]

module _ {L : Type 0} where
  pub nil_runs : (p : Proc L) (s : List ℤ) → is_nil p ≡ true → suspended p s ≡ false
  unfolding is_nil suspended
  nil_runs nil s h = refl
  nil_runs (assign x e) s h = refl
  nil_runs (let_in x δ e p) s h = refl
  nil_runs (if_then_else e p q) s h = refl
  nil_runs (while e p) s h = refl
  nil_runs (sequence p q) s h = absurd (false≢true h)
  nil_runs (emit a) s h = refl
  nil_runs (local a δ p) s h = refl
  nil_runs (watching a p) s h = absurd (false≢true h)
  nil_runs (when a p) s h = absurd (false≢true h)
  nil_runs (parallel p q) s h = absurd (false≢true h)

  pub waits_some : (p : Proc L) (s : List ℤ) → suspended p s ≡ true → is_nil p ≡ false
  waits_some p s h = fails (is_nil p) (λ e. true≢false (sym h ∙ nil_runs p s e))

  -- signal a stays present
  abbrev Spares : ℕ → Proc L → Type 0
  Spares a p = leaves_alone a p ≡ true

  abbrev Kept : ℕ → StepResult L → Type 0
  Kept a r = (present r.values a ≡ true) × Spares a r.process

  move_keeps : (a : ℕ) (p : Proc L) (s : List ℤ) → present s a ≡ true → Spares a p → Kept a (move p s)
  unfolding leaves_alone move
  move_keeps a nil s o h = (o, h)
  move_keeps a (assign x e) s o h = (present_other s x a (value e s) h o, refl)
  move_keeps a (let_in x δ e p) s o h =
      let k = parts (not (eqb x a)) (leaves_alone a p) h in (present_other s x a (value e s) k.0 o, k.1)
  move_keeps a (if_then_else e p q) s o h =
      let k = parts (leaves_alone a p) (leaves_alone a q) h in
      (o, by_cases (Spares a) (test e s) (λ u. k.0) (λ u. k.1))
  move_keeps a (while e p) s o h = (o, by_cases (Spares a) (test e s) (λ u. and_intro _ _ h h) (λ u. refl))
  move_keeps a (sequence p q) s o h =
      let k = parts (leaves_alone a p) (leaves_alone a q) h in
      let m = move_keeps a p s o k.0 in
      by_cases (Kept a) (is_nil p) (λ u. (o, k.1)) (λ u. (m.0, and_intro _ _ m.1 k.1))
  move_keeps a (emit b) s o h = (present_emitted s b a o, refl)
  move_keeps a (local x δ p) s o h =
      let k = parts (not (eqb x a)) (leaves_alone a p) h in (present_other s x a (pos 0) k.0 o, k.1)
  move_keeps a (watching b p) s o h = by_cases (Kept a) (is_nil p) (λ u. (o, refl)) (λ u. move_keeps a p s o h)
  move_keeps a (when b p) s o h = by_cases (Kept a) (is_nil p) (λ u. (o, refl)) (λ u. move_keeps a p s o h)
  move_keeps a (parallel p q) s o h =
      let k = parts (leaves_alone a p) (leaves_alone a q) h in
      let m = move_keeps a p s o k.0 in
      by_cases
      (Kept a)
      (is_nil p)
      (λ u. (o, k.1))
      (λ u.
      by_cases
      (Kept a)
      (suspended p s)
      (λ w. (o, and_intro _ _ k.1 k.0))
      (λ w. (m.0, and_intro _ _ m.1 k.1)))

  pub open_moves :
      (F : Frame L) (p : Proc L) (s : List ℤ) → Open F p s → Open F (move p s).process (move p s).values
  open_moves alone p s o = tt
  open_moves (before_the q) p s o = tt
  open_moves (watched_by a) p s o = tt
  open_moves (guarded_by a) p s o = move_keeps a p s o.0 o.1
  open_moves (beside_the q) p s o = tt

  pub live_around : (F : Frame L) {p : Proc L} {s : List ℤ} → Live p s → Open F p s → Live (around F p) s
  unfolding is_nil suspended
  live_around alone l o = l
  live_around (before_the q) l o = record { some = refl; moving = l.moving }
  live_around (watched_by a) l o = record { some = refl; moving = l.moving }
  live_around (guarded_by a) l o = record { some = refl; moving = rw o.0 l.moving }
  live_around (beside_the q) l o = record { some = refl; moving = rw l.moving }

  pub move_around_lem :
      (F : Frame L) {p : Proc L} {s : List ℤ} → Live p s → move (around F p) s ≡ inside (around F) (move p s)
  unfolding move
  move_around_lem alone l = refl
  move_around_lem (before_the q) l = rw l.some
  move_around_lem (watched_by a) l = rw l.some
  move_around_lem (guarded_by a) l = rw l.some
  move_around_lem (beside_the q) l = rw (l.some, l.moving)

  module _ {p : Proc L} (s : List ℤ) (h : is_nil p ≡ true) where
    pub drop_before : (q : Proc L) → Silent (sequence p q) s q s
    unfolding is_nil suspended move
    drop_before q = (record { some = refl; moving = nil_runs p s h }, rw h)

    pub drop_watched : (a : ℕ) → Silent (watching a p) s nil s
    unfolding is_nil suspended move
    drop_watched a = (record { some = refl; moving = nil_runs p s h }, rw h)

    pub drop_guarded : (a : ℕ) → present s a ≡ true → Silent (when a p) s nil s
    unfolding is_nil suspended move
    drop_guarded a o = (record { some = refl; moving = rw o (nil_runs p s h) }, rw h)

    pub drop_beside : (q : Proc L) → Silent (parallel p q) s q s
    unfolding is_nil suspended move
    drop_beside q = (record { some = refl; moving = rw (nil_runs p s h) }, rw h)

  pub trade :
      (p q : Proc L) (s : List ℤ) → suspended p s ≡ true → suspended q s ≡ false →
      Silent (parallel p q) s (parallel q p) s
  unfolding is_nil suspended move
  trade p q s h k = (record { some = refl; moving = rw (h, k) }, rw (waits_some p s h, h))

-- where `at` runs the part in front: the same with the process around it
abbrev pub framed : {L : Type 0} → Frame L → Running L → Running L
framed F at = with_process (around F at.process) at

module _ {L : Type 0} (seen : ℕ → Bool) (F : Frame L) (at : Running L) (l : Live at.process at.values) where
  line_around : next_line seen (framed F at) ≡ next_line seen at
  unfolding called_at
  line_around = rw (move_around_lem F l)

  moved_around : moved seen (framed F at) ≡ framed F (moved seen at)
  unfolding moved called_at
  moved_around = rw (move_around_lem F l)

module _ {L : Type 0} {seen : ℕ → Bool} {limit room : ℕ} where
  pub joined :
      {at mid to : Running L} →
      MovePath seen limit room at mid → MovePath seen limit room mid to → MovePath seen limit room at to
  joined stays q = q
  joined (moves r p) q = moves r (joined p q)

  pub open_path :
      (F : Frame L) {at to : Running L} → Open F at.process at.values → MovePath seen limit room at to →
      Open F to.process to.values
  unfolding moved
  open_path F o stays = o
  open_path F {at} o (moves r p) = open_path F (open_moves F at.process at.values o) p

  pub lift :
      (F : Frame L) {at to : Running L} → Open F at.process at.values → MovePath seen limit room at to →
      MovePath seen limit room (framed F at) (framed F to)
  unfolding moved
  lift F o stays = stays
  lift F {at} {to} o (moves r p) =
      moves
      {at = framed F at}
      (record {
        live = live_around F r.live o;
        time = r.time;
        space = rw (line_around seen F at r.live) r.space;
      })
      (subst
      (λ z. MovePath seen limit room z (framed F to))
      (sym (moved_around seen F at r.live))
      (lift F (open_moves F at.process at.values o) p))

  module _ (F : Frame L) {at : Running L} (o : Open F at.process at.values) where
    pub spent_around : IsSpent seen limit room at → IsSpent seen limit room (framed F at)
    spent_around e = record { live = live_around F e.live o; time = e.time }

    pub full_around : IsFull seen limit room at → IsFull seen limit room (framed F at)
    full_around e =
        record {
          live = live_around F e.live o;
          time = e.time;
          space = rw (line_around seen F at e.live) e.space;
        }

-- after a silent move that leaves p and s
abbrev pub silently : {L : Type 0} → Proc L → List ℤ → Running L → Running L
silently p s at =
    record {
      process = p;
      values = s;
      log = at.log;
      steps = suc at.steps;
      instants = at.instants;
      lines = at.lines;
    }

-- the process may be known in another form
pub silent_space :
    {L : Type 0} (seen : ℕ → Bool) (room : ℕ) (at : Running L) {p p' : Proc L} {s' : List ℤ} →
    at.process ≡ p → Silent p at.values p' s' → has_room room (next_line seen at) at.lines ≡ true
unfolding called_at
silent_space seen room at e m = rw (e, m.1)

pub silent_move :
    {L : Type 0} {seen : ℕ → Bool} {limit room : ℕ} {at : Running L} {p p' : Proc L} {s' : List ℤ} →
    at.process ≡ p → Silent p at.values p' s' → at.steps < limit →
    MovePath seen limit room at (silently p' s' at)
unfolding moved called_at
silent_move {seen = seen} {limit = limit} {room = room} {at = at} {p' = p'} {s' = s'} e m t =
    let same : silently p' s' at ≡ moved seen at = rw (e, m.1) in
    moves
    {at = at}
    (record { live = rw e m.0; time = t; space = silent_space seen room at e m })
    (subst (λ z. MovePath seen limit room z (silently p' s' at)) same stays)
