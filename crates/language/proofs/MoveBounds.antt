-- How many moves a process without while makes. Every move but a trade takes a node away for good. Between two of these a
-- parallel trades at most once: a trade puts a part in front that can move, and a pending trade is always followed by
-- such a move. So a potential falls with each move and does not rise when the instant changes.
use Prim.Native.Nat.{ℕ, suc, ◌+◌, ◌-◌, ◌*◌, ◌≤◌, ◌<◌}
use native.Mathlib.Nat.{mul-le-mul_right, suc-mul, one-mul}
use native.Mathlib.Omega.{arith}
use mathlib.Core.Path.{◌≡◌, refl, sym, ap, subst, ◌∙◌}
use mathlib.Core.Bool.{Bool, true, false, cond}
use Rattle.prelude.proofs.Bools.{by_cases}
use Rattle.language.specs.Syntax.{Proc, nil, assign, let_in, if_then_else, while, sequence, emit, local, watching, when, parallel}
use Rattle.language.specs.Kinds as kinds
use Rattle.language.specs.NodeCounts.{counted}
use Rattle.language.specs.MoveBounds.{is_not_nil, is_parallel, is_while}
use Rattle.language.specs.Frames.{Frame, alone, before_the, watched_by, guarded_by, beside_the, around}
use Rattle.language.specs.Suspension.{Suspended}
use Rattle.language.specs.Instants.{Changed, WATCH-PRESENT, WATCH-ABSENT, WHEN-PRESENT, WHEN-ABSENT, SEQ-CHANGED, PAR-CHANGED}
use Rattle.language.proofs.Suspensions.{waits, waits_of, waits_not}

one_added : (b : Bool) (n m : ℕ) → cond b (suc (n + m)) (n + m) ≡ n + cond b (suc m) m
one_added true n m = omega arith
one_added false n m = refl

one_alone : (b : Bool) (n : ℕ) → cond b (suc n) n ≡ n + cond b 1 0
one_alone true n = omega arith
one_alone false n = omega arith

one_below : (b : Bool) {n m : ℕ} → n ≤ m → cond b (suc n) n ≤ cond b (suc m) m
one_below true h = omega (arith, h)
one_below false h = h

module _ {L : Type 0} where
  -- nodes other than nil, parallels, whiles
  abbrev others : Proc L → ℕ
  others p = counted p is_not_nil

  abbrev pub parallels : Proc L → ℕ
  parallels p = counted p is_parallel

  abbrev pub whiles : Proc L → ℕ
  whiles p = counted p is_while

  -- how many trades come before the next other move
  unfoldable pub pending : (ℕ → Bool) → Proc L → ℕ
  pending E nil = 0
  pending E (assign x e) = 0
  pending E (let_in x δ e p) = 0
  pending E (if_then_else e p q) = 0
  pending E (while e p) = 0
  pending E (sequence p q) = pending E p
  pending E (emit a) = 0
  pending E (local a δ p) = 0
  pending E (watching a p) = pending E p
  pending E (when a p) = pending E p
  pending E (parallel p q) = cond (waits E p) (suc (pending E q)) (pending E p)

  -- each parallel trades at most once
  pending_few : (E : ℕ → Bool) (p : Proc L) → pending E p ≤ parallels p
  unfolding pending counted
  pending_few E nil = omega arith
  pending_few E (assign x e) = omega arith
  pending_few E (let_in x δ e p) = omega arith
  pending_few E (if_then_else e p q) = omega arith
  pending_few E (while e p) = omega arith
  pending_few E (sequence p q) = omega (arith, pending_few E p)
  pending_few E (emit a) = omega arith
  pending_few E (local a δ p) = omega arith
  pending_few E (watching a p) = pending_few E p
  pending_few E (when a p) = pending_few E p
  pending_few E (parallel p q) =
      by_cases (λ n. n ≤ suc (parallels p + parallels q)) (waits E p)
      (λ t. omega (arith, pending_few E q))
      (λ t. omega (arith, pending_few E p))

  -- what a move does to the nodes: it takes one away for good, or it trades
  pub data Work (E E' : ℕ → Bool) (p p' : Proc L) : Type 0 where
    worked : others p' < others p → Work E E' p p'
    traded :
        E' ≡ E → 0 < others p → others p' ≡ others p → waits E p ≡ false → waits E p' ≡ false →
        pending E p ≡ suc (pending E p') → Work E E' p p'

  pub record Progress (E E' : ℕ → Bool) (p p' : Proc L) : Type 0 where
    pub parallels : parallels p' ≤ parallels p
    pub whiles : whiles p' ≤ whiles p
    pub work : Work E E' p p'

  -- a frame around the part that moves: it adds the same nodes before and after
  added : (f : ℕ → Bool) (frame : Frame L) → (n : ℕ) × ((p : Proc L) → counted (around frame p) f ≡ counted p f + n)
  unfolding counted
  added f alone = (0, λ p. omega arith)
  added f (before_the q) = (cond (f kinds.sequence) (suc (counted q f)) (counted q f), λ p. one_added (f kinds.sequence) _ _)
  added f (watched_by a) = (cond (f kinds.watching) 1 0, λ p. one_alone (f kinds.watching) _)
  added f (guarded_by a) = (cond (f kinds.when) 1 0, λ p. one_alone (f kinds.when) _)
  added f (beside_the q) = (cond (f kinds.parallel) (suc (counted q f)) (counted q f), λ p. one_added (f kinds.parallel) _ _)

  -- a when is open
  abbrev Passes : (ℕ → Bool) → Frame L → Type 0
  Passes E alone = Unit {0}
  Passes E (before_the q) = Unit {0}
  Passes E (watched_by a) = Unit {0}
  Passes E (guarded_by a) = E a ≡ true
  Passes E (beside_the q) = Unit {0}

  waits_around : (E : ℕ → Bool) (frame : Frame L) → Passes E frame → (p : Proc L) → waits E p ≡ false → waits E (around frame p) ≡ false
  unfolding waits
  waits_around E alone o p h = h
  waits_around E (before_the q) o p h = h
  waits_around E (watched_by a) o p h = h
  waits_around E (guarded_by a) o p h = rw (o, h)
  waits_around E (beside_the q) o p h = rw h

  pending_around : (E : ℕ → Bool) (frame : Frame L) (p : Proc L) → waits E p ≡ false → pending E (around frame p) ≡ pending E p
  unfolding pending
  pending_around E alone p h = refl
  pending_around E (before_the q) p h = refl
  pending_around E (watched_by a) p h = refl
  pending_around E (guarded_by a) p h = refl
  pending_around E (beside_the q) p h = rw h

  module _ {E E' : ℕ → Bool} {p p' : Proc L} (frame : Frame L) (o : Passes E frame) where
    around_work : Work E E' p p' → Work E E' (around frame p) (around frame p')
    around_work (worked h) = let n = added is_not_nil frame in worked (omega (arith, h, n.1 p, n.1 p'))
    around_work (traded same some h w w' t) =
        let n = added is_not_nil frame in
        traded same (omega (arith, some, n.1 p)) (omega (arith, h, n.1 p, n.1 p'))
        (waits_around E frame o p w) (waits_around E frame o p' w')
        (pending_around E frame p w ∙ t ∙ ap suc (sym (pending_around E frame p' w')))

    -- what a part does, the process does
    pub around_progress : Progress E E' p p' → Progress E E' (around frame p) (around frame p')
    around_progress h =
        let n = added is_parallel frame in
        let m = added is_while frame in
        record {
          parallels = omega (arith, h.parallels, n.1 p, n.1 p');
          whiles = omega (arith, h.whiles, m.1 p, m.1 p');
          work = around_work h.work;
        }

  pub no_while_inside : (frame : Frame L) (p : Proc L) → whiles (around frame p) ≡ 0 → whiles p ≡ 0
  no_while_inside frame p h = omega (arith, h, (added is_while frame).1 p)

  -- a parallel trades
  pub trade : {E : ℕ → Bool} (p q : Proc L) → Suspended E p → (Suspended E q → ⊥) → Progress E E (parallel p q) (parallel q p)
  unfolding counted pending waits
  trade {E} p q d n =
      let w = waits_of d in
      let v = waits_not E q n in
      record {
        parallels = omega arith;
        whiles = omega arith;
        work = traded refl (omega arith) (omega arith) (rw (w, v)) (rw v) (rw (w, v));
      }

  -- a node is taken away, and no other is new
  pub work_done :
      {E E' : ℕ → Bool} {p p' : Proc L} → others p' < others p → parallels p' ≤ parallels p → whiles p' ≤ whiles p →
      Progress E E' p p'
  work_done h n m = record { parallels = n; whiles = m; work = worked h }

  -- an instant change makes no node
  changed_counted :
      (f : ℕ → Bool) → f kinds.nil ≡ false → {E : ℕ → Bool} {p p' : Proc L} → Changed E p p' → counted p' f ≤ counted p f
  unfolding counted
  changed_counted f z (WATCH-PRESENT h) = rw z (omega arith)
  changed_counted f z (WATCH-ABSENT h d) = one_below (f kinds.watching) (changed_counted f z d)
  changed_counted f z (WHEN-PRESENT h d) = one_below (f kinds.when) (changed_counted f z d)
  changed_counted f z (WHEN-ABSENT h) = omega arith
  changed_counted f z (SEQ-CHANGED d) = one_below (f kinds.sequence) (omega (arith, changed_counted f z d))
  changed_counted f z (PAR-CHANGED d d') =
      one_below (f kinds.parallel) (omega (arith, changed_counted f z d, changed_counted f z d'))

  -- what is asked of a process that is held to a bound by so many parallels
  pub record Held (n : ℕ) (p : Proc L) : Type 0 where
    pub parallels : parallels p ≤ n
    pub whiles : whiles p ≡ 0

  module _ (n : ℕ) where
    -- trades that could have come before the next other move, and do not
    credit : (ℕ → Bool) → Proc L → ℕ
    credit E p = cond (waits E p) 0 (n - pending E p)

    -- how many moves are left
    pub potential : (ℕ → Bool) → Proc L → ℕ
    potential E p = others p * suc n - credit E p

    credit_few : (E : ℕ → Bool) (p : Proc L) → credit E p ≤ n
    unfolding credit
    credit_few E p = by_cases (λ c. c ≤ n) (waits E p) (λ t. omega arith) (λ t. omega arith)

    credit_is : (E : ℕ → Bool) (p : Proc L) → waits E p ≡ false → credit E p ≡ n - pending E p
    unfolding credit
    credit_is E p w = rw w

    pub potential_most : (E : ℕ → Bool) (p : Proc L) → potential E p ≤ others p * suc n
    unfolding potential
    potential_most E p = omega arith

    module _ {E E' : ℕ → Bool} {p p' : Proc L} where
      pub held_on : Progress E E' p p' → Held n p → Held n p'
      held_on d h = record { parallels = omega (arith, d.parallels, h.parallels); whiles = omega (arith, d.whiles, h.whiles) }

      -- a move makes it less
      pub moved_less : Progress E E' p p' → Held n p → potential E' p' < potential E p
      unfolding potential
      moved_less d h = less d.work h
        where
          less : Work E E' p p' → Held n p → potential E' p' < potential E p
          less (worked l) h =
              omega (arith, mul-le-mul_right (suc n) l, suc-mul (others p') (suc n), credit_few E p)
          less (traded same some k w w' t) h =
              subst (λ F. potential F p' < potential E p) (sym same)
              (omega (
                arith,
                mul-le-mul_right (suc n) some,
                one-mul (suc n),
                ap (λ m. m * suc n) k,
                credit_is E p w,
                credit_is E p' w',
                t,
                pending_few E p,
                h.parallels,
              ))

    module _ {E : ℕ → Bool} {p p' : Proc L} (d : Changed E p p') where
      pub held_changed : Held n p → Held n p'
      held_changed h =
          record {
            parallels = omega (arith, changed_counted is_parallel refl d, h.parallels);
            whiles = omega (arith, changed_counted is_while refl d, h.whiles);
          }

      -- an instant change does not make it more, whatever signals the instant begins with
      pub changed_no_more : Suspended E p → (E' : ℕ → Bool) → potential E' p' ≤ potential E p
      unfolding potential credit
      changed_no_more w E' =
          rw (waits_of w) (omega (arith, mul-le-mul_right (suc n) (changed_counted is_not_nil refl d)))
