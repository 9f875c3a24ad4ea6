-- A node's turn: its part in front is run, and it is left.
use mathlib.Core.Path.{◌≡◌}
use mathlib.Core.Bool.{Bool, true}
use mathlib.Core.List.{List}
use Prim.Native.Nat.{ℕ, ◌-◌, ◌<◌}
use native.Mathlib.Omega.{arith}
use borrow.Rule.Slice.PartMut.{put_mid}
use lib.IntN.{ℤ}
use lib.ListN.{length}
use Rattle.language.specs.Steps.{present}
use Rattle.language.specs.Syntax.{Proc}
use Rattle.program.specs.declared.forms.Front.{Front}
use Rattle.program.specs.Forms.{itself, guarded, part_in}
use Rattle.residual.specs.Residual.{own}
use Rattle.language.specs.Frames.{Frame, alone, before_the, watched_by, guarded_by, beside_the, Open}
use Rattle.residual.specs.Nodes.{residual_of, in_front}
use Rattle.residual.proofs.Sights.{signal_at, Inside, alone_within, beside_above, Sight, sees_nothing, sees_itself, sees_alone, sees_before, sees_watched, sees_guarded, sees_beside, own_put, length_put, part_put}
use Rattle.moves.specs.declared.counts.Counts.{Counts}
use Rattle.moves.specs.declared.counts.Reason.{Reason}
use Rattle.moves.specs.declared.counts.Reason.TheVariants.{Nil, Suspended, Spent, Full}
use Rattle.moves.specs.declared.counts.Moved.{Moved}
use Rattle.moves.specs.Moves.{Running, MovePath, IsSpent, IsFull, Ends, Comes}
use Rattle.moves.specs.Promises.{running_with, node_at}
use Rattle.moves.proofs.Framing.{open_path, lift, spent_around, full_around}
use Rattle.moves.proofs.Advancing.{goes_silently, comes_on}
use Rattle.advance.specs.Promises.{EndsWith, Settles, rests_on, at_limit, makes_move}

-- the bytes with those of the part put back
abbrev pub reached : Front → List ℕ → List ℕ → List ℕ
reached f st ys = put_mid f.from (f.to - f.from) st ys

module _ (words : List ℕ) (k : ℕ) (st : List ℕ) (f : Front) (vs : List ℤ) where
  -- the part in front goes on in an open frame
  pub record Going : Type 0 where
    pub frame : Frame ℕ
    pub inside : Inside words k st f frame
    pub opened : Open frame (residual_of words f.child (part_in f st)) vs
    pub shown :
        (ys : List ℕ) (ws : List ℤ) → Open frame (residual_of words f.child ys) ws → f.form ≡ guarded →
        present ws (signal_at words k) ≡ true

  pub going :
      Sight words k st f → itself < f.form → (f.form ≡ guarded → present vs (signal_at words k) ≡ true) → Going
  going (sees_nothing e r) h p = absurd (omega (arith, e))
  going (sees_itself e o m) h p = absurd (omega (arith, e))
  going (sees_alone e i) h p =
      record { frame = alone; inside = i; opened = tt; shown = λ ys ws o q. absurd (omega (arith, alone_within e, q)) }
  going (sees_before e o q i r) h p =
      record { frame = before_the q; inside = i; opened = tt; shown = λ ys ws o q. absurd (omega (arith, e, q)) }
  going (sees_watched e x i r) h p =
      record {
        frame = watched_by (signal_at words k);
        inside = i;
        opened = tt;
        shown = λ ys ws o q. absurd (omega (arith, e, q));
      }
  going (sees_guarded e x a i r) h p =
      record {
        frame = guarded_by (signal_at words k);
        inside = i;
        opened = (p e, a (part_in f st));
        shown = λ ys ws o q. o.0;
      }
  going (sees_beside e o g q i j r) h p =
      record {
        frame = beside_the (residual_of words g.child (part_in g st));
        inside = i;
        opened = tt;
        shown = λ ys ws o q. absurd (omega (arith, beside_above e, q));
      }

-- the part's moves are the node's
module _ {words : List ℕ} {k : ℕ} {st : List ℕ} {f : Front} {vs : List ℤ} (g : Going words k st f vs)
    (ys : List ℕ) (l : length ys ≡ f.to - f.from) where
  pub put_back : part_in f (reached f st ys) ≡ ys
  put_back = part_put f st ys g.inside.order g.inside.within l

  own_kept : own (reached f st ys) ≡ own st
  own_kept =
      own_put f.from (f.to - f.from) st ys g.inside.starts
      (omega (arith, g.inside.order, g.inside.within))

  pub length_kept : length (reached f st ys) ≡ length st
  length_kept = length_put f.from (f.to - f.from) st ys (omega (arith, g.inside.order, g.inside.within)) l

  pub front_kept : f ≡ in_front words k st → f ≡ in_front words k (reached f st ys)
  front_kept e = rw (own_kept, length_kept) e

  module _ {seen : ℕ → Bool} {limit room : ℕ} {log log' : List ℕ} {c d : Counts} {ws : List ℤ}
      (p :
      MovePath seen limit room (node_at words f.child (part_in f st) vs log c) (node_at words f.child ys ws log' d)) where
    pub path_in : MovePath seen limit room (node_at words k st vs log c) (node_at words k (reached f st ys) ws log' d)
    path_in = rw (g.inside.whole, g.inside.after ys l) (lift g.frame g.opened p)

    pub stays_open : Open g.frame (residual_of words f.child ys) ws
    stays_open = open_path g.frame g.opened p

    pub spent_in :
        IsSpent seen limit room (node_at words f.child ys ws log' d) →
        IsSpent seen limit room (node_at words k (reached f st ys) ws log' d)
    spent_in e = rw (g.inside.after ys l) (spent_around g.frame stays_open e)

    pub full_in :
        IsFull seen limit room (node_at words f.child ys ws log' d) →
        IsFull seen limit room (node_at words k (reached f st ys) ws log' d)
    full_in e = rw (g.inside.after ys l) (full_around g.frame stays_open e)

-- a process whose part in front makes no further move settles
module _ {seen : ℕ → Bool} {limit room : ℕ} {at : Running ℕ} {p : Proc ℕ} {s : List ℤ} {log : List ℕ} {c : Counts}
    (path : MovePath seen limit room at (running_with p s log c)) where
  -- the limit or the log stops it, if that is what stopped its part
  abbrev pub StopsAs : Reason → Type 0
  StopsAs Nil = Unit {0}
  StopsAs Suspended = Unit {0}
  StopsAs Spent = IsSpent seen limit room (running_with p s log c)
  StopsAs Full = IsFull seen limit room (running_with p s log c)

  -- for the reason of its part
  ends_so :
      (why : Reason) → EndsWith p s why → StopsAs why → Ends seen limit room (running_with p s log c) why
  ends_so Nil w e = absurd w
  ends_so Suspended w e = w
  ends_so Spent w e = e
  ends_so Full w e = e

  pub settled :
      {p' : Proc ℕ} {m : Moved} (why : Reason) → StopsAs why → Settles limit p s p' why c m →
      Comes seen limit room at (running_with p' s log) m
  settled why e (rests_on q w n) = rw (q, w) (record { path = path; ends = ends_so why n e })
  settled why z (at_limit e q live t) = rw (e, q) (record { path = path; ends = record { live = live; time = t } })
  settled {p'} {m} why z (makes_move e t silent) =
      comes_on (running_with p' s log) m path (rw e (goes_silently (running_with p s log c) t silent))
