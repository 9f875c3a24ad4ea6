-- What follows at a node, and what comes of it: the node itself has moved, or its part in front has been run.
use mathlib.Core.Path.{◌≡◌, sym, ap, ◌∙◌, subst}
use mathlib.Core.Bool.{Bool, true, cond}
use mathlib.Core.List.{List}
use Prim.Native.Nat.{ℕ, ◌+◌, ◌-◌, ◌*◌, ◌/◌, ◌≤◌, ◌<◌}
use native.Mathlib.Decide.{dec_lt}
use native.Mathlib.Nat.{le_refl, sub-zero}
use native.Mathlib.Omega.{arith}
use lib.IntN.{ℤ}
use lib.ListN.{length}
use Rattle.prelude.proofs.Bools.{by_cases}
use Rattle.program.specs.Program.{seen_by}
use Rattle.program.specs.declared.forms.Front.{Front}
use Rattle.program.specs.Forms.{itself, before, part_in}
use Rattle.residual.specs.Nodes.{At, NodeIn, residual_of, in_front}
use Rattle.language.specs.Frames.{alone}
use Rattle.residual.proofs.Sights.{Inside}
use Rattle.instants.proofs.Deciding.{Found, Part, sees, front_part}
use Rattle.moves.specs.declared.counts.Counts.{Counts}
use Rattle.moves.specs.declared.counts.Reason.{Reason}
use Rattle.moves.specs.declared.counts.Reason.TheVariants.{Nil, Suspended, Spent, Full}
use Rattle.moves.specs.declared.counts.Moved.{Moved}
use Rattle.moves.specs.declared.counts.Moved.TheVariants.{Again, Rests}
use Rattle.moves.specs.Moves.{Running, Ends, Comes}
use Rattle.moves.specs.Promises.{Counted, node_at}
use Rattle.moves.proofs.Advancing.{path_time}
use Rattle.advance.specs.Promises.{itself_of, Stands, Ahead, Leads, own_move, part_ahead, PartEnds, PartCame, LeftBy, Leaves}
use Rattle.advance.proofs.Entries.{writer_itself}
use Rattle.advance.proofs.Places.{mid_whole, put_whole, stays_alone}
use Rattle.advance.proofs.Turning.{Going, going, reached, put_back, length_kept, front_kept, path_in, stays_open, spent_in, full_in, StopsAs, settled}

-- a process that makes no move ends so
pub stands_ends :
    (seen : ℕ → Bool) (limit room : ℕ) (at : Running ℕ) (why : Reason) → Stands at.process at.values why →
    Ends seen limit room at why
stands_ends seen limit room at Nil e = e
stands_ends seen limit room at Suspended e = e
stands_ends seen limit room at Spent e = absurd e
stands_ends seen limit room at Full e = absurd e

-- what is seen of a part by why it ends
part_ends :
    (seen : ℕ → Bool) (limit room : ℕ) (at : Running ℕ) (why : Reason) → Ends seen limit room at why →
    PartEnds at.process at.values why
part_ends seen limit room at Nil e = e
part_ends seen limit room at Suspended e = e
part_ends seen limit room at Spent e = tt
part_ends seen limit room at Full e = tt

module _ (words : List ℕ) (k : ℕ) (st : List ℕ) (vs : List ℤ) (f : Front) (moving : Bool) where
  -- the two ways to go on
  pub data Way : Type 0 where
    by_itself : f ≡ itself_of k (length st) → moving ≡ true → (in_front words k st).form ≡ itself → Way
    by_part : Going words k st f vs → Found words vs k st f → Part words k st f → Ahead words k st vs f moving → Way

  pub way : Leads words k st vs f moving → NodeIn words k st vs → Way
  way (own_move e m q) n = by_itself e m q
  way (part_ahead a) n =
      let found : Found words vs k st f = record { valued = n.valued; at = n.node; front = a.front } in
      by_part (going words k st f vs (sees found) a.part a.shown) found (front_part found a.part) a

  module _ (at : At words k st) where
    pub within : Way → (f.from ≤ f.to) × (f.to ≤ length st)
    within (by_itself e m q) = rw e (omega arith, le_refl (length st))
    within (by_part g n p a) = (p.order, p.within)

    pub at_part : Way → At words f.child (part_in f st)
    at_part (by_itself e m q) = rw (e, mid_whole st) at
    at_part (by_part g n p a) = p.at

    pub moves_next : Way → moving ≡ true → (in_front words f.child (part_in f st)).form ≡ itself
    moves_next (by_itself e m q) t = rw (e, mid_whole st) q
    moves_next (by_part g n p a) t =
        writer_itself words f.child (length (part_in f st)) (part_in f st) (a.writer t) (a.written t)

    pub falls_by : Way → cond moving 0 (3 * f.child + 3) < 3 * k + 1
    falls_by (by_itself e m q) = rw m (omega arith)
    falls_by (by_part g n p a) =
        by_cases (λ n. n < 3 * k + 1) moving (λ _. omega arith) (λ _. omega (arith, p.earlier))

  -- the node or its part in front has been run
  module _ (w : Way) (ys : List ℕ) (l : length ys ≡ f.to - f.from) where
    -- how many bytes there are
    pub bytes_long : length (reached f st ys) ≡ length st
    bytes_long = long w
      where
        long : Way → length (reached f st ys) ≡ length st
        long (by_itself e m q) =
            let same : reached f st ys ≡ ys = rw e (put_whole st ys) in
            let whole : f.to - f.from ≡ length st = rw e (sub-zero (length st)) in
            ap length same ∙ l ∙ whole
        long (by_part g n p a) = length_kept g ys l

    module _ {limit : ℕ} {log : List ℕ} {c : Counts} (counted : Counted limit log c) (ws : List ℤ) (log' : List ℕ) where
      abbrev Came : Moved → Type 0
      Came m =
          Comes (seen_by words) limit (length log / 4) (node_at words f.child (part_in f st) vs log c)
          (node_at words f.child ys ws log') m

      -- what the node may be left by
      pub part_came : (m : Moved) → Came m → before ≤ f.form → PartCame words k (reached f st ys) ws limit f.form m
      part_came m r h = came w m r
        where
          came : Way → (m : Moved) → Came m → PartCame words k (reached f st ys) ws limit f.form m
          came (by_itself e m q) x r = absurd (omega (arith, h, ap (λ (z : Front). z.form) e))
          came (by_part g n p a) (Again d) r = tt
          came (by_part g n p a) (Rests why d) r =
              let front = front_kept g ys l a.front in
              let same : residual_of words (in_front words k (reached f st ys)).child (part_in (in_front words k (reached f st ys)) (reached f st ys)) ≡ residual_of words f.child ys =
              ap (λ (z : Front). residual_of words z.child (part_in z (reached f st ys))) (sym front)
              ∙ ap (residual_of words f.child) (put_back g ys l) in
              record {
                time = path_time r.path counted.time;
                form_is = ap (λ (z : Front). z.form) front;
                shown = g.shown ys ws (stays_open g ys l r.path);
                ends = subst (λ p. PartEnds p ws why) (sym same) (part_ends _ _ _ (node_at words f.child ys ws log' d) why r.ends);
              }

      -- what has become of the node
      pub node_came :
          {part m : Moved} {st' : List ℕ} → Came part → Leaves words k (reached f st ys) ws limit f.form part st' m →
          Comes (seen_by words) limit (length log / 4) (node_at words k st vs log c) (node_at words k st' ws log') m
      node_came {part} {m} {st'} r left_so = came w part r left_so
        where
          Node : List ℕ → Moved → Type 0
          Node z m = Comes (seen_by words) limit (length log / 4) (node_at words k st vs log c) (node_at words k z ws log') m

          itself_came : f ≡ itself_of k (length st) → (x : Moved) → Came x → Node (reached f st ys) x
          itself_came e (Again d) r = rw (e, put_whole st ys) (rw (e, mid_whole st) at r)
          itself_came e (Rests why d) r = rw (e, put_whole st ys) (rw (e, mid_whole st) at r)

          -- it stands alone: what is left of the node is what is left of it
          alone_came : Inside words k st f alone → (x : Moved) → Came x → Node (reached f st ys) x
          alone_came i (Again d) r = rw (i.whole, i.after ys l) r
          alone_came i (Rests why d) r = rw (i.whole, i.after ys l) r

          framed_came : Going words k st f vs → (x : Moved) → Came x → LeftBy words k (reached f st ys) ws limit st' m x → Node st' m
          framed_came g (Again d) r s =
              rw (s.0, s.1) (record { path = path_in g ys l r.path; some = r.some })
          framed_came g (Rests why d) r s =
              settled (path_in g ys l r.path) why (stops_as why r.ends) s
            where
              stops_as :
                  (why : Reason) →
                  Ends (seen_by words) limit (length log / 4) (node_at words f.child ys ws log' d) why →
                  StopsAs (path_in g ys l r.path) why
              stops_as Nil e = tt
              stops_as Suspended e = tt
              stops_as Spent e = spent_in g ys l r.path e
              stops_as Full e = full_in g ys l r.path e

          came : Way → (x : Moved) → Came x → Leaves words k (reached f st ys) ws limit f.form x st' m → Node st' m
          came (by_itself e t q) x r s =
              let h : f.form < before = omega (arith, ap (λ (z : Front). z.form) e) in
              rw (s.same h, s.still h) (itself_came e x r)
          came (by_part g n p a) x r s =
              elim (dec_lt f.form before) [
                | yes h ↦
                    let i = stays_alone (record { front = a.front; part = a.part; alone = h }) (sees n) in
                    rw (s.same h, s.still h) (alone_came i x r)
                | no h ↦ framed_came g x r (s.framed (omega arith))
              ]
