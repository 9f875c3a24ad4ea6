-- A part that stands alone takes the place of its node: what is left of the node is what is left of that part.
use mathlib.Core.Path.{◌≡◌, sym, ap, ap₂, ◌∙◌, subst}
use mathlib.Core.List.{List, ◌++◌, append-nil, append_assoc}
use Prim.Native.Nat.{ℕ, ◌+◌, ◌-◌, ◌/◌, ◌≤◌, ◌<◌}
use native.Mathlib.Nat.{le_refl, sub-zero}
use native.Mathlib.Omega.{arith}
use borrow.Rule.Slice.PartMut.{mid_of, post_of, put_mid, mid_len, put_same, take_put, drop_put, Post-is}
use lib.IntN.{ℤ}
use lib.ListN.{length, take, drop, length-drop, take-append-drop}
use lib.Seq.{length-take-le, take-length, drop-length, take-append-le, drop-append-le, take-add, drop-drop}
use Rattle.program.specs.Program.{seen_by}
use Rattle.program.specs.declared.forms.Front.{Front}
use Rattle.language.specs.Frames.{alone}
use Rattle.residual.specs.Nodes.{Valued, At, residual_of}
use Rattle.residual.proofs.Sights.{Inside, beside_above, Sight, sees_nothing, sees_itself, sees_alone, sees_before, sees_watched, sees_guarded, sees_beside, length_put, part_put}
use Rattle.instants.proofs.Deciding.{Found, sees, front_part}
use Rattle.moves.specs.declared.counts.Counts.{Counts}
use Rattle.moves.specs.declared.counts.Moved.{Moved}
use Rattle.moves.specs.declared.counts.Moved.TheVariants.{Again, Rests}
use Rattle.moves.specs.Moves.{Running, MovePath, Comes}
use Rattle.moves.specs.Promises.{CanMove, node_at, Makes}
use Rattle.moves.proofs.Framing.{joined}
use Rattle.moves.proofs.Advancing.{counted_on, can_on}
use Rattle.advance.specs.Promises.{Alone}

-- a part of a part: m elements from f on, among the n from a on
module _ (a n f m : ℕ) (st : List ℕ) (h : f + m ≤ n) (l : a + n ≤ length st) where
  abbrev mid : List ℕ
  mid = mid_of a n st

  abbrev rest : List ℕ
  rest = post_of a n st

  mid_long : length mid ≡ n
  mid_long = length-take-le n (drop a st) (rw length-drop (omega arith))

  halves : mid ++ rest ≡ drop a st
  halves = take-append-drop n (drop a st)

  -- what lies from a + f on
  onward : drop (a + f) st ≡ drop f mid ++ rest
  onward = sym (drop-drop f a st) ∙ ap (drop f) (sym halves) ∙ drop-append-le f mid rest (rw mid_long (omega arith))

  some_left : m ≤ length (drop f mid)
  some_left = rw (length-drop, mid_long) (omega arith)

  pub mid_mid : mid_of f m mid ≡ mid_of (a + f) m st
  mid_mid = sym (ap (take m) onward ∙ take-append-le m (drop f mid) rest some_left)

  pub put_mid_lem : (ys : List ℕ) → put_mid (a + f) m st ys ≡ put_mid a n st (put_mid f m mid ys)
  put_mid_lem ys =
      let near : take (a + f) st ≡ take a st ++ take f mid =
      take-add a f st
      ∙ ap (λ z. take a st ++ z) (ap (take f) (sym halves) ∙ take-append-le f mid rest (rw mid_long (omega arith))) in
      let far : post_of (a + f) m st ≡ post_of f m mid ++ rest =
      ap (drop m) onward ∙ drop-append-le m (drop f mid) rest some_left in
      ap₂ (λ y z. y ++ (ys ++ z)) near far
      ∙ append_assoc (take a st) (take f mid) (ys ++ (post_of f m mid ++ rest))
      ∙ ap (λ z. take a st ++ z)
      (ap (λ z. take f mid ++ z) (sym (append_assoc ys (post_of f m mid) rest))
      ∙ sym (append_assoc (take f mid) (ys ++ post_of f m mid) rest))

-- put back twice
put_over :
    (a b : ℕ) (st ys zs : List ℕ) → a ≤ b → b ≤ length st → length ys ≡ b - a →
    put_mid a (b - a) (put_mid a (b - a) st ys) zs ≡ put_mid a (b - a) st zs
put_over a b st ys zs h w l =
    ap₂ (λ y z. y ++ (zs ++ z)) (take_put a (b - a) st ys (omega arith))
    (Post-is a b (put_mid a (b - a) st ys) h ∙ drop_put a b st ys h w l ∙ sym (Post-is a b st h))

-- all elements are a part
pub mid_whole : (st : List ℕ) → mid_of 0 (length st - 0) st ≡ st
mid_whole st = rw (sub-zero (length st)) (take-length st)

pub put_whole : (st ys : List ℕ) → put_mid 0 (length st - 0) st ys ≡ ys
put_whole st ys = rw (sub-zero (length st), drop-length st) (append-nil ys)

-- the part in front stands alone
pub stays_alone : {words : List ℕ} {k : ℕ} {st : List ℕ} {f : Front} → Alone words k st f → Sight words k st f → Inside words k st f alone
stays_alone o (sees_nothing e r) = absurd (omega (arith, e, o.part))
stays_alone o (sees_itself e z m) = absurd (omega (arith, e, o.part))
stays_alone o (sees_alone e i) = i
stays_alone o (sees_before e z q i r) = absurd (omega (arith, e, o.alone))
stays_alone o (sees_watched e x i r) = absurd (omega (arith, e, o.alone))
stays_alone o (sees_guarded e x z i r) = absurd (omega (arith, e, o.alone))
stays_alone o (sees_beside e z g q i c r) = absurd (omega (arith, beside_above e, o.alone))

-- Node j stands in the place of node k, which has the bytes st: its own are those from a up to b.
pub record Placed (words : List ℕ) (k : ℕ) (st : List ℕ) (j a b : ℕ) : Type 0 where
  pub earlier : j ≤ k
  pub order : a ≤ b
  pub within : b ≤ length st
  pub at : At words j (mid_of a (b - a) st)
  pub after : (ys : List ℕ) → length ys ≡ b - a → residual_of words k (put_mid a (b - a) st ys) ≡ residual_of words j ys

-- the node itself
pub itself_placed : (words : List ℕ) (k : ℕ) (st : List ℕ) → At words k st → Placed words k st k 0 (length st)
itself_placed words k st at =
    record {
      earlier = le_refl k;
      order = omega arith;
      within = le_refl (length st);
      at = subst (At words k) (sym (mid_whole st)) at;
      after = λ ys l. ap (residual_of words k) (put_whole st ys);
    }

module _ {words : List ℕ} {k : ℕ} {st : List ℕ} {j a b : ℕ} (p : Placed words k st j a b) where
  pub long : length (mid_of a (b - a) st) ≡ b - a
  long = mid_len a b st p.within

  -- what is left of it is what is left of the node
  pub same_left : residual_of words k st ≡ residual_of words j (mid_of a (b - a) st)
  same_left = ap (residual_of words k) (sym (put_same a (b - a) st)) ∙ p.after (mid_of a (b - a) st) long

  -- its own bytes have changed
  module _ (ys : List ℕ) (l : length ys ≡ b - a) where
    pub bytes_kept : length (put_mid a (b - a) st ys) ≡ length st
    bytes_kept = length_put a (b - a) st ys (omega (arith, p.order, p.within)) l

    put_back : mid_of a (b - a) (put_mid a (b - a) st ys) ≡ ys
    put_back = part_put (record { form = 0; child = 0; from = a; to = b }) st ys p.order p.within l

    pub placed_still : Placed words k (put_mid a (b - a) st ys) j a b
    placed_still =
        record {
          earlier = p.earlier;
          order = p.order;
          within = omega (arith, p.within, bytes_kept);
          at = record { known = p.at.known; whole = ap length put_back ∙ l ∙ sym long ∙ p.at.whole };
          after = λ zs m. ap (residual_of words k) (put_over a b st ys zs p.order p.within l) ∙ p.after zs m;
        }

  -- its part that stands alone stands there
  module _ {vs : List ℤ} (v : Valued words vs) {f : Front} (o : Alone words j (mid_of a (b - a) st) f) where
    found : Found words vs j (mid_of a (b - a) st) f
    found = record { valued = v; at = p.at; front = o.front }

    inside : Inside words j (mid_of a (b - a) st) f alone
    inside = stays_alone o (sees found)

    pub part_falls : f.child < j
    part_falls = inside.earlier

    pub part_placed : Placed words k st f.child (a + f.from) (a + f.to)
    part_placed =
        let n : (a + f.to) - (a + f.from) ≡ f.to - f.from = omega arith in
        let h : f.from + (f.to - f.from) ≤ b - a = omega (arith, inside.order, inside.within, long) in
        let w : a + (b - a) ≤ length st = omega (arith, p.order, p.within) in
        record {
          earlier = omega (arith, inside.earlier, p.earlier);
          order = omega (arith, inside.order);
          within = omega (arith, inside.within, long, p.order, p.within);
          at =
              rw n
              (subst (At words f.child) (mid_mid a (b - a) f.from (f.to - f.from) st h w)
              (front_part found o.part).at);
          after =
              rw n
              (λ ys l.
              let d : length (put_mid f.from (f.to - f.from) (mid_of a (b - a) st) ys) ≡ b - a =
              length_put f.from (f.to - f.from) (mid_of a (b - a) st) ys
              (omega (arith, inside.order, inside.within)) l
              ∙ long in
              ap (residual_of words k) (put_mid_lem a (b - a) f.from (f.to - f.from) st h w ys)
              ∙ p.after (put_mid f.from (f.to - f.from) (mid_of a (b - a) st) ys) d
              ∙ inside.after ys l);
        }

-- Node k has come to here by moves, with as many bytes, values and words of its log, and node j stands in its place.
pub record Here
    (limit : ℕ) (begun : Running ℕ) (words : List ℕ) (k : ℕ) (st : List ℕ) (vs : List ℤ) (log : List ℕ) (c : Counts)
    (j a b : ℕ) : Type 0 where
  pub path : MovePath (seen_by words) limit (length begun.log / 4) begun (node_at words k st vs log c)
  pub can : CanMove words k st vs log limit c
  pub logged : length log ≡ length begun.log
  pub placed : Placed words k st j a b

module _ {limit : ℕ} {begun : Running ℕ} {words : List ℕ} {k : ℕ} {st : List ℕ} {vs : List ℤ} {log : List ℕ} {c : Counts}
    {j a b : ℕ} (u : Here limit begun words k st vs log c j a b) where
  -- its next turn: what becomes of node j becomes of the node
  module _ (ys : List ℕ) (ws : List ℤ) (log' : List ℕ) (l : length ys ≡ b - a) where
    abbrev pub Becomes : Moved → Type 0
    Becomes m =
        Comes (seen_by words) limit (length begun.log / 4) (node_at words k st vs log c)
        (node_at words k (put_mid a (b - a) st ys) ws log') m

    pub becomes : (m : Moved) → Makes words limit j (mid_of a (b - a) st) vs log c ys ws log' m → Becomes m
    becomes (Again d) r = rw (same_left u.placed, u.placed.after ys l, ← u.logged) r
    becomes (Rests why d) r = rw (same_left u.placed, u.placed.after ys l, ← u.logged) r

    pub here_on :
        {d : Counts} → Becomes (Again d) → length ws ≡ length vs → length log' ≡ length log →
        Here limit begun words k (put_mid a (b - a) st ys) ws log' d j a b
    here_on g named logged =
        record {
          path = joined u.path g.path;
          can =
              can_on u.can (bytes_kept u.placed ys l) named
              (counted_on g.path u.can.counted u.logged logged);
          logged = logged ∙ u.logged;
          placed = placed_still u.placed ys l;
        }

  -- or its part takes its place
  pub here_inside :
      {f : Front} → Alone words j (mid_of a (b - a) st) f →
      Here limit begun words k st vs log c f.child (a + f.from) (a + f.to)
  here_inside o =
      record { path = u.path; can = u.can; logged = u.logged; placed = part_placed u.placed u.can.valued o }
