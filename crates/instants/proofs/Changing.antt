-- What an instant change makes of a node whose parts change: the part in front, or both parts of a parallel, one after
-- the other.
use mathlib.Core.Path.{◌≡◌, sym, ap, ap₂, ◌∙◌}
use mathlib.Core.Bool.{true, false}
use mathlib.Core.Logic.{◌⊎◌, inl, inr, ⊎_elim}
use mathlib.Core.List.{List, [], ◌∷◌}
use Prim.Native.Nat.{ℕ, zero, suc, ◌+◌, ◌-◌, ◌≤◌, ◌<◌}
use native.Mathlib.Nat.{zero-add, suc-add}
use native.Mathlib.Omega.{arith}
use borrow.Rule.Slice.PartMut.{put_mid, take_put, drop_put}
use lib.IntN.{ℤ}
use lib.ListN.{length, take, drop}
use lib.Seq.{take-nil, take-take, drop-drop}
use Rattle.language.specs.Syntax.{parallel}
use Rattle.language.specs.Steps.{present, change}
use Rattle.program.specs.declared.forms.Front.{Front}
use Rattle.residual.specs.Residual.{own}
use Rattle.program.specs.Forms.{itself, watched, guarded, beside, rear_of, part_in}
use Rattle.language.specs.Frames.{around}
use Rattle.residual.specs.Nodes.{in_front, in_rear, residual_of}
use Rattle.residual.proofs.Sights.{signal_at, own_put, length_put, part_length, part_put}
use Rattle.instants.proofs.Deciding.{Found, Part, Rear, front_part, rear_part, rear_found, parts_apart, ahead}

-- what lies in the middle of a list lies in its front
take_drop : (m n : ℕ) (l : List ℕ) → take m (drop n l) ≡ drop n (take (n + m) l)
take_drop m zero l = rw (zero-add m)
take_drop m (suc n) [] = take-nil m ∙ ap (drop (suc n)) (sym (take-nil (suc n + m)))
take_drop m (suc n) (b ∷ l) = rw (suc-add n m) (take_drop m n l)

-- two parts lie one after the other
abbrev Apart : Front → Front → Type 0
Apart f g = (f.to ≤ g.from) ⊎ (g.to ≤ f.from)

-- the bytes of a node with those of a part put back
abbrev pub put : Front → List ℕ → List ℕ → List ℕ
put f st ys = put_mid f.from (f.to - f.from) st ys

module _ (f : Front) (st ys : List ℕ) (order : f.from ≤ f.to) (within : f.to ≤ length st)
    (l : length ys ≡ f.to - f.from) where
  part_kept : (g : Front) → g.from ≤ g.to → Apart f g → part_in g (put f st ys) ≡ part_in g st
  part_kept g o =
      ⊎_elim
      (λ h.
      let e : f.to + (g.from - f.to) ≡ g.from = omega arith in
      ap (take (g.to - g.from))
      (ap (λ n. drop n (put f st ys)) (sym e)
      ∙ sym (drop-drop (g.from - f.to) f.to (put f st ys))
      ∙ ap (drop (g.from - f.to)) (drop_put f.from f.to st ys order within l)
      ∙ drop-drop (g.from - f.to) f.to st
      ∙ ap (λ n. drop n st) e))
      (λ h.
      let e : g.from + (g.to - g.from) ≡ g.to = omega arith in
      take_drop (g.to - g.from) g.from (put f st ys)
      ∙ ap (λ n. drop g.from (take n (put f st ys))) e
      ∙ ap (drop g.from)
      (sym (take-take g.to f.from (put f st ys) h)
      ∙ ap (take g.to) (take_put f.from (f.to - f.from) st ys (omega arith))
      ∙ take-take g.to f.from st h)
      ∙ ap (λ n. drop g.from (take n st)) (sym e)
      ∙ sym (take_drop (g.to - g.from) g.from st))

module _ {words : List ℕ} {values : List ℤ} {k : ℕ} {st : List ℕ} {f : Front}
    (found : Found words values k st f) (some : itself < f.form) (ys : List ℕ) (l : length ys ≡ length (part_in f st)) where
  abbrev one : Part words k st f
  one = front_part found some

  count : length ys ≡ f.to - f.from
  count = l ∙ part_length f st one.within

  pub length_one : length (put f st ys) ≡ length st
  length_one = length_put f.from (f.to - f.from) st ys (omega (arith, one.order, one.within)) count

  -- the part in front has changed
  pub one_changed :
      f.form < beside → (f.form ≡ watched → present values (signal_at words k) ≡ false) →
      (f.form ≡ guarded → present values (signal_at words k) ≡ true) →
      residual_of words f.child ys ≡ change (residual_of words f.child (part_in f st)) values →
      residual_of words k (put f st ys) ≡ change (residual_of words k st) values
  one_changed b off on h =
      let a = ahead found some b in
      a.inside.after ys count
      ∙ ap (around a.frame) h
      ∙ sym (a.changes off on (residual_of words f.child (part_in f st)))
      ∙ ap (λ p. change p values) (sym a.inside.whole)

  -- and then, of a parallel, the part behind it
  module _ {g : Front} {n : ℕ} (e : n ≡ (in_front words k st).form) (b : beside ≤ n) (u : g ≡ rear_of words k n (length st)) where
    rear : Rear words k st f
    rear = rear_part found (omega (arith, e, b, ap (λ (f : Front). f.form) found.front))

    other : g ≡ in_rear words k st
    other = u ∙ rear_found found e b

    two : Part words k st g
    two = rw other rear.part

    apart : Apart f g
    apart = rw other (parts_apart found e b)

    rear_kept : part_in g (put f st ys) ≡ part_in g st
    rear_kept = part_kept f st ys one.order one.within count g two.order apart

    pub rear_after : Part words k (put f st ys) g
    rear_after =
        record {
          earlier = two.earlier;
          starts = two.starts;
          order = two.order;
          within = rw length_one two.within;
          at = rw rear_kept two.at;
        }

    module _ (zs : List ℕ) (m : length zs ≡ length (part_in g (put f st ys))) where
      abbrev after : List ℕ
      after = put g (put f st ys) zs

      count_two : length zs ≡ g.to - g.from
      count_two = m ∙ part_length g (put f st ys) rear_after.within

      ends_within : g.from + (g.to - g.from) ≤ length (put f st ys)
      ends_within = omega (arith, two.order, rear_after.within)

      pub length_two : length after ≡ length st
      length_two = length_put g.from (g.to - g.from) (put f st ys) zs ends_within count_two ∙ length_one

      own_two : own after ≡ own st
      own_two =
          own_put g.from (g.to - g.from) (put f st ys) zs two.starts (omega (arith, ends_within))
          ∙ own_put f.from (f.to - f.from) st ys one.starts (omega (arith, one.order, one.within))

      front_after : part_in f after ≡ ys
      front_after =
          part_kept g (put f st ys) zs two.order rear_after.within count_two f one.order
          (⊎_elim (λ h. inr h) (λ h. inl h) apart)
          ∙ part_put f st ys one.order one.within count

      found_after : Found words values k after f
      found_after =
          record {
            valued = found.valued;
            at = record { known = found.at.known; whole = length_two ∙ found.at.whole };
            front = rw (own_two, length_two) found.front;
          }

      whole_after : residual_of words k after ≡ parallel (residual_of words f.child ys) (residual_of words g.child zs)
      whole_after =
          let behind : in_rear words k after ≡ g = rw (own_two, length_two) (sym other) in
          (rear_part found_after (omega (arith, e, b, ap (λ (f : Front). f.form) found.front))).whole
          ∙ ap₂ parallel (ap (residual_of words f.child) front_after)
          (ap (λ (g : Front). residual_of words g.child (part_in g after)) behind
          ∙ ap (residual_of words g.child) (part_put g (put f st ys) zs two.order rear_after.within count_two))

      pub two_changed :
          residual_of words f.child ys ≡ change (residual_of words f.child (part_in f st)) values →
          residual_of words g.child zs ≡ change (residual_of words g.child (part_in g (put f st ys))) values →
          residual_of words k after ≡ change (residual_of words k st) values
      unfolding change
      two_changed h i =
          let behind = ap (λ (g : Front). change (residual_of words g.child (part_in g st)) values) other in
          whole_after
          ∙ ap₂ parallel h (i ∙ ap (λ z. change (residual_of words g.child z) values) rear_kept ∙ behind)
          ∙ ap (λ p. change p values) (sym rear.whole)
