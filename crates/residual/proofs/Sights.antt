-- What the bytes of a node say of it: its form, and what is left of it by what is left of the part in front.
use mathlib.Core.Path.{◌≡◌, refl, sym, ap, ◌∙◌}
use mathlib.Core.Bool.{true}
use mathlib.Core.Logic.{◌⊎◌, inl, inr, ⊎_elim}
use mathlib.Core.List.{List, [], ◌∷◌, ◌++◌, append-nil}
use Prim.Native.Nat.{ℕ, zero, suc, ◌+◌, ◌-◌, ◌≤◌, ◌<◌}
use native.Mathlib.Omega.{arith}
use borrow.Rule.Slice.PartMut.{put_mid, same_len_mid, mid_len, take_put, drop_put}
use lib.ListN.{length, take, drop, set, length-set, length-drop, get_or-append, drop_of_length-le}
use lib.Seq.{length-take-le, get_or-take, get_or-set_same, set-get_or, drop-set-lt, take-nil, take_all, take_at, drop_at}
use Rattle.language.specs.Syntax.{Exp, Proc, nil, assign, let_in, if_then_else, while, sequence, emit, local, watching, when, parallel}
use Rattle.language.specs.NodeCounts.{counted, size}
use Rattle.language.specs.Shapes.{leaves_alone}
use Rattle.program.specs.Program.{name_count, node_count, kind_at, a_at, first_at, second_at, process_of}
use Rattle.program.specs.Runnable.{FirstPart, Runnable}
use Rattle.program.proofs.Views.{NodeView, a_nil, an_assign, a_let, an_if, a_while, a_sequence, an_emit, a_local, a_watching, a_when, a_parallel, node_view}
use Rattle.program.specs.declared.forms.Front.{Front}
use Rattle.residual.specs.Residual.{own, first_of, second_of, residual}
use Rattle.program.specs.Forms.{nothing, itself, first, second, before, watched, guarded, beside, turned, front_of, part_in}
use Rattle.language.specs.Frames.{Frame, alone, before_the, watched_by, guarded_by, beside_the, around}
use Rattle.residual.proofs.Residuals.{residual_leaves}

-- node k with the bytes st has this part in front, in this frame, whatever the bytes of the part are
pub record Inside (words : List ℕ) (k : ℕ) (st : List ℕ) (f : Front) (F : Frame ℕ) : Type 0 where
  pub earlier : f.child < k
  pub starts : 1 ≤ f.from
  pub order : f.from ≤ f.to
  pub within : f.to ≤ length st
  pub fits : f.to - f.from ≡ size (process_of words f.child)
  pub whole : residual (process_of words k) st ≡ around F (residual (process_of words f.child) (part_in f st))
  pub after :
      (ys : List ℕ) → length ys ≡ f.to - f.from →
      residual (process_of words k) (put_mid f.from (f.to - f.from) st ys) ≡ around F (residual (process_of words f.child) ys)

-- the signal that node k watches or waits for
abbrev pub signal_at : List ℕ → ℕ → ℕ
signal_at words k = a_at words k

-- assign, let, if, while, emit or local
pub record MovesItself (kind : ℕ) : Type 0 where
  pub others :
      (kind ≡ 1 → ⊥) → (kind ≡ 2 → ⊥) → (kind ≡ 3 → ⊥) → (kind ≡ 4 → ⊥) → (kind ≡ 6 → ⊥) → kind ≡ 7

-- nil, sequence, watching, when and parallel have none
pub not_itself : {kind n : ℕ} → MovesItself kind → kind ≡ n → (n ≡ 0) ⊎ ((n ≡ 5) ⊎ (8 ≤ n)) → ⊥
not_itself m e (inl q) = omega (arith, e, q, m.others (λ x. omega (arith, e, q, x)) (λ x. omega (arith, e, q, x)) (λ x. omega (arith, e, q, x)) (λ x. omega (arith, e, q, x)) (λ x. omega (arith, e, q, x)))
not_itself m e (inr (inl q)) = omega (arith, e, q, m.others (λ x. omega (arith, e, q, x)) (λ x. omega (arith, e, q, x)) (λ x. omega (arith, e, q, x)) (λ x. omega (arith, e, q, x)) (λ x. omega (arith, e, q, x)))
not_itself m e (inr (inr q)) = omega (arith, e, q, m.others (λ x. omega (arith, e, q, x)) (λ x. omega (arith, e, q, x)) (λ x. omega (arith, e, q, x)) (λ x. omega (arith, e, q, x)) (λ x. omega (arith, e, q, x)))

-- the forms of a part alone, and of a parallel
pub alone_within : {n : ℕ} → (n ≡ first) ⊎ (n ≡ second) → (itself < n) × (n < before)
alone_within = ⊎_elim (λ e. (omega arith, omega arith)) (λ e. (omega arith, omega arith))

pub beside_above : {n : ℕ} → (n ≡ beside) ⊎ (n ≡ turned) → guarded < n
beside_above = ⊎_elim (λ e. omega arith) (λ e. omega arith)

-- node k with the bytes st, form by form
pub data Sight (words : List ℕ) (k : ℕ) (st : List ℕ) (f : Front) : Type 0 where
  sees_nothing : f.form ≡ nothing → residual (process_of words k) st ≡ nil → Sight words k st f
  sees_itself : f.form ≡ itself → own st ≡ 0 → MovesItself (kind_at words k) → Sight words k st f
  sees_alone : (f.form ≡ first) ⊎ (f.form ≡ second) → Inside words k st f alone → Sight words k st f
  sees_before :
      f.form ≡ before → own st ≤ 1 → (q : Proc ℕ) → Inside words k st f (before_the q) →
      residual (process_of words k) (set st 0 (1 - own st)) ≡ q → Sight words k st f
  sees_watched :
      f.form ≡ watched → signal_at words k < name_count words → Inside words k st f (watched_by (signal_at words k)) →
      residual (process_of words k) (set st 0 4) ≡ nil → Sight words k st f
  sees_guarded :
      f.form ≡ guarded → signal_at words k < name_count words →
      ((ys : List ℕ) → leaves_alone (signal_at words k) (residual (process_of words f.child) ys) ≡ true) →
      Inside words k st f (guarded_by (signal_at words k)) → residual (process_of words k) (set st 0 4) ≡ nil → Sight words k st f
  sees_beside :
      (f.form ≡ beside) ⊎ (f.form ≡ turned) → own st ≤ 1 → (g : Front) → g ≡ front_of words k (1 - own st) (length st) →
      Inside words k st f (beside_the (residual (process_of words g.child) (part_in g st))) →
      Inside words k (set st 0 (1 - own st)) g (beside_the (residual (process_of words f.child) (part_in f st))) →
      residual (process_of words k) (set st 0 (3 - own st)) ≡ residual (process_of words g.child) (part_in g st) → Sight words k st f

-- the bytes of a node when those of a part are put back
module _ (from n : ℕ) (st ys : List ℕ) where
  pub own_put : 1 ≤ from → from ≤ length st → own (put_mid from n st ys) ≡ own st
  own_put h l =
      get_or-append (take from st) (ys ++ drop n (drop from st)) 0 0 (rw (length-take-le from st l) h)
      ∙ get_or-take from st 0 0 h

  pub length_put : from + n ≤ length st → length ys ≡ n → length (put_mid from n st ys) ≡ length st
  length_put h e =
      same_len_mid from n st ys (e ∙ sym (length-take-le n (drop from st) (rw length-drop (omega arith))))

pub part_length : (f : Front) (st : List ℕ) → f.to ≤ length st → length (part_in f st) ≡ f.to - f.from
part_length f st h = mid_len f.from f.to st h

-- the bytes of a part that were put back
pub part_put :
    (f : Front) (st ys : List ℕ) → f.from ≤ f.to → f.to ≤ length st → length ys ≡ f.to - f.from →
    part_in f (put_mid f.from (f.to - f.from) st ys) ≡ ys
part_put f st ys order within l =
    let rest : List ℕ = drop (f.to - f.from) (drop f.from st) in
    ap (take (f.to - f.from))
    (drop_at (take f.from st) (ys ++ rest) f.from (length-take-le f.from st (omega arith)))
    ∙ take_at ys rest (f.to - f.from) l

-- a node's own byte lies in none of its parts
pub part_set : (f : Front) (st : List ℕ) (v : ℕ) → 1 ≤ f.from → part_in f (set st 0 v) ≡ part_in f st
part_set f st v h = ap (take (f.to - f.from)) (drop-set-lt f.from st 0 v h)

-- the bytes of the first part and of the second, as a front has them: n is the size of the first, and m one more
module _ (n m : ℕ) (e : m ≡ suc n) (st : List ℕ) where
  first_in_lem : take (m - 1) (drop 1 st) ≡ take n (drop 1 st)
  first_in_lem =
      let same : m - 1 ≡ n = omega arith in
      rw same

  second_in_lem : (len : ℕ) → len ≡ length st → take (len - m) (drop m st) ≡ drop (suc n) st
  second_in_lem len l = take_all (len - m) (drop m st) (rw length-drop (omega arith)) ∙ ap (λ k. drop k st) e

  -- bytes of the first part are put back
  module _ (ys : List ℕ) (h : m ≤ length st) where
    pub first_put : length ys ≡ n → take n (drop 1 (put_mid 1 (m - 1) st ys)) ≡ ys
    first_put l =
        ap (take n) (drop_at (take 1 st) (ys ++ drop (m - 1) (drop 1 st)) 1 (length-take-le 1 st (omega arith)))
        ∙ take_at ys (drop (m - 1) (drop 1 st)) n l

    second_kept : length ys ≡ n → drop (suc n) (put_mid 1 (m - 1) st ys) ≡ drop (suc n) st
    second_kept l = rw (← e) (drop_put 1 m st ys (omega arith) h (omega arith))

    -- .. or those of the second
    second_put : (len : ℕ) → len ≡ length st → drop (suc n) (put_mid m (len - m) st ys) ≡ ys
    second_put len l =
        let rest : drop (len - m) (drop m st) ≡ [] = drop_of_length-le (drop m st) {i = len - m} (rw length-drop (omega arith)) in
        rw (← e)
        (drop_at (take m st) (ys ++ drop (len - m) (drop m st)) m (length-take-le m st h)
        ∙ ap (λ z. ys ++ z) rest
        ∙ append-nil ys)

    first_kept : (len : ℕ) → take n (drop 1 (put_mid m len st ys)) ≡ take n (drop 1 st)
    first_kept len =
        let same : take (suc n) (put_mid m len st ys) ≡ take (suc n) st = rw (← e) (take_put m len st ys h) in
        first_within n (put_mid m len st ys) ∙ ap (drop 1) same ∙ sym (first_within n st)
      where
        first_within : (n : ℕ) (bytes : List ℕ) → take n (drop 1 bytes) ≡ drop 1 (take (suc n) bytes)
        first_within n [] = take-nil n
        first_within n (b ∷ bytes) = refl

module _ (words : List ℕ) (one : ℕ) where
  -- the first part, and where the second begins
  abbrev p : Proc ℕ
  p = process_of words one

  abbrev middle : ℕ
  middle = 1 + size p

  step : middle ≡ suc (size p)
  step = omega arith

  -- the front of the first part, and that of the second
  abbrev first_front : ℕ → Front
  first_front form = record { form = form; child = one; from = 1; to = middle }

  abbrev second_front : ℕ → ℕ → ℕ → Front
  second_front form two len = record { form = form; child = two; from = middle; to = len }

  module _ (k : ℕ) (st : List ℕ) (F : Frame ℕ) where
    -- the first part is in front, whatever its bytes are
    first_inside :
        (form : ℕ) → one < k → middle ≤ length st →
        ((bytes : List ℕ) → own bytes ≡ own st → second_of p bytes ≡ second_of p st →
        residual (process_of words k) bytes ≡ around F (residual p (first_of p bytes))) →
        Inside words k st (first_front form) F
    first_inside form b h whole =
        record {
          earlier = b;
          starts = omega arith;
          order = omega arith;
          within = h;
          fits = omega arith;
          whole = whole st refl refl ∙ ap (λ z. around F (residual p z)) (sym (first_in_lem (size p) middle step st));
          after =
              λ ys l.
              let n : length ys ≡ size p = omega arith in
              whole (put_mid 1 (middle - 1) st ys) (own_put 1 (middle - 1) st ys (omega arith) (omega arith))
              (second_kept (size p) middle step st ys h n)
              ∙ ap (λ z. around F (residual p z)) (first_put (size p) middle step st ys h n);
        }

    -- the second part is in front, whatever its bytes are
    second_inside :
        (form two len : ℕ) → two < k → len ≡ length st → len ≡ suc (size p + size (process_of words two)) →
        ((bytes : List ℕ) → own bytes ≡ own st → first_of p bytes ≡ first_of p st →
        residual (process_of words k) bytes ≡ around F (residual (process_of words two) (second_of p bytes))) →
        Inside words k st (second_front form two len) F
    second_inside form two len b l h whole =
        record {
          earlier = b;
          starts = omega arith;
          order = omega arith;
          within = omega arith;
          fits = omega arith;
          whole =
              whole st refl refl
              ∙ ap (λ z. around F (residual (process_of words two) z)) (sym (second_in_lem (size p) middle step st len l));
          after =
              λ ys n.
              let r : middle ≤ length st = omega arith in
              whole (put_mid middle (len - middle) st ys) (own_put middle (len - middle) st ys (omega arith) r)
              (first_kept (size p) middle step st ys r (len - middle))
              ∙ ap (λ z. around F (residual (process_of words two) z)) (second_put (size p) middle step st ys r len l);
        }

-- kind by kind, and by the node's own byte
module _ (words : List ℕ) (k : ℕ) (st : List ℕ) where
  abbrev Seen : Type 0
  Seen = Sight words k st (front_of words k (own st) (length st))

  abbrev kind : ℕ
  kind = kind_at words k

  abbrev a : ℕ
  a = a_at words k

  -- its children
  abbrev i : ℕ
  i = first_at words k

  abbrev j : ℕ
  j = second_at words k

  module _ (room : length st ≡ size (process_of words k)) where
    -- so many bytes, by the process
    length_is : {p : Proc ℕ} → process_of words k ≡ p → length st ≡ size p
    length_is q = room ∙ ap size q

    see_nil : kind ≡ 0 → process_of words k ≡ nil → Seen
    unfolding residual front_of
    see_nil e q = rw e (sees_nothing refl (rw q))

    see_assign : {x : ℕ} {y : Exp} → kind ≡ 1 → process_of words k ≡ assign x y → (tag : ℕ) → own st ≡ tag → Seen
    unfolding residual front_of
    see_assign e q zero o = rw (e, o) (sees_itself refl o (omega (arith, e)))
    see_assign e q (suc t) o = rw (e, o) (sees_nothing refl (rw (q, o)))

    see_let :
        {x δ : ℕ} {y : Exp} → kind ≡ 2 → process_of words k ≡ let_in x δ y (process_of words i) → FirstPart words k →
        (tag : ℕ) → own st ≡ tag → Seen
    unfolding residual front_of counted
    see_let e q l zero o = rw (e, o) (sees_itself refl o (omega (arith, e)))
    see_let e q l (suc zero) o =
        rw (e, o, l.sized)
        (sees_alone (inl refl)
        (first_inside words i k st alone first l.before (omega (arith, length_is q)) (λ bytes t r. rw (q, t, o))))
    see_let e q l (suc (suc t)) o = rw (e, o) (sees_nothing refl (rw (q, o)))

    see_if :
        {y : Exp} → kind ≡ 3 → process_of words k ≡ if_then_else y (process_of words i) (process_of words j) → FirstPart words k → j < k →
        (tag : ℕ) → own st ≡ tag → Seen
    unfolding residual front_of counted
    see_if e q l m zero o = rw (e, o) (sees_itself refl o (omega (arith, e)))
    see_if e q l m (suc zero) o =
        rw (e, o, l.sized)
        (sees_alone (inl refl)
        (first_inside words i k st alone first l.before (omega (arith, length_is q)) (λ bytes t r. rw (q, t, o))))
    see_if e q l m (suc (suc zero)) o =
        rw (e, o, l.sized)
        (sees_alone (inr refl)
        (second_inside words i k st alone second j (length st) m refl (length_is q) (λ bytes t r. rw (q, t, o))))
    see_if e q l m (suc (suc (suc t))) o = rw (e, o) (sees_nothing refl (rw (q, o)))

    see_while :
        {y : Exp} → kind ≡ 4 → process_of words k ≡ while y (process_of words i) → FirstPart words k → (tag : ℕ) → own st ≡ tag → Seen
    unfolding residual front_of counted
    see_while e q l zero o = rw (e, o) (sees_itself refl o (omega (arith, e)))
    see_while {y} e q l (suc zero) o =
        let loop : Proc ℕ = while y (process_of words i) in
        rw (e, o, l.sized)
        (sees_before refl (omega arith) loop
        (first_inside words i k st (before_the loop) before l.before (omega (arith, length_is q)) (λ bytes t r. rw (q, t, o)))
        (rw (q, get_or-set_same st 0 (1 - own st) 0 (omega (arith, length_is q)), o)))
    see_while e q l (suc (suc t)) o = rw (e, o) (sees_nothing refl (rw (q, o)))

    see_sequence :
        kind ≡ 5 → process_of words k ≡ sequence (process_of words i) (process_of words j) → FirstPart words k → j < k →
        (tag : ℕ) → own st ≡ tag → Seen
    unfolding residual front_of counted
    see_sequence e q l m zero o =
        let next : Proc ℕ = residual (process_of words j) (second_of (process_of words i) st) in
        rw (e, o, l.sized)
        (sees_before refl (omega arith) next
        (first_inside words i k st (before_the next) before l.before (omega (arith, length_is q)) (λ bytes t r. rw (q, t, o, r)))
        (rw (q, get_or-set_same st 0 (1 - own st) 0 (omega (arith, length_is q)), o)
        (ap (residual (process_of words j)) (drop-set-lt (suc (size (process_of words i))) st 0 _ (omega arith)))))
    see_sequence e q l m (suc zero) o =
        rw (e, o, l.sized)
        (sees_alone (inr refl)
        (second_inside words i k st alone second j (length st) m refl (length_is q) (λ bytes t r. rw (q, t, o))))
    see_sequence e q l m (suc (suc t)) o = rw (e, o) (sees_nothing refl (rw (q, o)))

    see_emit : {x : ℕ} → kind ≡ 6 → process_of words k ≡ emit x → (tag : ℕ) → own st ≡ tag → Seen
    unfolding residual front_of
    see_emit e q zero o = rw (e, o) (sees_itself refl o (omega (arith, e)))
    see_emit e q (suc t) o = rw (e, o) (sees_nothing refl (rw (q, o)))

    see_local :
        {x δ : ℕ} → kind ≡ 7 → process_of words k ≡ local x δ (process_of words i) → FirstPart words k → (tag : ℕ) → own st ≡ tag → Seen
    unfolding residual front_of counted
    see_local e q l zero o = rw (e, o) (sees_itself refl o (omega (arith, e)))
    see_local e q l (suc zero) o =
        rw (e, o, l.sized)
        (sees_alone (inl refl)
        (first_inside words i k st alone first l.before (omega (arith, length_is q)) (λ bytes t r. rw (q, t, o))))
    see_local e q l (suc (suc t)) o = rw (e, o) (sees_nothing refl (rw (q, o)))

    see_watching :
        kind ≡ 8 → process_of words k ≡ watching a (process_of words i) → a < name_count words → FirstPart words k → (tag : ℕ) → own st ≡ tag → Seen
    unfolding residual front_of counted
    see_watching e q n l zero o =
        rw (e, o, l.sized)
        (sees_watched refl n
        (first_inside words i k st (watched_by a) watched l.before (omega (arith, length_is q)) (λ bytes t r. rw (q, t, o)))
        (rw (q, get_or-set_same st 0 4 0 (omega (arith, length_is q)))))
    see_watching e q n l (suc t) o = rw (e, o) (sees_nothing refl (rw (q, o)))

    see_when :
        kind ≡ 9 → process_of words k ≡ when a (process_of words i) → a < name_count words →
        ((ys : List ℕ) → leaves_alone a (residual (process_of words i) ys) ≡ true) → FirstPart words k → (tag : ℕ) → own st ≡ tag → Seen
    unfolding residual front_of counted
    see_when e q n leaves l zero o =
        rw (e, o, l.sized)
        (sees_guarded refl n leaves
        (first_inside words i k st (guarded_by a) guarded l.before (omega (arith, length_is q)) (λ bytes t r. rw (q, t, o)))
        (rw (q, get_or-set_same st 0 4 0 (omega (arith, length_is q)))))
    see_when e q n leaves l (suc t) o = rw (e, o) (sees_nothing refl (rw (q, o)))

    module _ (e : kind ≡ 10) (q : process_of words k ≡ parallel (process_of words i) (process_of words j)) (l : FirstPart words k) (m : j < k) where
      abbrev one : Proc ℕ
      one = process_of words i

      abbrev two : Proc ℕ
      two = process_of words j

      -- the first part with the second beside it, and the second with the first
      abbrev ahead : Front
      ahead = first_front words i beside

      abbrev behind : Front
      behind = second_front words i turned j (length st)

      length_both : length st ≡ suc (size one + size two)
      unfolding counted
      length_both = length_is q

      -- the parts, whatever the own byte is
      part_one : (v : ℕ) → first_of one (set st 0 v) ≡ part_in ahead st
      part_one v =
          sym (first_in_lem (size one) (middle words i) (step words i) (set st 0 v)) ∙ part_set ahead st v (omega arith)

      part_two : (v : ℕ) → second_of one (set st 0 v) ≡ part_in behind st
      part_two v =
          sym (second_in_lem (size one) (middle words i) (step words i) (set st 0 v) (length st) (sym (length-set st 0 v)))
          ∙ part_set behind st v (omega arith)

      ahead_inside :
          (v : ℕ) → v ≡ 0 → Inside words k (set st 0 v) ahead (beside_the (residual two (part_in behind st)))
      unfolding residual
      ahead_inside v z =
          first_inside words i k (set st 0 v) (beside_the (residual two (part_in behind st))) beside l.before
          (rw length-set (omega (arith, length_both)))
          (λ bytes t r. rw (q, t, get_or-set_same st 0 v 0 (omega (arith, length_both)), z, r, part_two v))

      behind_inside :
          (v : ℕ) → v ≡ 1 → Inside words k (set st 0 v) behind (beside_the (residual one (part_in ahead st)))
      unfolding residual
      behind_inside v z =
          second_inside words i k (set st 0 v) (beside_the (residual one (part_in ahead st))) turned j (length st) m
          (sym (length-set st 0 v)) length_both
          (λ bytes t r. rw (q, t, get_or-set_same st 0 v 0 (omega (arith, length_both)), z, r, part_one v))

      see_parallel : (tag : ℕ) → own st ≡ tag → Seen
      unfolding residual front_of
      see_parallel zero o =
          rw (e, o, l.sized)
          (sees_beside (inl refl) (omega arith) behind (rw (e, o, l.sized)) (rw (set-get_or st 0 0) at (ahead_inside (own st) o))
          (behind_inside (1 - own st) (omega arith))
          (rw (q, get_or-set_same st 0 (3 - own st) 0 (omega (arith, length_both)), o) (ap (residual two) (part_two 3))))
      see_parallel (suc zero) o =
          rw (e, o, l.sized)
          (sees_beside (inr refl) (omega arith) ahead (rw (e, o, l.sized)) (rw (set-get_or st 0 0) at (behind_inside (own st) o))
          (ahead_inside (1 - own st) (omega arith))
          (rw (q, get_or-set_same st 0 (3 - own st) 0 (omega (arith, length_both)), o) (ap (residual one) (part_one 2))))
      see_parallel (suc (suc zero)) o =
          rw (e, o, l.sized)
          (sees_alone (inl refl)
          (first_inside words i k st alone first l.before (omega (arith, length_both)) (λ bytes t r. rw (q, t, o))))
      see_parallel (suc (suc (suc zero))) o =
          rw (e, o, l.sized)
          (sees_alone (inr refl)
          (second_inside words i k st alone second j (length st) m refl length_both (λ bytes t r. rw (q, t, o))))
      see_parallel (suc (suc (suc (suc t)))) o = rw (e, o) (sees_nothing refl (rw (q, o)))

pub sight :
    (words : List ℕ) → Runnable words → (k : ℕ) → k < node_count words → (st : List ℕ) → length st ≡ size (process_of words k) →
    Sight words k st (front_of words k (own st) (length st))
sight words ok k h st room = view (node_view words ok k h)
  where
    view : NodeView words k → Seen words k st
    view (a_nil e q) = see_nil words k st room e q
    view (an_assign e q x y) = see_assign words k st room e q (own st) refl
    view (a_let e q x y p) = see_let words k st room e q p (own st) refl
    view (an_if e q y p r) = see_if words k st room e q p r (own st) refl
    view (a_while e q y p) = see_while words k st room e q p (own st) refl
    view (a_sequence e q p r) = see_sequence words k st room e q p r (own st) refl
    view (an_emit e q x) = see_emit words k st room e q (own st) refl
    view (a_local e q x p) = see_local words k st room e q p (own st) refl
    view (a_watching e q x p g) = see_watching words k st room e q x p (own st) refl
    view (a_when e q x p l) = see_when words k st room e q x (λ ys. residual_leaves _ _ ys l) p (own st) refl
    view (a_parallel e q p r) = see_parallel words k st room e q p r (own st) refl
