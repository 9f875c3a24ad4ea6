-- A node whose own move is next: what the move is, kind by kind, and what the bytes say after it.
use mathlib.Core.Path.{◌≡◌, refl, sym, ap, ◌∙◌, subst}
use mathlib.Core.Bool.{true, false, true≢false, and-true}
use mathlib.Core.Logic.{inl, inr, ⊎_elim}
use mathlib.Core.List.{List, [], ◌∷◌}
use Prim.Native.Nat.{ℕ, suc, ◌-◌, ◌<◌}
use native.Mathlib.Decide.{ℕ_discrete}
use native.Mathlib.Omega.{arith}
use borrow.Author.Tests.{eqb-true, ne_eqb}
use borrow.Rule.Slice.PartMut.{put_mid}
use lib.IntN.{ℤ, pos}
use lib.ListN.{get_or, length, take, drop, set, replicate, length-set, length-replicate, length-drop}
use lib.Seq.{length-take-le, drop-set-lt}
use Rattle.language.specs.Syntax.{Proc, assign, let_in, if_then_else, while, emit, local, is_nil}
use Rattle.language.specs.Steps.{value, test, suspended, move}
use Rattle.language.specs.Calls.{called_at}
use Rattle.packing.specs.Packing.{level_in}
use Rattle.program.specs.Program.{name_count, expression_count, node_count, name_word, b_at, first_at, second_at, kind_at, a_at, expression_of, process_of}
use Rattle.program.specs.Runnable.{Runnable}
use Rattle.language.specs.NodeCounts.{counted, size}
use Rattle.program.proofs.Views.{NodeView, a_nil, an_assign, a_let, an_if, a_while, a_sequence, an_emit, a_local, a_watching, a_when, a_parallel, node_view}
use Rattle.program.specs.declared.forms.Front.{Front}
use Rattle.program.specs.Forms.{itself}
use Rattle.residual.specs.Residual.{own, first_of, second_of, residual}
use Rattle.moves.specs.Moves.{Live, Silent}
use Rattle.residual.specs.Nodes.{Valued, At, residual_of}
use Rattle.moves.specs.Promises.{Unmoved, IsSilent, IsWriter, WriterAt, Written}
use Rattle.language.specs.KindGroups.{has_write}
use Rattle.residual.proofs.Residuals.{zeros, own_set_at, some_bytes}
use Rattle.residual.proofs.Sights.{MovesItself, not_itself, alone_within, beside_above, Sight, sees_nothing, sees_itself, sees_alone, sees_before, sees_watched, sees_guarded, sees_beside, own_put, length_put, first_put}

module _ (words : List ℕ) (k : ℕ) where
  abbrev kind : ℕ
  kind = kind_at words k

  abbrev a : ℕ
  a = a_at words k

  abbrev b : ℕ
  b = b_at words k

  abbrev one : Proc ℕ
  one = process_of words (first_at words k)

  abbrev two : Proc ℕ
  two = process_of words (second_at words k)

  abbrev Is : Proc ℕ → Type 0
  Is p = process_of words k ≡ p

  -- what is known of a node of a kind that has a move of its own
  abbrev Known : List (Type 0)
  Known =
      Unit {0}
      ∷ (Is (assign a (expression_of words b)) × ((a < name_count words) × (b < expression_count words)))
      ∷ (Is (let_in a (level_in (name_word words a)) (expression_of words b) one)
      × ((a < name_count words) × (b < expression_count words)))
      ∷ (Is (if_then_else (expression_of words a) one two) × (a < expression_count words))
      ∷ (Is (while (expression_of words a) one) × (a < expression_count words))
      ∷ Unit {0}
      ∷ (Is (emit a) × (a < name_count words))
      ∷ (Is (local a (level_in (name_word words a)) one) × (a < name_count words))
      ∷ []

  abbrev KnownAt : ℕ → Type 0
  KnownAt n = get_or Known n (Unit {0})

  known_of : NodeView words k → KnownAt kind
  known_of (a_nil e q) = subst KnownAt (sym e) tt
  known_of (an_assign e q x y) = subst KnownAt (sym e) (q, (x, y))
  known_of (a_let e q x y z) = subst KnownAt (sym e) (q, (x, y))
  known_of (an_if e q x y z) = subst KnownAt (sym e) (q, x)
  known_of (a_while e q x y) = subst KnownAt (sym e) (q, x)
  known_of (a_sequence e q x y) = subst KnownAt (sym e) tt
  known_of (an_emit e q x) = subst KnownAt (sym e) (q, x)
  known_of (a_local e q x y) = subst KnownAt (sym e) (q, x)
  known_of (a_watching e q x y g) = subst KnownAt (sym e) tt
  known_of (a_when e q x y l) = subst KnownAt (sym e) tt
  known_of (a_parallel e q x y) = subst KnownAt (sym e) tt

pub known : (words : List ℕ) → Runnable words → (k : ℕ) → k < node_count words → {n : ℕ} → kind words k ≡ n → KnownAt words k n
known words ok k h e = subst (KnownAt words k) e (known_of words k (node_view words ok k h))

-- what the form of a node with a move of its own tells
pub is_itself :
    {words : List ℕ} {k : ℕ} {st : List ℕ} {f : Front} → Sight words k st f → f.form ≡ itself →
    (own st ≡ 0) × MovesItself (kind words k)
is_itself (sees_nothing e r) q = absurd (omega (arith, e, q))
is_itself (sees_itself e o m) q = (o, m)
is_itself (sees_alone e i) q = absurd (omega (arith, alone_within e, q))
is_itself (sees_before e o p i r) q = absurd (omega (arith, e, q))
is_itself (sees_watched e x i r) q = absurd (omega (arith, e, q))
is_itself (sees_guarded e x a i r) q = absurd (omega (arith, e, q))
is_itself (sees_beside e o g p i j r) q = absurd (omega (arith, beside_above e, q))

-- assignments and emissions
pub writer_is : (kind : ℕ) → has_write kind ≡ true → IsWriter kind
writer_is kind e =
    elim (ℕ_discrete kind 1) [
      | yes q ↦ inl q
      | no n ↦ inr (eqb-true kind 6 (rw (ne_eqb kind 1 n) at e))
    ]

-- let, if, while and local are left
pub is_silent : {kind : ℕ} → MovesItself kind → has_write kind ≡ false → IsSilent kind
is_silent {kind} m e =
    let a : kind ≡ 1 → ⊥ = λ q. true≢false (sym (ap has_write q) ∙ e) in
    let b : kind ≡ 6 → ⊥ = λ q. true≢false (sym (ap has_write q) ∙ e) in
    elim (ℕ_discrete kind 2) [
      | yes e ↦ inl e
      | no c ↦
          elim (ℕ_discrete kind 3) [
            | yes e ↦ inr (inl e)
            | no d ↦
                elim (ℕ_discrete kind 4) [
                  | yes e ↦ inr (inr (inl e))
                  | no f ↦ inr (inr (inr (m.others a c d f b)))
                ]
          ]
    ]

-- a node whose own move is next is neither nil nor suspended
live_of :
    (words : List ℕ) (k : ℕ) (st : List ℕ) (vs : List ℤ) → own st ≡ 0 → MovesItself (kind words k) → NodeView words k →
    Live (residual_of words k st) vs
unfolding residual suspended is_nil
live_of words k st vs z m (a_nil e q) = absurd (not_itself m e (inl refl))
live_of words k st vs z m (an_assign e q x y) = rw (q, z) (record { some = refl; moving = refl })
live_of words k st vs z m (a_let e q x y w) = rw (q, z) (record { some = refl; moving = refl })
live_of words k st vs z m (an_if e q x y w) = rw (q, z) (record { some = refl; moving = refl })
live_of words k st vs z m (a_while e q x y) = rw (q, z) (record { some = refl; moving = refl })
live_of words k st vs z m (a_sequence e q x y) = absurd (not_itself m e (inr (inl refl)))
live_of words k st vs z m (an_emit e q x) = rw (q, z) (record { some = refl; moving = refl })
live_of words k st vs z m (a_local e q x y) = rw (q, z) (record { some = refl; moving = refl })
live_of words k st vs z m (a_watching e q x y g) = absurd (not_itself m e (inr (inr (omega arith))))
live_of words k st vs z m (a_when e q x y l) = absurd (not_itself m e (inr (inr (omega arith))))
live_of words k st vs z m (a_parallel e q x y) = absurd (not_itself m e (inr (inr (omega arith))))

-- a part keeps its bytes when the node's own is set
first_set : (st : List ℕ) (v : ℕ) (p : Proc ℕ) → first_of p (set st 0 v) ≡ first_of p st
first_set st v p = ap (take (size p)) (drop-set-lt 1 st 0 v (omega arith))

second_set : (st : List ℕ) (v : ℕ) (p : Proc ℕ) → second_of p (set st 0 v) ≡ second_of p st
second_set st v p = drop-set-lt (suc (size p)) st 0 v (omega arith)

module _ {words : List ℕ} {k : ℕ} {st : List ℕ} {vs : List ℤ} where
  pub itself_live : Valued words vs → At words k st → own st ≡ 0 → MovesItself (kind words k) → Live (residual_of words k st) vs
  itself_live v at z m = live_of words k st vs z m (node_view words v.runnable k at.known)

  -- what is known of a node that is as it is written, and its own byte when it is set
  pub fields : {n : ℕ} → Unmoved words k st vs n → KnownAt words k n
  fields u = known words u.valued.runnable k u.node.known u.kind

  own_set : {n : ℕ} → Unmoved words k st vs n → (v : ℕ) → own (set st 0 v) ≡ v
  own_set u = own_set_at st (some_bytes u.node)

  pub let_moves :
      Unmoved words k st vs 2 →
      Silent (residual_of words k st) vs (residual_of words k (set st 0 1))
      (set vs (a words k) (value (expression_of words (b words k)) vs))
  unfolding residual suspended move is_nil
  let_moves u =
      rw ((fields u).0, u.clear, own_set u 1, first_set st 1 (one words k)) (record { some = refl; moving = refl }, refl)

  pub local_moves :
      Unmoved words k st vs 7 → Silent (residual_of words k st) vs (residual_of words k (set st 0 1)) (set vs (a words k) (pos 0))
  unfolding residual suspended move is_nil
  local_moves u =
      rw ((fields u).0, u.clear, own_set u 1, first_set st 1 (one words k)) (record { some = refl; moving = refl }, refl)

  pub then_moves :
      Unmoved words k st vs 3 → test (expression_of words (a words k)) vs ≡ true →
      Silent (residual_of words k st) vs (residual_of words k (set st 0 1)) vs
  unfolding residual suspended move is_nil
  then_moves u t =
      rw ((fields u).0, u.clear, own_set u 1, first_set st 1 (one words k), t) (record { some = refl; moving = refl }, refl)

  pub else_moves :
      Unmoved words k st vs 3 → test (expression_of words (a words k)) vs ≡ false →
      Silent (residual_of words k st) vs (residual_of words k (set st 0 2)) vs
  unfolding residual suspended move is_nil
  else_moves u t =
      rw ((fields u).0, u.clear, own_set u 2, second_set st 2 (one words k), t) (record { some = refl; moving = refl }, refl)

  module _ (u : Unmoved words k st vs 4) where
    pub done_moves :
        test (expression_of words (a words k)) vs ≡ false → Silent (residual_of words k st) vs (residual_of words k (set st 0 4)) vs
    unfolding residual suspended move is_nil
    done_moves t = rw ((fields u).0, u.clear, own_set u 4, t) (record { some = refl; moving = refl }, refl)

    -- a loop's next round: its byte is set, and the bytes of its body are cleared
    abbrev count : ℕ
    count = length (take (length (set st 0 1) - 1) (drop 1 (set st 0 1)))

    long : length (set st 0 1) ≡ suc (size (one words k))
    unfolding counted
    long = length-set st 0 1 ∙ u.node.whole ∙ ap size (fields u).0

    count_is : count ≡ size (one words k)
    count_is =
        length-take-le (length (set st 0 1) - 1) (drop 1 (set st 0 1)) (rw length-drop (omega arith)) ∙ omega (arith, long)

    module _ (zs : List ℕ) (clear : zs ≡ replicate count 0) where
      abbrev cleared : List ℕ
      cleared = put_mid 1 (length (set st 0 1) - 1) (set st 0 1) zs

      zeros_long : length zs ≡ size (one words k)
      zeros_long = ap length clear ∙ length-replicate _ 0 ∙ count_is

      pub cleared_long : length cleared ≡ length st
      cleared_long =
          length_put 1 (length (set st 0 1) - 1) (set st 0 1) zs (omega (arith, long)) (omega (arith, long, zeros_long))
          ∙ length-set st 0 1

      fresh_body : residual (one words k) (first_of (one words k) cleared) ≡ (one words k)
      fresh_body =
          ap (residual (one words k))
          (first_put (size (one words k)) (length (set st 0 1)) long (set st 0 1) zs (omega arith) zeros_long ∙ clear)
          ∙ zeros (one words k) count (omega (arith, count_is))

      own_cleared : own cleared ≡ 1
      own_cleared = own_put 1 (length (set st 0 1) - 1) (set st 0 1) zs (omega arith) (omega (arith, long)) ∙ own_set u 1

      pub round_moves :
          test (expression_of words (a words k)) vs ≡ true → Silent (residual_of words k st) vs (residual_of words k cleared) vs
      unfolding residual suspended move is_nil
      round_moves t =
          rw ((fields u).0, u.clear, own_cleared, t, fresh_body) (record { some = refl; moving = refl }, refl)

-- what an assignment and an emission give their name
module _ {words : List ℕ} {k : ℕ} {vs : List ℤ} {n : ℕ} (w : WriterAt words k vs n) where
  pub writer_fields : {m : ℕ} → n ≡ m → KnownAt words k m
  writer_fields e = known words w.valued.runnable k w.known (w.kind ∙ e)

  pub name_known : a words k < name_count words
  name_known = ⊎_elim (λ e. (writer_fields {m = 1} e).1.0) (λ e. (writer_fields {m = 6} e).1) w.writer

  pub assign_writes : n ≡ 1 → Written words k vs (value (expression_of words (b words k)) vs)
  unfolding residual suspended move is_nil called_at
  assign_writes e st some z =
      rw (w.kind ∙ e, (writer_fields e).0, z)
      (record {
        live = record { some = refl; moving = refl };
        process = refl;
        values = refl;
        line = λ seen steps instants. rw (and-true (seen (a words k)));
      })

  pub emit_writes : n ≡ 6 → Written words k vs (pos 1)
  unfolding residual suspended move is_nil called_at
  emit_writes e st some z =
      rw (w.kind ∙ e, (writer_fields e).0, z)
      (record {
        live = record { some = refl; moving = refl };
        process = refl;
        values = refl;
        line = λ seen steps instants. refl;
      })
