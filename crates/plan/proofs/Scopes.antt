-- A signal that a node uses is left alone by the nodes below: they declare no name that is in reach above them.
use mathlib.Core.Path.{◌≡◌, sym, ap, ◌∙◌, subst}
use mathlib.Core.Bool.{true, false, not}
use mathlib.Core.List.{List}
use Prim.Native.Nat.{ℕ, zero, suc, ◌<◌}
use native.Mathlib.Nat.{not-suc-le-zero}
use native.Mathlib.Omega.{arith}
use lib.Dec.{eqb}
use borrow.Author.Tests.{ne_eqb}
use Rattle.prelude.proofs.Bools.{and_intro, or_second}
use Rattle.language.specs.Shapes.{leaves_alone}
use Rattle.layout.specs.Layout.{layout_of, name_count, node_count}
use Rattle.layout.specs.Entries.{name_of, session, is_session, node}
use Rattle.scope.specs.Reach.{in_reach}
use Rattle.script.specs.Checked.{Checked}
use Rattle.tree.specs.Tree.{process_of}
use Rattle.layout.proofs.Layouts.{few_bounds}
use Rattle.scope.proofs.Reaching.{body_before}
use Rattle.tree.proofs.Views.{UsesName, NewName, NodeView, a_nil, an_assign, a_let, an_if, a_while, a_sequence, an_emit, a_local, a_watching, a_when, a_parallel, node_view}

module _ (s : List ℕ) (ok : Checked s) where
  -- an owned name is in reach in the body of its owner alone
  pub reach_below :
      (x k : ℕ) → x < name_count s → in_reach s x (node s k) ≡ true → is_session s x ≡ false → k < (name_of s x).owner
  reach_below x k h r n =
      omega (arith, body_before s ok.joined x h n (node s k) (sym (or_second (is_session s x) _ n) ∙ r))

  module _ (x k : ℕ) (u : UsesName s (node s k) x 1) (h : k < node_count s) where
    -- a register is no signal
    other_kind : (y : ℕ) → (name_of s y).kind ≡ 0 → not (eqb y x) ≡ true
    other_kind y e =
        ap not (ne_eqb y x (λ q. omega (arith, e, u.kinded, ap (λ z. (name_of s z).kind) q)))

    -- a node below that declares x owns it, so that x is not in reach above
    other_owner : (j y : ℕ) → j < k → NewName s (node s j) y 1 → not (eqb y x) ≡ true
    other_owner j y l n =
        ap not
        (ne_eqb y x
        (λ q.
        let o : node s (name_of s x).owner ≡ node s j = subst (λ z. node s (name_of s z).owner ≡ node s j) q n.own in
        omega (
          arith,
          o,
          reach_below x k u.known u.reach
              (ne_eqb (name_of s x).owner session (λ e. omega (arith, o, (few_bounds (layout_of s) ok.laid.few).1.1.1))),
        )))

    abbrev Alone : ℕ → Type 0
    Alone j = leaves_alone x (process_of s j) ≡ true

    alone_view : (j : ℕ) → j < k → ((i : ℕ) → i < j → Alone i) → NodeView s j → Alone j
    unfolding leaves_alone
    alone_view j l go (a_nil e q) = rw q
    alone_view j l go (an_assign e q y b) = rw q (other_kind _ y.kinded)
    alone_view j l go (a_let e q y b p) = rw q (and_intro (not (eqb _ x)) _ (other_kind _ y.kinded) (go _ p.before))
    alone_view j l go (an_if e q b p r) = rw q (and_intro (leaves_alone x (process_of s _)) _ (go _ p.before) (go _ r.before))
    alone_view j l go (a_while e q b p) = rw q (go _ p.before)
    alone_view j l go (a_sequence e q p r) = rw q (and_intro (leaves_alone x (process_of s _)) _ (go _ p.before) (go _ r.before))
    alone_view j l go (an_emit e q y) = rw q
    alone_view j l go (a_local e q y p) =
        rw q (and_intro (not (eqb _ x)) _ (other_owner j _ l y) (go _ p.before))
    alone_view j l go (a_watching e q y p) = rw q (go _ p.before)
    alone_view j l go (a_when e q y p) = rw q (go _ p.before)
    alone_view j l go (a_parallel e q p r) = rw q (and_intro (leaves_alone x (process_of s _)) _ (go _ p.before) (go _ r.before))

    alone_node : (n j : ℕ) → j < n → j < k → Alone j
    alone_node zero j l b = absurd (not-suc-le-zero l)
    alone_node (suc n) j l b =
        alone_view j b (λ i e. alone_node n i (omega arith) (omega arith)) (node_view s ok j (omega arith))

    pub alone_below : (j : ℕ) → j < k → leaves_alone x (process_of s j) ≡ true
    alone_below j l = alone_node (suc j) j (omega arith) l
