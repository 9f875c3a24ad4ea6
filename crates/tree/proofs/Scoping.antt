-- The tree of a checked file is scoped: at each part the names in reach are in scope.
use mathlib.Core.Path.{◌≡◌, refl, sym, ap, ◌∙◌, subst}
use mathlib.Core.Bool.{Bool, true, ◌||◌}
use mathlib.Core.List.{List}
use Prim.Native.Nat.{ℕ, zero, suc, ◌-◌, ◌<◌}
use native.Mathlib.Nat.{not-suc-le-zero}
use native.Mathlib.Omega.{arith}
use lib.Dec.{eqb}
use borrow.Author.Tests.{ne_eqb, lt-ltb}
use Rattle.prelude.proofs.Bools.{and_intro, or_cases, or_first, or-true}
use Rattle.language.specs.Syntax.{Exp, constant, register, binary, negated, Occurs, here, left, right, under}
use Rattle.language.specs.Scope.{RegisterIn, SignalIn, ReadsIn, Declares, Scoped}
use Rattle.layout.specs.Layout.{layout_of, name_count, expression_count, node_count}
use Rattle.layout.specs.Entries.{name_of, session, is_session, is_session_name, node}
use Rattle.layout.proofs.Layouts.{few_bounds}
use Rattle.scope.specs.Reach.{in_reach}
use Rattle.script.specs.Checked.{Checked}
use Rattle.scope.proofs.Reaching.{reach_last}
use Rattle.tree.specs.Tree.{names_of, expression_of, process_of, tree}
use Rattle.tree.proofs.Views.{UsesName, NewName, UsesPart, UsesExpression, UsesNode, ExpressionView, a_constant, a_register, a_binary, a_negated, NodeView, a_nil, an_assign, a_let, an_if, a_while, a_sequence, an_emit, a_local, a_watching, a_when, a_parallel, expression-view, node_view}

-- P of every register of an expression
abbrev EachRegister : (ℕ → Type 0) → Exp → Type 0
EachRegister P (constant v) = Unit {0}
EachRegister P (register x) = P x
EachRegister P (binary o a b) = EachRegister P a × EachRegister P b
EachRegister P (negated a) = EachRegister P a

occurs : (P : ℕ → Type 0) {x : ℕ} {e : Exp} → Occurs x e → EachRegister P e → P x
occurs P here r = r
occurs P (left o) r = occurs P o r.0
occurs P (right o) r = occurs P o r.1
occurs P (under o) r = occurs P o r

module _ (s : List ℕ) (ok : Checked s) where
  -- the names in reach in part q are in scope
  abbrev Covers : (ℕ → Bool) → ℕ → Type 0
  Covers scope q = (x : ℕ) → x < name_count s → in_reach s x q ≡ true → scope x ≡ true

  covers_part : {scope new : ℕ → Bool} {q p : ℕ} → UsesPart s q p new → Covers scope q → Covers (λ x. new x || scope x) p
  covers_part {scope} {new} u c x h e =
      or_cases (new x) _ (sym (u.reach x h) ∙ e) (or_first (new x) (scope x)) (λ r. or-true (new x) _ (c x h r))

  register_in : {scope : ℕ → Bool} {q x : ℕ} → Covers scope q → UsesName s q x 0 → RegisterIn (names_of s) scope x
  register_in c u = (c _ u.known u.reach, ap (λ k. eqb k 1) u.kinded)

  signal_in_lem : {scope : ℕ → Bool} {q x : ℕ} → Covers scope q → UsesName s q x 1 → SignalIn (names_of s) scope x
  signal_in_lem c u = (c _ u.known u.reach, ap (λ k. eqb k 1) u.kinded)

  module _ (scope : ℕ → Bool) where
    abbrev ReadsAll : ℕ → Type 0
    ReadsAll e = EachRegister (RegisterIn (names_of s) scope) (expression_of s e)

    reads_view :
        (e : ℕ) → Covers scope e → ((j : ℕ) → UsesExpression s e j → ReadsAll j) → ExpressionView s e → ReadsAll e
    reads_view e c go (a_constant k q) = subst (EachRegister (RegisterIn (names_of s) scope)) (sym q) tt
    reads_view e c go (a_register k q u) = subst (EachRegister (RegisterIn (names_of s) scope)) (sym q) (register_in c u)
    reads_view e c go (a_binary o k q u v) = subst (EachRegister (RegisterIn (names_of s) scope)) (sym q) (go _ u, go _ v)
    reads_view e c go (a_negated k q u) = subst (EachRegister (RegisterIn (names_of s) scope)) (sym q) (go _ u)

    reads_all : (n e : ℕ) → e < n → e < expression_count s → Covers scope e → ReadsAll e
    reads_all zero e h l c = absurd (not-suc-le-zero h)
    reads_all (suc n) e h l c =
        reads_view e c (λ j u. reads_all n j (omega (arith, u.part.before)) u.known (covers_part u.part c))
        (expression-view s ok e l)

    reads : {q e : ℕ} → Covers scope q → UsesExpression s q e → ReadsIn (names_of s) scope (expression_of s e)
    reads {q} {e} c u x o =
        occurs (RegisterIn (names_of s) scope) o
        (reads_all (suc e) e (omega arith) u.known (covers_part u.part c))

  abbrev ScopedNode : (ℕ → Bool) → ℕ → Type 0
  ScopedNode scope k = Scoped (names_of s) scope (process_of s k)

  -- the owner of a declared name is a node, so it is no session name
  declares :
      {k x kind : ℕ} → k < node_count s → NewName s (node s k) x kind →
      Declares (names_of s) (eqb kind 1) x (name_of s x).level
  declares {k} {x} h u =
      record {
        owned =
            ne_eqb (name_of s x).owner session
            (λ e. omega (arith, u.own, (few_bounds (layout_of s) ok.laid.few).1.1.1));
        kinded = ap (λ k. eqb k 1) u.kinded;
        carried = refl;
      }

  scoped_view :
      (scope : ℕ → Bool) (k : ℕ) → k < node_count s → Covers scope (node s k) →
      ((f j : ℕ) (new : ℕ → Bool) → UsesNode s k f j new → ScopedNode (λ x. new x || scope x) j) → NodeView s k →
      ScopedNode scope k
  scoped_view scope k h c go (a_nil n q) = subst (Scoped (names_of s) scope) (sym q) tt
  scoped_view scope k h c go (an_assign n q x e) =
      subst (Scoped (names_of s) scope) (sym q) (register_in c x, reads scope c e)
  scoped_view scope k h c go (a_let n q x e p) =
      subst (Scoped (names_of s) scope) (sym q) (declares h x, reads scope c e, go _ _ _ p)
  scoped_view scope k h c go (an_if n q e p r) =
      subst (Scoped (names_of s) scope) (sym q) (reads scope c e, go _ _ _ p, go _ _ _ r)
  scoped_view scope k h c go (a_while n q e p) = subst (Scoped (names_of s) scope) (sym q) (reads scope c e, go _ _ _ p)
  scoped_view scope k h c go (a_sequence n q p r) = subst (Scoped (names_of s) scope) (sym q) (go _ _ _ p, go _ _ _ r)
  scoped_view scope k h c go (an_emit n q x) = subst (Scoped (names_of s) scope) (sym q) (signal_in_lem c x)
  scoped_view scope k h c go (a_local n q x p) = subst (Scoped (names_of s) scope) (sym q) (declares h x, go _ _ _ p)
  scoped_view scope k h c go (a_watching n q x p) = subst (Scoped (names_of s) scope) (sym q) (signal_in_lem c x, go _ _ _ p)
  scoped_view scope k h c go (a_when n q x p) = subst (Scoped (names_of s) scope) (sym q) (signal_in_lem c x, go _ _ _ p)
  scoped_view scope k h c go (a_parallel n q p r) = subst (Scoped (names_of s) scope) (sym q) (go _ _ _ p, go _ _ _ r)

  scoped_node : (n k : ℕ) (scope : ℕ → Bool) → k < n → k < node_count s → Covers scope (node s k) → ScopedNode scope k
  scoped_node zero k scope l h c = absurd (not-suc-le-zero l)
  scoped_node (suc n) k scope l h c =
      scoped_view scope k h c
      (λ f j new u.
      scoped_node n j (λ x. new x || scope x) (omega (arith, u.before)) (omega (arith, u.before))
      (covers_part u.part c))
      (node_view s ok k h)

  -- in any scope that has the session's names
  tree_in : (scope : ℕ → Bool) → ((x : ℕ) → x < name_count s → is_session s x ≡ true → scope x ≡ true) → Scoped
      (names_of s) scope (tree s)
  tree_in scope all =
      let last : node_count s - 1 < node_count s = omega (arith, (few_bounds (layout_of s) ok.laid.few).1.1.0) in
      scoped_node (node_count s) (node_count s - 1) scope last last
      (λ x h e. all x h (sym (reach_last s ok.joined (node s (node_count s - 1)) x (omega arith) h) ∙ e))

  pub tree_scoped : Scoped (names_of s) (is_session s) (tree s)
  tree_scoped = tree_in (is_session s) (λ x h e. e)

  pub tree_session : Scoped (names_of s) (is_session_name s) (tree s)
  tree_session = tree_in (is_session_name s) (λ x h e. and_intro _ _ (lt-ltb x (name_count s) h) e)
