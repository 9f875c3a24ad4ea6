-- In the script of a checked file no name is declared twice: a declaration is its name's owner, and a node lies under one
-- child of its parent only.
use mathlib.Core.Path.{◌≡◌, sym, subst}
use mathlib.Core.Bool.{Bool, true}
use mathlib.Core.List.{List}
use mathlib.Core.Logic.{◌⊎◌, inl, inr, ⊎_elim}
use Prim.Native.Nat.{ℕ, zero, suc, ◌-◌, ◌<◌}
use native.Mathlib.Nat.{not-suc-le-zero}
use native.Mathlib.Decide.{ℕ_discrete}
use native.Mathlib.Omega.{arith}
use Rattle.language.specs.NameKinds.{Kind, var, sig, same}
use Rattle.language.specs.Scope.{Declared, Apart, Once}
use Rattle.language.proofs.NameKinds.{same_number}
use Rattle.layout.specs.Layout.{layout_of, name_count, node_count, part_count}
use Rattle.layout.specs.Entries.{name_of, node}
use Rattle.layout.proofs.Layouts.{few_bounds}
use Rattle.scope.specs.Reach.{lies_in}
use Rattle.scope.specs.Promises.{FieldUses}
use Rattle.script.specs.Checked.{Checked}
use Rattle.scope.proofs.Joining.{used_once}
use Rattle.scope.proofs.Reaching.{lies_self, lies_deeper, lies_cases, lies_below, lies_up}
use Rattle.tree.specs.Tree.{process_of}
use Rattle.tree.specs.Results.{TreeNamed}
use Rattle.tree.proofs.Scoping.{tree_session}
use Rattle.tree.proofs.Views.{NewName, UsesNode, NodeView, a_nil, an_assign, a_let, an_if, a_while, a_sequence, an_emit, a_local, a_watching, a_when, a_parallel, node_view}

module _ (s : List ℕ) (ok : Checked s) where
  -- a part does not lie in one that it uses
  not_inside : {p f u : ℕ} → FieldUses s p f u → lies_in s p u ≡ true → ⊥
  not_inside {p} {f} {u} c t = omega (arith, c.before, lies_below s p u (omega (arith, c.before, c.known)) t)

  -- nor does one that it uses lie in another
  siblings : {p f g u v : ℕ} → (f ≡ g → ⊥) → FieldUses s p f u → FieldUses s p g v → lies_in s v u ≡ true → ⊥
  siblings {p} {f} {g} {u} {v} ne c d t =
      not_inside c
      (lies_up s ok.joined d u (omega (arith, c.before, c.known)) t
      (λ e. ne (sym (used_once s ok.joined d (subst (FieldUses s p f) (sym e) c)).1)))

  -- two parts in which a third lies: one lies in the other
  one_in_other :
      (n a b d : ℕ) → a < n → a < part_count s → b < part_count s → lies_in s d a ≡ true → lies_in s d b ≡ true →
      (lies_in s b a ≡ true) ⊎ (lies_in s a b ≡ true)
  one_in_other zero a b d l ha hb u w = absurd (not-suc-le-zero l)
  one_in_other (suc n) a b d l ha hb u w =
      lies_cases s d a ha u
      (λ e. inr (subst (λ z. lies_in s z b ≡ true) e w))
      (λ f c v t.
      ⊎_elim
      (λ x. inl (lies_deeper s b v x))
      (λ x.
      elim (ℕ_discrete c b) [
        | yes e ↦ inl (lies_deeper s b v (subst (λ z. lies_in s z c ≡ true) e (lies_self s c)))
        | no ne ↦ inr (lies_up s ok.joined v b hb x ne)
      ])
      (one_in_other n c b d (omega (arith, v.before, l)) (omega (arith, v.before, ha)) hb t w))

  -- those that two fields use have no part in common
  apart_at :
      {p f g u v : ℕ} (q : ℕ) → (f ≡ g → ⊥) → FieldUses s p f u → FieldUses s p g v → lies_in s q u ≡ true →
      lies_in s q v ≡ true → ⊥
  apart_at {u = u} {v = v} q ne c d a b =
      ⊎_elim (siblings ne c d) (siblings (λ e. ne (sym e)) d c)
      (one_in_other (suc u) u v q (omega arith) (omega (arith, c.before, c.known)) (omega (arith, d.before, d.known)) a b)

  -- the owner of a name that a process declares lies in its node
  pub record Owned (k y : ℕ) : Type 0 where
    pub known : y < name_count s
    pub lies : lies_in s (node s (name_of s y).owner) (node s k) ≡ true

  owned_here : {k x kind : ℕ} (j : Kind) (i : Kind) (y : ℕ) → NewName s (node s k) x kind → same j x i y ≡ true →
      Owned k y
  owned_here {k} {x} j i y u e =
      subst (Owned k) (same_number j x i y e)
      (record {
        known = u.known;
        lies = subst (λ q. lies_in s q (node s k) ≡ true) (sym u.own) (lies_self s (node s k));
      })

  owned_in : {k f j y : ℕ} {new : ℕ → Bool} → UsesNode s k f j new → Owned j y → Owned k y
  owned_in {y = y} c o = record { known = o.known; lies = lies_deeper s (node s (name_of s y).owner) c.field o.lies }

  abbrev DeclaredIn : ℕ → Type 0
  DeclaredIn k = (i : Kind) (y : ℕ) → Declared i y (process_of s k) → Owned k y

  declared_view :
      (k : ℕ) → k < node_count s → ((j : ℕ) → j < k → DeclaredIn j) → NodeView s k → DeclaredIn k
  declared_view k h go (a_nil e q) i y d = absurd (rw q at d)
  declared_view k h go (an_assign e q x z) i y d = absurd (rw q at d)
  declared_view k h go (a_let e q x z p) i y d =
      ⊎_elim (owned_here var i y x) (λ b. owned_in p (go _ p.before i y b)) (rw q at d)
  declared_view k h go (an_if e q z p r) i y d =
      ⊎_elim (λ b. owned_in p (go _ p.before i y b)) (λ b. owned_in r (go _ r.before i y b)) (rw q at d)
  declared_view k h go (a_while e q z p) i y d = owned_in p (go _ p.before i y (rw q at d))
  declared_view k h go (a_sequence e q p r) i y d =
      ⊎_elim (λ b. owned_in p (go _ p.before i y b)) (λ b. owned_in r (go _ r.before i y b)) (rw q at d)
  declared_view k h go (an_emit e q x) i y d = absurd (rw q at d)
  declared_view k h go (a_local e q x p) i y d =
      ⊎_elim (owned_here sig i y x) (λ b. owned_in p (go _ p.before i y b)) (rw q at d)
  declared_view k h go (a_watching e q x p) i y d = owned_in p (go _ p.before i y (rw q at d))
  declared_view k h go (a_when e q x p) i y d = owned_in p (go _ p.before i y (rw q at d))
  declared_view k h go (a_parallel e q p r) i y d =
      ⊎_elim (λ b. owned_in p (go _ p.before i y b)) (λ b. owned_in r (go _ r.before i y b)) (rw q at d)

  declared_in : (n k : ℕ) → k < n → k < node_count s → DeclaredIn k
  declared_in zero k l h = absurd (not-suc-le-zero l)
  declared_in (suc n) k l h =
      declared_view k h (λ j b. declared_in n j (omega arith) (omega arith)) (node_view s ok k h)

  declared_at : (k : ℕ) → k < node_count s → DeclaredIn k
  declared_at k h = declared_in (suc k) k (omega arith) h

  module _ {k : ℕ} (h : k < node_count s) where
    -- what a node declares is not declared in its child
    new_here :
        {x kind f j : ℕ} {new : ℕ → Bool} (i : Kind) → NewName s (node s k) x kind → UsesNode s k f j new →
        Declared i x (process_of s j) → ⊥
    new_here {j = j} i u c d =
        not_inside c.field
        (subst (λ q. lies_in s q (node s j) ≡ true) u.own (declared_at j (omega (arith, c.before)) i _ d).lies)

    -- nor are names declared in two children
    both_apart :
        {f g i j : ℕ} {new other : ℕ → Bool} → (f ≡ g → ⊥) → UsesNode s k f i new → UsesNode s k g j other →
        Apart (process_of s i) (process_of s j)
    both_apart {i = i} {j = j} ne c d κ y a b =
        apart_at (node s (name_of s y).owner) ne c.field d.field
        (declared_at i (omega (arith, c.before)) κ y a).lies
        (declared_at j (omega (arith, d.before)) κ y b).lies

  once_view : (k : ℕ) → k < node_count s → ((j : ℕ) → j < k → Once (process_of s j)) → NodeView s k → Once (process_of s k)
  once_view k h go (a_nil e q) = rw q tt
  once_view k h go (an_assign e q x z) = rw q tt
  once_view k h go (a_let e q x z p) = rw q (new_here h var x p, go _ p.before)
  once_view k h go (an_if e q z p r) =
      rw q (both_apart h (λ z. omega (arith, z)) p r, go _ p.before, go _ r.before)
  once_view k h go (a_while e q z p) = rw q (go _ p.before)
  once_view k h go (a_sequence e q p r) =
      rw q (both_apart h (λ z. omega (arith, z)) p r, go _ p.before, go _ r.before)
  once_view k h go (an_emit e q x) = rw q tt
  once_view k h go (a_local e q x p) = rw q (new_here h sig x p, go _ p.before)
  once_view k h go (a_watching e q x p) = rw q (go _ p.before)
  once_view k h go (a_when e q x p) = rw q (go _ p.before)
  once_view k h go (a_parallel e q p r) =
      rw q (both_apart h (λ z. omega (arith, z)) p r, go _ p.before, go _ r.before)

  once_in : (n k : ℕ) → k < n → k < node_count s → Once (process_of s k)
  once_in zero k l h = absurd (not-suc-le-zero l)
  once_in (suc n) k l h = once_view k h (λ j b. once_in n j (omega arith) (omega arith)) (node_view s ok k h)

  last : node_count s - 1 < node_count s
  last = omega (arith, (few_bounds (layout_of s) ok.laid.few).1.1.0)

  pub tree_named : TreeNamed s
  tree_named =
      record {
        scoped = tree_session s ok;
        once = once_in (node_count s) (node_count s - 1) last last;
        declared = λ k y d. (declared_at (node_count s - 1) last k y d).known;
      }
