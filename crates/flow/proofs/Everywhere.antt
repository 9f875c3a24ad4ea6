-- The needs of a script hold exactly when every node has its own; the first node whose need fails.
use mathlib.Core.Path.{◌≡◌, refl, sym, ap, ◌∙◌, subst}
use mathlib.Core.Bool.{Bool, true, false, not, ◌&&◌}
use mathlib.Core.List.{List}
use mathlib.Core.Logic.{⊎_elim}
use Prim.Native.Nat.{ℕ, zero, suc, ◌-◌, ◌<◌}
use native.Mathlib.Nat.{not-suc-le-zero}
use native.Mathlib.Decide.{dec_lt}
use native.Mathlib.Omega.{arith}
use lib.Dec.{eqb}
use borrow.Author.Tests.{eq-eqb, eqb-true, not-true, not-false}
use Rattle.prelude.proofs.Bools.{and_intro, and_left, and_right, same_truth, fails}
use Rattle.prelude.proofs.Searches.{first_is, first_none, first_at_end}
use Rattle.lattice.specs.Lattice.{Lattice}
use Rattle.language.specs.Levels.{needs}
use Rattle.layout.specs.Layout.{layout_of, node_count, part_count}
use Rattle.layout.specs.Entries.{part_of, node}
use Rattle.fields.specs.Children.{first_child, second_child, child_count}
use Rattle.tree.specs.Tree.{names_of, process_of, tree}
use Rattle.script.specs.Checked.{Checked}
use Rattle.layout.proofs.Layouts.{few_bounds, few_parts}
use Rattle.scope.specs.Reach.{lies_in}
use Rattle.scope.proofs.Reaching.{lies_last}
use Rattle.language.specs.KindGroups.{children_of}
use Rattle.flow.specs.Flow.{Smallest, FailsIn}
use Rattle.flow.specs.Needs.{need_at, first_failing}
use Rattle.flow.proofs.ByKind.{needs_of, needs_by_kind}
use Rattle.tree.proofs.Shapes.{Children, none, one, two, children}
use Rattle.flow.proofs.FailingNodes.{node_cases}

module _ (𝓛 : Lattice ℕ) (s : List ℕ) (ok : Checked s) where
  abbrev needs_at : ℕ → Bool
  needs_at k = needs 𝓛 (names_of s) (process_of s k)

  module _ (k : ℕ) where
    abbrev of_children : Bool
    of_children = needs_of 𝓛 (names_of s) (children_of (process_of s k))

    own_need_lem : needs_at k ≡ true → need_at 𝓛 s k ≡ true
    own_need_lem e = and_left (need_at 𝓛 s k) of_children (needs_by_kind 𝓛 (names_of s) (process_of s k) ∙ e)

    children_need : needs_at k ≡ true → of_children ≡ true
    children_need e = and_right (need_at 𝓛 s k) of_children (needs_by_kind 𝓛 (names_of s) (process_of s k) ∙ e)

    abbrev first : ℕ
    first = first_child (part_of s (node s k))

    abbrev second : ℕ
    second = second_child (part_of s (node s k))

    first_need :
        Children s k → 0 < child_count (part_of s (node s k)).kind → needs_at k ≡ true →
        (first < k) × (needs_at first ≡ true)
    first_need (none n q) h e = absurd (omega arith)
    first_need (one n q a) h e =
        (omega (arith, a.before), and_left (needs_at first) true (sym (ap (needs_of 𝓛 (names_of s)) q) ∙ children_need e))
    first_need (two n q a b) h e = (
      omega (arith, a.before),
      and_left (needs_at first) (needs_at second && true) (sym (ap (needs_of 𝓛 (names_of s)) q) ∙ children_need e),
    )

    second_need :
        Children s k → 1 < child_count (part_of s (node s k)).kind → needs_at k ≡ true →
        (second < k) × (needs_at second ≡ true)
    second_need (none n q) h e = absurd (omega arith)
    second_need (one n q a) h e = absurd (omega arith)
    second_need (two n q a b) h e = (
      omega (arith, b.before),
      and_left (needs_at second) true
          (and_right (needs_at first) (needs_at second && true) (sym (ap (needs_of 𝓛 (names_of s)) q) ∙ children_need e)),
    )

    -- what a node and its children need makes its process's needs
    all_needs :
        Children s k → need_at 𝓛 s k ≡ true → ((j : ℕ) → j < k → needs_at j ≡ true) → needs_at k ≡ true
    all_needs c own below =
        sym (needs_by_kind 𝓛 (names_of s) (process_of s k)) ∙ and_intro (need_at 𝓛 s k) of_children own (go c)
      where
        go : Children s k → of_children ≡ true
        go (none n q) = ap (needs_of 𝓛 (names_of s)) q
        go (one n q a) =
            ap (needs_of 𝓛 (names_of s)) q ∙ and_intro (needs_at first) true (below first (omega (arith, a.before))) refl
        go (two n q a b) =
            ap (needs_of 𝓛 (names_of s)) q
            ∙ and_intro (needs_at first) (needs_at second && true) (below first (omega (arith, a.before)))
            (and_intro (needs_at second) true (below second (omega (arith, b.before))) refl)

  need_in :
      (n k j : ℕ) → k < n → k < node_count s → lies_in s (node s j) (node s k) ≡ true → needs_at k ≡ true →
      need_at 𝓛 s j ≡ true
  need_in zero k j l h t e = absurd (not-suc-le-zero l)
  need_in (suc n) k j l h t e =
      ⊎_elim (λ same. ap (need_at 𝓛 s) (sym same) ∙ own_need_lem k e)
      (⊎_elim
      (λ c.
      let w = first_need k (children s ok k h) c.0 e in
      need_in n (first k) j (omega (arith, w.0)) (omega (arith, w.0)) c.1 w.1)
      (λ c.
      let w = second_need k (children s ok k h) c.0 e in
      need_in n (second k) j (omega (arith, w.0)) (omega (arith, w.0)) c.1 w.1))
      (node_cases s ok k h j t)

  last : node_count s - 1 < node_count s
  last = omega (arith, (few_bounds (layout_of s) ok.laid.few).1.1.0)

  -- every node lies in the last
  in_last : (j : ℕ) → j < node_count s → lies_in s (node s j) (node s (node_count s - 1)) ≡ true
  in_last j h =
      let e : part_count s - 1 ≡ node s (node_count s - 1) = omega arith in
      subst (λ p. lies_in s (node s j) p ≡ true) e
      (lies_last s ok.joined (few_parts ok.laid) (node s j) (omega arith))

  pub everywhere :
      needs 𝓛 (names_of s) (tree s) ≡ true → (k : ℕ) → k < node_count s → need_at 𝓛 s k ≡ true
  everywhere e k h = need_in (node_count s) (node_count s - 1) k last last (in_last k h) e

  module _ (all : (k : ℕ) → k < node_count s → need_at 𝓛 s k ≡ true) where
    enough_below : (n k : ℕ) → k < n → k < node_count s → needs_at k ≡ true
    enough_below zero k l h = absurd (not-suc-le-zero l)
    enough_below (suc n) k l h =
        all_needs k (children s ok k h) (all k h) (λ j b. enough_below n j (omega arith) (omega arith))

    pub enough : needs 𝓛 (names_of s) (tree s) ≡ true
    enough = enough_below (node_count s) (node_count s - 1) last last

  pub needs_first : needs 𝓛 (names_of s) (tree s) ≡ eqb (first_failing 𝓛 s) (node_count s)
  needs_first =
      same_truth _ _
      (λ e. eq-eqb _ _ (first_none (λ k. not (need_at 𝓛 s k)) (node_count s) (λ k h. ap not (everywhere e k h))))
      (λ e.
      enough
      (λ k h.
      not-false _ (first_at_end (λ k. not (need_at 𝓛 s k)) (node_count s) (eqb-true _ _ e) k h)))

  -- the smallest failing node in the last is the first of all
  pub failing_first : (r : ℕ) → Smallest (FailsIn 𝓛 s (node_count s - 1)) (node_count s) r → r ≡ first_failing 𝓛 s
  failing_first r w =
      elim (dec_lt r (node_count s)) [
        | yes l ↦
            sym (first_is (λ k. not (need_at 𝓛 s k)) (node_count s) r l (ap not (w.holds l).1) passed)
        | no l ↦
            let e : r ≡ node_count s = omega (arith, w.within) in
            e ∙ sym (first_none (λ k. not (need_at 𝓛 s k)) (node_count s) (λ k h. passed k (omega arith)))
      ]
    where
      passed : (k : ℕ) → k < r → not (need_at 𝓛 s k) ≡ false
      passed k h =
          fails (not (need_at 𝓛 s k))
          (λ e.
          omega (
            arith,
            w.least k (in_last k (omega (arith, w.within)), not-true (need_at 𝓛 s k) e),
          ))
