-- How many nodes of a checked file's processes have a kind with a test: a node's own and those of its children. No process
-- has more of them than there are up to its node's place, and the script has all of them, since each part is used once.
use mathlib.Core.Path.{◌≡◌, refl, sym, ap, ap₂, ◌∙◌, subst}
use mathlib.Core.Bool.{Bool, true, false, cond, true≢false}
use mathlib.Core.List.{List}
use Prim.Native.Nat.{ℕ, zero, suc, ◌+◌, ◌-◌, ◌*◌, ◌≤◌, ◌<◌}
use native.Mathlib.Nat.{zero-mul, one-mul, add-zero, le_trans, le_of_eq, mul-le-mul_right}
use native.Mathlib.Decide.{dec_lt}
use native.Mathlib.Omega.{arith}
use lib.Dec.{eqb, ltb}
use borrow.Author.Tests.{lt-ltb, le-ltb, ne_eqb, ltb-true, ltb-false}
use Rattle.prelude.specs.Search.{count, total}
use Rattle.prelude.proofs.Bools.{and_left, by_cases}
use Rattle.prelude.proofs.Totals.{total_none, total_more, total_nothing, total_same, total_below, total_both, total_longer, total_exchanged, total_by_value}
use Rattle.prelude.proofs.Counts.{count_none, count_more}
use Rattle.layout.specs.Layout.{most_parts, layout_of, expression_count, node_count, part_count}
use Rattle.layout.specs.Entries.{part_of, node, nodes_with}
use Rattle.layout.proofs.Layouts.{few_bounds, few_parts}
use Rattle.fields.specs.declared.roles.Role.TheVariants.{Expression, Child}
use Rattle.fields.specs.Roles.{node_rows, role_in, is_child}
use Rattle.fields.proofs.RoleTests.{child_lem}
use Rattle.fields.specs.Fields.{field_count, field_of, value_of}
use Rattle.entries.specs.Faults.{field_is_right}
use Rattle.entries.proofs.Holding.{holds_expression, holds_child_lem, right_field}
use Rattle.uses.specs.Uses.{used_by, used, times_in, times_used}
use Rattle.uses.proofs.Used.{used_of, used_child, used_by_role}
use Rattle.script.specs.Checked.{Checked}
use Rattle.scope.proofs.Joining.{field_uses}
use Rattle.language.specs.NodeCounts.{counted}
use Rattle.tree.specs.Tree.{process_of, tree}
use Rattle.tree.proofs.Views.{NodeView, a_nil, an_assign, a_let, an_if, a_while, a_sequence, an_emit, a_local, a_watching, a_when, a_parallel, node_view, role}

one_own : (t : Bool) {a b : ℕ} → a ≡ b → cond t (suc a) a ≡ cond t 1 0 + b
one_own true h = omega (arith, h)
one_own false h = omega (arith, h)

module _ (s : List ℕ) (ok : Checked s) (test : ℕ → Bool) where
  -- of node k itself, and of its process
  abbrev own : ℕ → ℕ
  own k = cond (test (part_of s (node s k)).kind) 1 0

  abbrev node_counted : ℕ → ℕ
  node_counted k = counted (process_of s k) test

  abbrev pub added_by : ℕ → ℕ → ℕ
  added_by q f = cond (is_child (field_of s q f).role) (node_counted (field_of s q f).value) 0

  module _ (k : ℕ) (h : k < node_count s) where
    abbrev row : ℕ → ℕ → ℕ
    row n f = cond (is_child (role_in node_rows n f)) (node_counted (value_of s (node s k) f)) 0

    rows : (n : ℕ) → (part_of s (node s k)).kind ≡ n → (f : ℕ) → added_by (node s k) f ≡ row n f
    rows n e f = ap (λ r. cond (is_child r) (node_counted (value_of s (node s k) f)) 0) (role s ok k h n e f)

    by_row : (n : ℕ) → (part_of s (node s k)).kind ≡ n → 0 + row n 0 + row n 1 + row n 2 ≡ total (added_by (node s k)) field_count
    unfolding total
    by_row n e = sym (total_same (added_by (node s k)) (row n) field_count (λ f l. rows n e f))

    -- the node of this kind and what its children have
    with_own :
        (n : ℕ) → (part_of s (node s k)).kind ≡ n → {a b : ℕ} → a ≡ b → cond (test n) (suc a) a ≡ own k + b
    with_own n e {b = b} h = one_own (test n) h ∙ ap (λ m. cond (test m) 1 0 + b) (sym e)

    counted_view : NodeView s k → node_counted k ≡ own k + total (added_by (node s k)) field_count
    unfolding counted
    counted_view (a_nil e q) = ap (λ z. counted z test) q ∙ with_own 0 e (by_row 0 e)
    counted_view (an_assign e q x y) = ap (λ z. counted z test) q ∙ with_own 1 e (by_row 1 e)
    counted_view (a_let e q x y p) = ap (λ z. counted z test) q ∙ with_own 2 e (omega arith ∙ by_row 2 e)
    counted_view (an_if e q y p r) = ap (λ z. counted z test) q ∙ with_own 3 e (omega arith ∙ by_row 3 e)
    counted_view (a_while e q y p) = ap (λ z. counted z test) q ∙ with_own 4 e (omega arith ∙ by_row 4 e)
    counted_view (a_sequence e q p r) = ap (λ z. counted z test) q ∙ with_own 5 e (omega arith ∙ by_row 5 e)
    counted_view (an_emit e q x) = ap (λ z. counted z test) q ∙ with_own 6 e (by_row 6 e)
    counted_view (a_local e q x p) = ap (λ z. counted z test) q ∙ with_own 7 e (omega arith ∙ by_row 7 e)
    counted_view (a_watching e q x p) = ap (λ z. counted z test) q ∙ with_own 8 e (omega arith ∙ by_row 8 e)
    counted_view (a_when e q x p) = ap (λ z. counted z test) q ∙ with_own 9 e (omega arith ∙ by_row 9 e)
    counted_view (a_parallel e q p r) = ap (λ z. counted z test) q ∙ with_own 10 e (omega arith ∙ by_row 10 e)

    pub counted_of : node_counted k ≡ own k + total (added_by (node s k)) field_count
    counted_of = counted_view (node_view s ok k h)

  abbrev E : ℕ
  E = expression_count s

  -- of a part itself, and of what lies in it: an expression has no node
  abbrev part_own : ℕ → ℕ
  part_own q = cond (ltb q E) 0 (own (q - E))

  abbrev part_counted : ℕ → ℕ
  part_counted q = cond (ltb q E) 0 (node_counted (q - E))

  counted_at : (k : ℕ) → part_counted (node s k) ≡ node_counted k
  counted_at k =
      let e : node s k - E ≡ k = omega arith in
      rw (le-ltb (node s k) E (omega arith), e)

  expression_counted : (q : ℕ) → q < E → part_counted q ≡ 0
  expression_counted q h = rw (lt-ltb q E h)

  -- what a part weighs among those below n
  abbrev weight : ℕ → ℕ → ℕ
  weight n u = cond (ltb u n) (part_counted u) 0

  -- a field adds what lies in the part that it uses
  module _ (q f : ℕ) (l : f < field_count) (h : q < part_count s) where
    right : field_is_right s q (field_of s q f) ≡ true
    right = right_field s ok.joined.sound q f h l

    pub child_below : (field_of s q f).role ≡ Child → node s (field_of s q f).value < q
    child_below e = ltb-true _ _ (sym (holds_child_lem s q (field_of s q f) e) ∙ right)

    added_used : (n : ℕ) → q < n → n ≤ part_count s → added_by q f ≡ weight n (used s q f)
    added_used n a b =
        subst (λ u. added_by q f ≡ weight n u) (sym (used_of s q f))
        (by_cases (λ v. v ≡ weight n (used_by E (field_of s q f))) (is_child (field_of s q f).role)
        (λ t.
        let e = child_lem (field_of s q f).role t in
        let v : ℕ = node s (field_of s q f).value in
        sym (counted_at (field_of s q f).value)
        ∙ sym (ap (λ b. cond b (part_counted v) 0) (lt-ltb v n (omega (arith, child_below e))))
        ∙ ap (weight n) (sym (used_child E (field_of s q f) e)))
        (λ t. sym (used_by_role (λ u. weight n u ≡ 0) E (field_of s q f) operand (λ e. absurd (no_child t e)) none)))
      where
        none : weight n most_parts ≡ 0
        none = ap (λ b. cond b (part_counted most_parts) 0) (le-ltb most_parts n (omega (arith, b, few_parts ok.laid)))

        no_child : is_child (field_of s q f).role ≡ false → (field_of s q f).role ≡ Child → ⊥
        no_child t e = true≢false (ap is_child (sym e) ∙ t)

        operand : (field_of s q f).role ≡ Expression → weight n (field_of s q f).value ≡ 0
        operand u =
            let v : ℕ = (field_of s q f).value in
            let g = sym (holds_expression s q (field_of s q f) u) ∙ right in
            by_cases (λ m. m ≡ 0) (ltb v n) (λ _. expression_counted v (ltb-true v E (and_left (ltb v E) (ltb v q) g)))
            (λ _. refl)

  -- what a part has: its own and its fields'
  part_counted_lem : (q : ℕ) → q < part_count s → part_counted q ≡ part_own q + total (added_by q) field_count
  part_counted_lem q h =
      elim (dec_lt q E) [
        | yes l ↦
            expression_counted q l
            ∙ sym
            (ap₂ (λ b n. cond b 0 (own (q - E)) + n) (lt-ltb q E l)
            (total_nothing (added_by q) field_count
            (λ f u.
            by_cases (λ n. n ≡ 0) (is_child (field_of s q f).role)
            (λ t. absurd (omega (arith, child_below q f u h (child_lem (field_of s q f).role t)))) (λ _. refl))))
        | no l ↦
            let e : node s (q - E) ≡ q = omega arith in
            let t = le-ltb q E (omega arith) in
            rw t (counted_of (q - E) (omega arith) ∙ ap (λ p. own (q - E) + total (added_by p) field_count) e)
      ]

  -- how many of the nodes below n it is
  abbrev up_to : ℕ → ℕ
  up_to n = count (λ k. test (part_of s (node s k)).kind) n

  nodes_below : (n : ℕ) → total part_own n ≡ up_to (n - E)
  unfolding count
  nodes_below zero = let e : 0 - E ≡ 0 = omega arith in total_none part_own ∙ sym (ap up_to e)
  nodes_below (suc n) =
      total_more part_own n
      ∙ by_cases (λ m. total part_own n + m ≡ up_to (suc n - E)) (ltb n E)
      (λ t. let e : suc n - E ≡ n - E = omega (arith, ltb-true n E t) in omega (arith, nodes_below n, ap up_to e))
      (λ t.
      let e : suc n - E ≡ n - E + 1 = omega (arith, ltb-false n E t) in
      omega (arith, nodes_below n, ap up_to e, count_more (λ k. test (part_of s (node s k)).kind) (n - E)))

  -- how often the first n parts use part q
  abbrev times : ℕ → ℕ → ℕ
  times n q = total (times_in s q) n

  total_counted : (n : ℕ) → n ≤ part_count s → total part_counted n ≡ up_to (n - E) + total (λ q. times n q * part_counted q) n
  total_counted n h =
      total_same part_counted (λ q. part_own q + total (added_by q) field_count) n (λ q l. part_counted_lem q (omega arith))
      ∙ total_both part_own (λ q. total (added_by q) field_count) n
      ∙ ap₂ (λ a b. a + b) (nodes_below n)
      (total_same (λ q. total (added_by q) field_count) (λ p. total (λ q. times_in s q p * part_counted q) n) n
      (λ p l.
      total_same (added_by p) (λ f. weight n (used s p f)) field_count
      (λ f u. added_used p f u (omega arith) n l h)
      ∙ total_by_value (used s p) part_counted field_count n)
      ∙ total_exchanged (λ p q. times_in s q p) part_counted n n)

  module _ (m : ℕ) (h : m < part_count s) where
    -- no part before uses a part
    not_used : times (suc m) m ≡ 0
    not_used =
        total_nothing (times_in s m) (suc m)
        (λ p l.
        count_none (λ f. eqb (used s p f) m) field_count
        (λ f u.
        ne_eqb (used s p f) m
        (λ e. omega (arith, (field_uses s ok.joined p f m (omega arith) u e (omega (arith, few_parts ok.laid))).before))))

    used_times : (q : ℕ) → q < m → times (suc m) q ≤ 1
    unfolding times_used
    used_times q l =
        le_trans (total_longer (times_in s q) (suc m) (part_count s) h) (le_of_eq (ok.joined.once q (omega arith)))

    up_to_lem : total (λ q. times (suc m) q * part_counted q) (suc m) ≡ total (λ q. times (suc m) q * part_counted q) m
    up_to_lem =
        total_more (λ q. times (suc m) q * part_counted q) m
        ∙ rw not_used (ap (λ n. total (λ q. times (suc m) q * part_counted q) m + n) (zero-mul (part_counted m)) ∙ add-zero _)

    part_within : part_counted m ≤ up_to (suc m - E)
    part_within =
        omega (
          arith,
          total_more part_counted m,
          total_counted (suc m) h,
          up_to_lem,
          total_below (λ q. times (suc m) q * part_counted q) part_counted m
              (λ q l. le_trans (mul-le-mul_right (part_counted q) (used_times q l)) (le_of_eq (one-mul (part_counted q)))),
        )

    last_part : suc m ≡ part_count s → part_counted m ≡ up_to (suc m - E)
    unfolding times_used
    last_part e =
        omega (
          arith,
          total_more part_counted m,
          total_counted (suc m) h,
          up_to_lem,
          total_same (λ q. times (suc m) q * part_counted q) part_counted m
              (λ q l.
              ap (λ n. n * part_counted q) (ap (total (times_in s q)) e ∙ ok.joined.once q (omega arith)) ∙ one-mul (part_counted q)),
        )

  pub counted_within : (k : ℕ) → k < node_count s → node_counted k ≤ up_to (suc k)
  counted_within k h =
      let e : suc (node s k) - E ≡ suc k = omega arith in
      omega (arith, counted_at k, part_within (node s k) (omega arith), ap up_to e)

  -- every node is in the script
  pub whole_counted : counted (tree s) test ≡ nodes_with s test
  whole_counted =
      let n = (few_bounds (layout_of s) ok.laid.few).1.1.0 in
      let e : suc (node s (node_count s - 1)) - E ≡ node_count s = omega (arith, n) in
      sym (counted_at (node_count s - 1))
      ∙ last_part (node s (node_count s - 1)) (omega (arith, n)) (omega (arith, n))
      ∙ ap up_to e
