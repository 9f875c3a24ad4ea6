-- The words that are packed for a checked file are its program: they mean what the file means, and they can be run.
use mathlib.Core.Path.{◌≡◌, refl, sym, ap, ap₂, ◌∙◌, subst}
use mathlib.Core.Bool.{Bool, true, false, ◌||◌, false≢true}
use mathlib.Core.List.{List, [], ◌∷◌, ◌++◌}
use Prim.Native.Nat.{ℕ, zero, suc, ◌-◌, ◌≤◌, ◌<◌}
use native.Mathlib.Omega.{arith}
use lib.Dec.{eqb}
use lib.IntN.{pos}
use lib.ListN.{get_or, set}
use lib.Seq.{get_or-set_same}
use mir.Syntax.{w32}
use mir.Val.{to_z}
use Rattle.prelude.specs.Course.{course, entry}
use Rattle.language.specs.Syntax.{Exp, constant, Proc, nil, assign, while, sequence, emit, watching, when, parallel}
use Rattle.language.specs.NodeCounts.{size}
use Rattle.language.specs.Shapes.{watches, leaves_alone}
use Rattle.layout.specs.declared.Script.{Script}
use Rattle.layout.specs.declared.parts.Part.{Part}
use Rattle.layout.specs.Layout.{layout_of, name_count, expression_count, node_count}
use Rattle.layout.specs.Promises.{Laid}
use Rattle.layout.specs.Entries.{name_of, part_of, node}
use Rattle.layout.proofs.Layouts.{few_bounds, names_are, expressions_are, nodes_are}
use Rattle.fields.specs.Children.{first_child, second_child}
use Rattle.script.specs.Checked.{Checked}
use Rattle.tree.specs.Tree.{expressions_from, no_expression, expression_of, processes_from, process_of}
use Rattle.tree.proofs.Views.{code, code_range, ExpressionView, a_constant, a_register, a_binary, a_negated, expression-view, UsesName, NodeView, a_nil, an_assign, a_let, an_if, a_while, a_sequence, an_emit, a_local, a_watching, a_when, a_parallel, node_view}
use Rattle.tree.proofs.NodeSizes.{size_within, whole_size}
use Rattle.packing.specs.Packing.{kind_in, a_in, b_in, first_in, node_kind_in, level_in, signal_in, packed_counts}
use Rattle.program.specs.Program as program
use Rattle.program.specs.Program.{name_word, expression_word, node_word}
use Rattle.program.specs.Rows.{row_of}
use Rattle.program.specs.Runnable.{Holds, Leads, FirstPart, ExpressionRuns, NodeRuns}
use Rattle.plan.specs.Plan.{ExpressionPacked, NodePacked, Keeps, ProgramOf}
use Rattle.plan.proofs.Plans.{counts_kept}
use Rattle.plan.proofs.Scopes.{alone_below}

-- what is made alike of what went before is the same
module _ {A : Type 0} (f g : ℕ → List A → A) where
  course_same : (n : ℕ) → ((m : ℕ) → m < n → (l : List A) → f m l ≡ g m l) → course f n ≡ course g n
  unfolding course
  course_same zero h = refl
  course_same (suc n) h =
      let e = course_same n (λ m l. h m (omega arith)) in
      ap₂ (λ xs x. xs ++ (x ∷ [])) e (ap (f n) e ∙ h n (omega arith) (course g n))

  entry_same : (n : ℕ) → ((m : ℕ) → m ≤ n → (l : List A) → f m l ≡ g m l) → entry f n ≡ entry g n
  unfolding entry
  entry_same n h = ap (f n) (course_same n (λ m l. h m (omega arith))) ∙ h n (omega arith) (course g n)

-- an expression, by its word
module _ (s : List ℕ) (e w : ℕ) (x : ExpressionPacked s e w) where
  expression_made :
      (l : List Exp) →
      get_or (program.expressions_from w (λ j. get_or l j no_expression)) (kind_in w) no_expression
      ≡ get_or (expressions_from (part_of s e) (λ j. get_or l j no_expression)) (part_of s e).kind no_expression
  expression_made l = ap (λ n. get_or (program.expressions_from w (λ j. get_or l j no_expression)) n no_expression) x.kind ∙ by_kind (part_of s e).kind refl
    where
      by_kind :
          (n : ℕ) → (part_of s e).kind ≡ n →
          get_or (program.expressions_from w (λ j. get_or l j no_expression)) n no_expression
          ≡ get_or (expressions_from (part_of s e) (λ j. get_or l j no_expression)) n no_expression
      by_kind zero q = ap (λ v. constant (to_z w32 v)) (x.constant q)
      by_kind (suc n) q =
          ap₂ (λ a b. get_or (program.expressions_by (pos 0) a b (λ j. get_or l j no_expression)) (suc n) no_expression)
          (x.operand (λ z. omega (arith, z, q)))
          x.later

-- a file and its words, with the counts
pub record Packed (s : List ℕ) (sees : ℕ → Bool) (words : List ℕ) : Type 0 where
  pub names : program.name_count words ≡ name_count s
  pub expressions : program.expression_count words ≡ expression_count s
  pub nodes : program.node_count words ≡ node_count s
  pub keeps : Keeps s sees (name_count s) (expression_count s) (node_count s) words

pub packed :
    {s : List ℕ} {sees : ℕ → Bool} {words : List ℕ} (c : Script) → Laid s c →
    Keeps s sees c.names c.expressions c.nodes words →
    (w : ℕ) → w ≡ packed_counts c.names c.expressions c.nodes → Packed s sees (set words 0 w)
packed {s} {sees} {words} c laid keeps w e =
    let few = few_bounds c laid.few in
    let first : get_or (set words 0 w) 0 0 ≡ w = get_or-set_same words 0 w 0 (omega (arith, keeps.long)) in
    record {
      names = omega (arith, few, first, e, names_are laid);
      expressions = omega (arith, few, first, e, expressions_are laid);
      nodes = omega (arith, few, first, e, nodes_are laid);
      keeps = subst (λ (l : Script). Keeps s sees l.names l.expressions l.nodes (set words 0 w)) laid.same (counts_kept keeps w);
    }

module _ (s : List ℕ) (sees : ℕ → Bool) (words : List ℕ) (ok : Checked s) (made : Packed s sees words) where
  few_names_lem : name_count s ≤ 64
  few_names_lem = (few_bounds (layout_of s) ok.laid.few).0

  few_expressions_lem : expression_count s ≤ 256
  few_expressions_lem = (few_bounds (layout_of s) ok.laid.few).1.0

  few_nodes_lem : node_count s ≤ 256
  few_nodes_lem = (few_bounds (layout_of s) ok.laid.few).1.1.1

  expression_same : (e : ℕ) → e < expression_count s → program.expression_of words e ≡ expression_of s e
  unfolding program.expression_of expression_of
  expression_same e h =
      entry_same _ _ e (λ m l. expression_made s m (expression_word words m) (made.keeps.expression m (omega arith)))

  expression_runs : (e : ℕ) → e < expression_count s → ExpressionRuns words e
  expression_runs e h = view (expression-view s ok e h)
    where
      x : ExpressionPacked s e (expression_word words e)
      x = made.keeps.expression e h

      -- an expression of kind n, by what its fields hold
      runs :
          (n : ℕ) → (part_of s e).kind ≡ n → n < 9 → (n ≡ 1 → (part_of s e).a < name_count s) → (1 < n → (part_of s e).a < e) →
          (1 < n → n < 8 → (part_of s e).b < e) → ExpressionRuns words e
      runs n k few name first second =
          let kind : kind_in (expression_word words e) ≡ n = x.kind ∙ k in
          record {
            kind = omega (arith, few, kind);
            register =
                λ q. omega (arith, made.names, name (omega (arith, q, kind)), x.operand (λ z. omega (arith, k, z, q, kind)));
            first = λ l. omega (arith, first (omega (arith, l, kind)), x.operand (λ z. omega (arith, k, z, l, kind)));
            second = λ l m. omega (arith, second (omega (arith, l, kind)) (omega (arith, m, kind)), x.later);
          }

      view : ExpressionView s e → ExpressionRuns words e
      view (a_constant k v) =
          runs 0 k (omega arith) (λ q. absurd (omega (arith, q))) (λ l. absurd (omega (arith, l)))
          (λ l m. absurd (omega (arith, l)))
      view (a_register k v u) =
          runs 1 k (omega arith) (λ _. u.known) (λ l. absurd (omega (arith, l))) (λ l m. absurd (omega (arith, l)))
      view (a_binary o k v a b) =
          runs (code o) k (omega (arith, code_range o)) (λ q. absurd (omega (arith, q, code_range o))) (λ _. a.part.before)
          (λ _ _. b.part.before)
      view (a_negated k v a) =
          runs 8 k (omega arith) (λ q. absurd (omega (arith, q))) (λ _. a.part.before) (λ _ m. absurd (omega (arith, m)))

  -- node k, by its word
  module _ (k w : ℕ) (x : NodePacked s k w) (h : k < node_count s) where
    abbrev p : Part
    p = part_of s (node s k)

    name_is : p.a < name_count s → a_in w ≡ p.a
    name_is l = x.a (omega (arith, l, few_names_lem))

    tested_is : p.a < expression_count s → a_in w ≡ p.a
    tested_is l = x.a (omega (arith, l, few_expressions_lem))

    stored_is : p.kind ≤ 2 → p.b < expression_count s → b_in w ≡ p.b
    stored_is q l = x.b q (omega (arith, l, few_expressions_lem))

    -- the expressions that it has, and the level of its name
    tested : p.a < expression_count s → program.expression_of words (a_in w) ≡ expression_of s p.a
    tested l = ap (program.expression_of words) (tested_is l) ∙ expression_same p.a l

    stored : p.kind ≤ 2 → p.b < expression_count s → program.expression_of words (b_in w) ≡ expression_of s p.b
    stored q l = ap (program.expression_of words) (stored_is q l) ∙ expression_same p.b l

    level : p.a < name_count s → level_in (name_word words (a_in w)) ≡ (name_of s p.a).level
    level l = ap (λ y. level_in (name_word words y)) (name_is l) ∙ (made.keeps.name p.a l).level

    -- its children
    first_is : (j : ℕ) → first_child p ≡ j → j < k → first_in w ≡ j
    first_is j e l = x.first (omega (arith, e, l)) ∙ e

    second_is : (j : ℕ) → second_child p ≡ j → 2 < p.kind → j < k → b_in w ≡ j
    second_is j e q l = x.second q (omega (arith, e, l)) ∙ e

    process_made :
        (l : List (Proc ℕ)) →
        (row_of (node_kind_in w)).makes (program.fields_of words w (λ j. get_or l j nil))
        ≡ get_or (processes_from s p (λ j. get_or l j nil)) p.kind nil
    unfolding first_child second_child
    process_made l = view (node_view s ok k h)
      where
        ours : ℕ → Proc ℕ
        ours n = (row_of n).makes (program.fields_of words w (λ j. get_or l j nil))

        theirs : ℕ → Proc ℕ
        theirs n = get_or (processes_from s p (λ j. get_or l j nil)) n nil

        by_kind : (n : ℕ) → p.kind ≡ n → ours n ≡ theirs n → ours (node_kind_in w) ≡ theirs p.kind
        by_kind n e q = ap ours (x.kind ∙ e) ∙ q ∙ ap theirs (sym e)

        first_part : (j : ℕ) → first_child p ≡ j → j < k → get_or l (first_in w) nil ≡ get_or l j nil
        first_part j e b = ap (λ i. get_or l i nil) (first_is j e b)

        second_part : (j : ℕ) → second_child p ≡ j → 2 < p.kind → j < k → get_or l (b_in w) nil ≡ get_or l j nil
        second_part j e q b = ap (λ i. get_or l i nil) (second_is j e q b)

        view : NodeView s k → ours (node_kind_in w) ≡ theirs p.kind
        view (a_nil e q) = by_kind 0 e refl
        view (an_assign e q y z) = by_kind 1 e (ap₂ assign (name_is y.known) (stored (omega (arith, e)) z.known))
        view (a_let e q y z r) =
            by_kind 2 e
            (rw (level y.known, stored (omega (arith, e)) z.known, first_part p.c (rw e) r.before, name_is y.known))
        view (an_if e q z r t) =
            by_kind 3 e
            (rw (tested z.known, first_part p.b (rw e) r.before, second_part p.c (rw e) (omega (arith, e)) t.before))
        view (a_while e q z r) = by_kind 4 e (ap₂ while (tested z.known) (first_part p.b (rw e) r.before))
        view (a_sequence e q r t) =
            by_kind 5 e
            (ap₂ sequence (first_part p.a (rw e) r.before) (second_part p.b (rw e) (omega (arith, e)) t.before))
        view (an_emit e q y) = by_kind 6 e (ap emit (name_is y.known))
        view (a_local e q y r) =
            by_kind 7 e (rw (level y.known, first_part p.b (rw e) r.before, name_is y.known))
        view (a_watching e q y r) =
            by_kind 8 e (ap₂ watching (name_is y.known) (first_part p.b (rw e) r.before))
        view (a_when e q y r) = by_kind 9 e (ap₂ when (name_is y.known) (first_part p.b (rw e) r.before))
        view (a_parallel e q r t) =
            by_kind 10 e
            (ap₂ parallel (first_part p.a (rw e) r.before) (second_part p.b (rw e) (omega (arith, e)) t.before))

  process_same : (k : ℕ) → k < node_count s → program.process_of words k ≡ process_of s k
  unfolding program.process_of process_of
  process_same k h =
      entry_same _ _ k
      (λ m l. process_made m (node_word words m) (made.keeps.node m (omega arith)) (omega arith))

  node_runs : (k : ℕ) → k < node_count s → NodeRuns words k
  unfolding first_child second_child
  node_runs k h = view (node_view s ok k h)
    where
      w : ℕ
      w = node_word words k

      entry : Part
      entry = part_of s (node s k)

      x : NodePacked s k w
      x = made.keeps.node k h

      leads : (j : ℕ) → first_child entry ≡ j → j < k → FirstPart words k
      leads j e l =
          let i = first_is k w x h j e l in
          record {
            before = omega (arith, i, l);
            sized =
                x.size (omega (arith, e, l))
                ∙ ap (λ j. size (process_of s j)) e
                ∙ ap size (sym (process_same j (omega (arith, l, h))))
                ∙ ap (λ j. size (program.process_of words j)) (sym i);
          }

      -- a node of kind n, by what its fields hold
      runs :
          (n : ℕ) → entry.kind ≡ n → n < 11 → Holds words k (row_of n).a (a_in w) → Holds words k (row_of n).b (b_in w) →
          Leads words k (row_of n).first →
          (n ≡ 8 → signal_in (name_word words (a_in w)) ≡ true) →
          (n ≡ 9 → leaves_alone (a_in w) (program.process_of words (first_in w)) ≡ true) → NodeRuns words k
      runs n e few a b first signal alone =
          let kind : node_kind_in w ≡ n = x.kind ∙ e in
          record {
            kind = omega (arith, kind, few);
            forms = λ tag l. rw x.kind (x.forms tag l);
            a = subst (λ n. Holds words k (row_of n).a (a_in w)) (sym kind) a;
            b = subst (λ n. Holds words k (row_of n).b (b_in w)) (sym kind) b;
            first = subst (λ n. Leads words k (row_of n).first) (sym kind) first;
            watches = x.watches ∙ ap watches (sym (process_same k h));
            small = rw (process_same k h) (size_within s ok k h);
            signal = λ q. signal (sym kind ∙ q);
            alone = λ q. alone (sym kind ∙ q);
          }

      -- neither a watching nor a when
      plain :
          (n : ℕ) → entry.kind ≡ n → (eqb n 8 || eqb n 9) ≡ false → n < 11 → Holds words k (row_of n).a (a_in w) →
          Holds words k (row_of n).b (b_in w) → Leads words k (row_of n).first → NodeRuns words k
      plain n e other few a b first =
          runs n e few a b first
          (λ q. absurd (false≢true (sym other ∙ ap (λ m. eqb m 8 || eqb m 9) q)))
          (λ q. absurd (false≢true (sym other ∙ ap (λ m. eqb m 8 || eqb m 9) q)))

      signal : UsesName s (node s k) entry.a 1 → signal_in (name_word words (a_in w)) ≡ true
      signal u =
          ap (λ y. signal_in (name_word words y)) (name_is k w x h u.known)
          ∙ (made.keeps.name entry.a u.known).signal
          ∙ ap (λ n. eqb n 1) u.kinded

      named : entry.a < name_count s → a_in w < program.name_count words
      named l = omega (arith, name_is k w x h l, l, made.names)

      tests : entry.a < expression_count s → a_in w < program.expression_count words
      tests l = omega (arith, tested_is k w x h l, l, made.expressions)

      stores : entry.kind ≤ 2 → entry.b < expression_count s → b_in w < program.expression_count words
      stores q l = omega (arith, stored_is k w x h q l, l, made.expressions)

      follows : (j : ℕ) → second_child entry ≡ j → 2 < entry.kind → j < k → b_in w < k
      follows j e q l = omega (arith, second_is k w x h j e q l, l)

      alone :
          UsesName s (node s k) entry.a 1 → (j : ℕ) → first_child entry ≡ j → j < k →
          leaves_alone (a_in w) (program.process_of words (first_in w)) ≡ true
      alone u j e l =
          rw (name_is k w x h u.known, first_is k w x h j e l, process_same j (omega (arith, l, h)))
          (alone_below s ok entry.a k u h j l)

      view : NodeView s k → NodeRuns words k
      view (a_nil e q) = plain 0 e refl (omega arith) tt tt tt
      view (an_assign e q y z) =
          plain 1 e refl (omega arith) (named y.known) (stores (omega (arith, e)) z.known) tt
      view (a_let e q y z r) =
          plain 2 e refl (omega arith) (named y.known) (stores (omega (arith, e)) z.known) (leads entry.c (rw e) r.before)
      view (an_if e q z r t) =
          plain 3 e refl (omega arith) (tests z.known) (follows entry.c (rw e) (omega (arith, e)) t.before)
          (leads entry.b (rw e) r.before)
      view (a_while e q z r) =
          plain 4 e refl (omega arith) (tests z.known) tt (leads entry.b (rw e) r.before)
      view (a_sequence e q r t) =
          plain 5 e refl (omega arith) tt (follows entry.b (rw e) (omega (arith, e)) t.before)
          (leads entry.a (rw e) r.before)
      view (an_emit e q y) = plain 6 e refl (omega arith) (named y.known) tt tt
      view (a_local e q y r) =
          plain 7 e refl (omega arith) (named y.known) tt (leads entry.b (rw e) r.before)
      view (a_watching e q y r) =
          runs 8 e (omega arith) (named y.known) tt (leads entry.b (rw e) r.before) (λ _. signal y) (λ z. absurd (omega (arith, z)))
      view (a_when e q y r) =
          runs 9 e (omega arith) (named y.known) tt (leads entry.b (rw e) r.before)
          (λ z. absurd (omega (arith, z))) (λ _. alone y entry.b (rw e) r.before)
      view (a_parallel e q r t) =
          plain 10 e refl (omega arith) tt (follows entry.b (rw e) (omega (arith, e)) t.before)
          (leads entry.a (rw e) r.before)

  pub program_of : ProgramOf s sees words
  program_of =
      record {
        runnable =
            record {
              few_names = omega (arith, made.names, few_names_lem);
              few_expressions = omega (arith, made.expressions, few_expressions_lem);
              few_nodes = omega (arith, made.nodes, few_nodes_lem);
              some = omega (arith, made.nodes, few_bounds (layout_of s) ok.laid.few);
              whole =
                  ap (λ n. size (program.process_of words (n - 1))) made.nodes
                  ∙ ap size (process_same (node_count s - 1) (omega (arith, few_bounds (layout_of s) ok.laid.few)))
                  ∙ whole_size s ok
                  ∙ sym made.nodes;
              expressions = λ e l. expression_runs e (omega (arith, l, made.expressions));
              nodes = λ k l. node_runs k (omega (arith, l, made.nodes));
            };
        names = made.names;
        expressions = made.expressions;
        nodes = made.nodes;
        named = made.keeps.name;
        seen = λ x l. (made.keeps.name x l).seen;
        expression = expression_same;
        process = process_same;
      }
