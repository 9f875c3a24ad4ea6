-- The expression or process of a number in a program, kind by kind, with what is known of its fields.
use mathlib.Core.Path.{◌≡◌, refl, ap, ap₂, ◌∙◌, subst}
use mathlib.Core.Bool.{true}
use mathlib.Core.List.{List}
use Prim.Native.Nat.{ℕ, ◌<◌}
use native.Mathlib.Omega.{arith}
use lib.ListN.{get_or}
use mir.Syntax.{w32}
use mir.Val.{to_z}
use Rattle.prelude.specs.Course.{course, entry}
use Rattle.prelude.proofs.Each.{row_of_lem, done, ◌then◌}
use Rattle.prelude.proofs.Courses.{earlier}
use Rattle.language.specs.Syntax.{Exp, constant, register, binary, negated, Proc, nil, assign, let_in, if_then_else, while, sequence, emit, local, watching, when, parallel}
use Rattle.language.specs.Shapes.{leaves_alone}
use Rattle.packing.specs.Packing.{kind_in, constant_in, operand_in, later_in, level_in, signal_in}
use Rattle.program.specs.Rows.{row_of}
use Rattle.program.specs.Program.{name_count, expression_count, node_count, name_word, expression_word, node_word, kind_at, a_at, b_at, first_at, second_at, operator_of, expressions_from, no_expression, expression_of, fields_of, process_of}
use Rattle.program.specs.Runnable.{Holds, Leads, FirstPart, ExpressionRuns, NodeRuns, Runnable}

module _ (words : List ℕ) where
  module _ (e : ℕ) where
    abbrev w : ℕ
    w = expression_word words e

    abbrev Means : Exp → Type 0
    Means x = expression_of words e ≡ x

    abbrev left : Exp
    left = expression_of words (operand_in w)

    abbrev right : Exp
    right = expression_of words (later_in w)

    pub data ExpressionView : Type 0 where
      a_constant : kind_in w ≡ 0 → Means (constant (to_z w32 (constant_in w))) → ExpressionView
      a_register : kind_in w ≡ 1 → Means (register (operand_in w)) → operand_in w < name_count words → ExpressionView
      a_binary :
          1 < kind_in w → kind_in w < 8 → Means (binary (operator_of (kind_in w)) left right) → operand_in w < e → later_in w < e →
          ExpressionView
      a_negated : kind_in w ≡ 8 → Means (negated left) → operand_in w < e → ExpressionView

  module _ (k : ℕ) where
    abbrev kind : ℕ
    kind = kind_at words k

    abbrev a : ℕ
    a = a_at words k

    abbrev level : ℕ
    level = level_in (name_word words a)

    abbrev tested : Exp
    tested = expression_of words a

    abbrev stored : Exp
    stored = expression_of words (b_at words k)

    abbrev one : Proc ℕ
    one = process_of words (first_at words k)

    abbrev two : Proc ℕ
    two = process_of words (second_at words k)

    abbrev Is : Proc ℕ → Type 0
    Is p = process_of words k ≡ p

    abbrev Named : Type 0
    Named = a < name_count words

    abbrev Tested : Type 0
    Tested = a < expression_count words

    abbrev Stored : Type 0
    Stored = b_at words k < expression_count words

    abbrev First : Type 0
    First = FirstPart words k

    abbrev Second : Type 0
    Second = second_at words k < k

    pub data NodeView : Type 0 where
      a_nil : kind ≡ 0 → Is nil → NodeView
      an_assign : kind ≡ 1 → Is (assign a stored) → Named → Stored → NodeView
      a_let : kind ≡ 2 → Is (let_in a level stored one) → Named → Stored → First → NodeView
      an_if : kind ≡ 3 → Is (if_then_else tested one two) → Tested → First → Second → NodeView
      a_while : kind ≡ 4 → Is (while tested one) → Tested → First → NodeView
      a_sequence : kind ≡ 5 → Is (sequence one two) → First → Second → NodeView
      an_emit : kind ≡ 6 → Is (emit a) → Named → NodeView
      a_local : kind ≡ 7 → Is (local a level one) → Named → First → NodeView
      a_watching : kind ≡ 8 → Is (watching a one) → Named → First → signal_in (name_word words a) ≡ true → NodeView
      a_when : kind ≡ 9 → Is (when a one) → Named → First → leaves_alone a one ≡ true → NodeView
      a_parallel : kind ≡ 10 → Is (parallel one two) → First → Second → NodeView

module _ (words : List ℕ) (k : ℕ) (runs : NodeRuns words k) where
  abbrev built : ℕ → List (Proc ℕ) → Proc ℕ
  built k before = (row_of (kind_at words k)).makes (fields_of words (node_word words k) (λ j. get_or before j nil))

  -- the process of this kind, with parts as they stand before it
  abbrev Made : ℕ → Proc ℕ
  Made n = (row_of n).makes (fields_of words (node_word words k) (λ j. get_or (course built k) j nil))

  process : (n : ℕ) → kind_at words k ≡ n → process_of words k ≡ Made n
  unfolding process_of entry
  process n e = ap Made e

  part_of_lem : {j : ℕ} → j < k → get_or (course built k) j nil ≡ process_of words j
  unfolding process_of
  part_of_lem {j} l = earlier built nil k j l

  -- a field, by the row of the kind
  field_a : (n : ℕ) → kind_at words k ≡ n → Holds words k (row_of n).a (a_at words k)
  field_a n e = subst (λ n. Holds words k (row_of n).a (a_at words k)) e runs.a

  field_b_lem : (n : ℕ) → kind_at words k ≡ n → Holds words k (row_of n).b (b_at words k)
  field_b_lem n e = subst (λ n. Holds words k (row_of n).b (b_at words k)) e runs.b

  first : (n : ℕ) → kind_at words k ≡ n → Leads words k (row_of n).first
  first n e = subst (λ n. Leads words k (row_of n).first) e runs.first

  abbrev View : ℕ → Type 0
  View n = kind_at words k ≡ n → NodeView words k

  let_view : View 2
  let_view e = a_let e (process 2 e ∙ ap (let_in (a words k) (level words k) (stored words k)) (part_of_lem (first 2 e).before)) (field_a 2 e) (field_b_lem 2 e) (first 2 e)

  if_view : View 3
  if_view e =
      an_if e (process 3 e ∙ ap₂ (if_then_else (tested words k)) (part_of_lem (first 3 e).before) (part_of_lem (field_b_lem 3 e))) (field_a 3 e) (first 3 e)
      (field_b_lem 3 e)

  while_view : View 4
  while_view e = a_while e (process 4 e ∙ ap (while (tested words k)) (part_of_lem (first 4 e).before)) (field_a 4 e) (first 4 e)

  sequence_view : View 5
  sequence_view e =
      a_sequence e (process 5 e ∙ ap₂ sequence (part_of_lem (first 5 e).before) (part_of_lem (field_b_lem 5 e))) (first 5 e) (field_b_lem 5 e)

  local_view : View 7
  local_view e = a_local e (process 7 e ∙ ap (local (a words k) (level words k)) (part_of_lem (first 7 e).before)) (field_a 7 e) (first 7 e)

  watching_view : View 8
  watching_view e = a_watching e (process 8 e ∙ ap (watching (a words k)) (part_of_lem (first 8 e).before)) (field_a 8 e) (first 8 e) (runs.signal e)

  when_view : View 9
  when_view e = a_when e (process 9 e ∙ ap (when (a words k)) (part_of_lem (first 9 e).before)) (field_a 9 e) (first 9 e) (runs.alone e)

  parallel_view : View 10
  parallel_view e =
      a_parallel e (process 10 e ∙ ap₂ parallel (part_of_lem (first 10 e).before) (part_of_lem (field_b_lem 10 e))) (first 10 e) (field_b_lem 10 e)

  pub view_of : NodeView words k
  view_of =
      row_of_lem {P = View}
      ((λ e. a_nil e (process 0 e))
      then (λ e. an_assign e (process 1 e) (field_a 1 e) (field_b_lem 1 e))
      then let_view
      then if_view
      then while_view
      then sequence_view
      then (λ e. an_emit e (process 6 e) (field_a 6 e))
      then local_view
      then watching_view
      then when_view
      then parallel_view
      then done)
      (kind_at words k)
      runs.kind
      refl

pub node_view : (words : List ℕ) → Runnable words → (k : ℕ) → k < node_count words → NodeView words k
node_view words ok k h = view_of words k (ok.nodes k h)

module _ (words : List ℕ) (e : ℕ) (runs : ExpressionRuns words e) where
  abbrev word : ℕ
  word = expression_word words e

  abbrev told : ℕ → List Exp → Exp
  told e before =
      get_or (expressions_from (expression_word words e) (λ k. get_or before k no_expression)) (kind_in (expression_word words e)) no_expression

  abbrev Said : ℕ → Exp
  Said n = get_or (expressions_from word (λ j. get_or (course told e) j no_expression)) n no_expression

  expression : (n : ℕ) → kind_in word ≡ n → expression_of words e ≡ Said n
  unfolding expression_of entry
  expression n q = ap Said q

  operand : {j : ℕ} → j < e → get_or (course told e) j no_expression ≡ expression_of words j
  unfolding expression_of
  operand {j} l = earlier told no_expression e j l

  abbrev Viewed : ℕ → Type 0
  Viewed n = kind_in word ≡ n → ExpressionView words e

  binary_view :
      (n : ℕ) → 1 < n → n < 8 →
      ((operands : ℕ → Exp) →
      get_or (expressions_from word operands) n no_expression
      ≡ binary (operator_of n) (operands (operand_in word)) (operands (later_in word))) →
      Viewed n
  binary_view n l m at q =
      let first : operand_in word < e = runs.first (omega (arith, l, q)) in
      let second : later_in word < e = runs.second (omega (arith, l, q)) (omega (arith, m, q)) in
      a_binary (omega (arith, l, q)) (omega (arith, m, q))
      (expression n q
      ∙ at (λ j. get_or (course told e) j no_expression)
      ∙ rw (q, operand first, operand second))
      first second

  pub expression_view_of : ExpressionView words e
  expression_view_of =
      row_of_lem {P = Viewed}
      ((λ q. a_constant q (expression 0 q))
      then (λ q. a_register q (expression 1 q) (runs.register q))
      then binary_view 2 (omega arith) (omega arith) (λ _. refl)
      then binary_view 3 (omega arith) (omega arith) (λ _. refl)
      then binary_view 4 (omega arith) (omega arith) (λ _. refl)
      then binary_view 5 (omega arith) (omega arith) (λ _. refl)
      then binary_view 6 (omega arith) (omega arith) (λ _. refl)
      then binary_view 7 (omega arith) (omega arith) (λ _. refl)
      then (λ q.
      let only : operand_in word < e = runs.first (omega (arith, q)) in
      a_negated q (expression 8 q ∙ ap negated (operand only)) only)
      then done)
      (kind_in word)
      runs.kind
      refl

pub expression-view :
    (words : List ℕ) → Runnable words → (e : ℕ) → e < expression_count words → ExpressionView words e
expression-view words ok e h = expression_view_of words e (ok.expressions e h)
