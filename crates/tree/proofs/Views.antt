-- The expression or process of a number in a checked file, kind by kind, with what is known of its fields.
use mathlib.Core.Path.{◌≡◌, refl, sym, ap, ap₂, ◌∙◌, subst}
use mathlib.Core.Bool.{Bool, true, false, cond, ◌&&◌, ◌||◌}
use mathlib.Core.List.{List}
use Prim.Native.Nat.{ℕ, ◌≤◌, ◌<◌}
use native.Mathlib.Omega.{arith}
use lib.Dec.{eqb, ltb}
use lib.ListN.{get_or}
use borrow.Author.Tests.{ltb-true, le-ltb, lt-ltb, not-false}
use Rattle.prelude.specs.Course.{course, entry}
use Rattle.prelude.proofs.Bools.{and_left, and_right, and_second}
use Rattle.prelude.proofs.Each.{row_of_lem, done, ◌then◌}
use Rattle.prelude.proofs.Searches.{none_of_any}
use Rattle.prelude.proofs.Courses.{earlier}
use Rattle.language.specs.Syntax.{Exp, Operator, add, subtract, multiply, divide, less, equal, constant, register, binary, negated, Proc, nil, assign, let_in, if_then_else, while, sequence, emit, local, watching, when, parallel}
use Rattle.layout.specs.Layout.{name_count, expression_count, node_count, part_count}
use Rattle.layout.specs.Entries.{name_of, part_of, node}
use Rattle.fields.specs.declared.roles.Role.{Role}
use Rattle.fields.specs.declared.roles.Role.TheVariants.{Register, Signal, NewRegister, NewSignal, Expression, Child}
use Rattle.fields.specs.Roles as roles
use Rattle.fields.specs.Roles.{expression_rows, node_rows, role_in, is_use, is_new, is_child}
use Rattle.fields.specs.Fields.{field_count, field_of}
use Rattle.entries.specs.Faults.{kind_for}
use Rattle.entries.proofs.Holding.{holds_expression, holds_child_lem, right_field, right_kind}
use Rattle.entries.proofs.Naming.{named_use, named_new}
use Rattle.uses.proofs.Used.{used_of, used_child, used_expression}
use Rattle.scope.specs.Reach.{in_reach, is_out_of_reach, misses_name}
use Rattle.script.specs.Checked.{Checked}
use Rattle.scope.specs.Promises.{FieldUses}
use Rattle.scope.proofs.Reaching.{reach_used}
use Rattle.tree.specs.Tree.{constant_of, expressions_from, no_expression, expression_of, processes_from, process_of}

-- the kind of a binary expression
abbrev pub code : Operator → ℕ
code add = 2
code subtract = 3
code multiply = 4
code divide = 5
code less = 6
code equal = 7

pub code_range : (o : Operator) → (2 ≤ code o) × (code o ≤ 7)
code_range add = (omega arith, omega arith)
code_range subtract = (omega arith, omega arith)
code_range multiply = (omega arith, omega arith)
code_range divide = (omega arith, omega arith)
code_range less = (omega arith, omega arith)
code_range equal = (omega arith, omega arith)

module _ (s : List ℕ) where
  -- part q uses name x, which is of this kind and in reach
  pub record UsesName (q x kind : ℕ) : Type 0 where
    pub known : x < name_count s
    pub kinded : (name_of s x).kind ≡ kind
    pub reach : in_reach s x q ≡ true

  -- part q declares name x, which is of this kind, and owns it
  pub record NewName (q x kind : ℕ) : Type 0 where
    pub known : x < name_count s
    pub kinded : (name_of s x).kind ≡ kind
    pub own : node s (name_of s x).owner ≡ q

  -- part q uses part p, in which the names `new` are in reach besides those in reach in q
  pub record UsesPart (q p : ℕ) (new : ℕ → Bool) : Type 0 where
    pub before : p < q
    pub reach : (x : ℕ) → x < name_count s → in_reach s x p ≡ (new x || in_reach s x q)

  abbrev nothing : ℕ → Bool
  nothing x = false

  pub record UsesExpression (q e : ℕ) : Type 0 where
    pub known : e < expression_count s
    pub part : UsesPart q e nothing

  -- by field f
  pub record UsesNode (k f j : ℕ) (new : ℕ → Bool) : Type 0 where
    pub before : j < k
    pub field : FieldUses s (node s k) f (node s j)
    pub part : UsesPart (node s k) (node s j) new

  pub data ExpressionView (e : ℕ) : Type 0 where
    a_constant : (part_of s e).kind ≡ 0 → expression_of s e ≡ constant (constant_of (part_of s e)) → ExpressionView e
    a_register :
        (part_of s e).kind ≡ 1 → expression_of s e ≡ register (part_of s e).a → UsesName e (part_of s e).a 0 → ExpressionView e
    a_binary :
        (o : Operator) → (part_of s e).kind ≡ code o →
        expression_of s e ≡ binary o (expression_of s (part_of s e).a) (expression_of s (part_of s e).b) →
        UsesExpression e (part_of s e).a → UsesExpression e (part_of s e).b → ExpressionView e
    a_negated :
        (part_of s e).kind ≡ 8 → expression_of s e ≡ negated (expression_of s (part_of s e).a) →
        UsesExpression e (part_of s e).a → ExpressionView e

  abbrev a : ℕ → ℕ
  a k = (part_of s (node s k)).a

  abbrev b : ℕ → ℕ
  b k = (part_of s (node s k)).b

  abbrev c : ℕ → ℕ
  c k = (part_of s (node s k)).c

  abbrev level : ℕ → ℕ
  level x = (name_of s x).level

  pub data NodeView (k : ℕ) : Type 0 where
    a_nil : (part_of s (node s k)).kind ≡ 0 → process_of s k ≡ nil → NodeView k
    an_assign :
        (part_of s (node s k)).kind ≡ 1 → process_of s k ≡ assign (a k) (expression_of s (b k)) →
        UsesName (node s k) (a k) 0 → UsesExpression (node s k) (b k) → NodeView k
    a_let :
        (part_of s (node s k)).kind ≡ 2 →
        process_of s k ≡ let_in (a k) (level (a k)) (expression_of s (b k)) (process_of s (c k)) →
        NewName (node s k) (a k) 0 → UsesExpression (node s k) (b k) → UsesNode k 2 (c k) (eqb (a k)) → NodeView k
    an_if :
        (part_of s (node s k)).kind ≡ 3 →
        process_of s k ≡ if_then_else (expression_of s (a k)) (process_of s (b k)) (process_of s (c k)) →
        UsesExpression (node s k) (a k) → UsesNode k 1 (b k) nothing → UsesNode k 2 (c k) nothing → NodeView k
    a_while :
        (part_of s (node s k)).kind ≡ 4 → process_of s k ≡ while (expression_of s (a k)) (process_of s (b k)) →
        UsesExpression (node s k) (a k) → UsesNode k 1 (b k) nothing → NodeView k
    a_sequence :
        (part_of s (node s k)).kind ≡ 5 → process_of s k ≡ sequence (process_of s (a k)) (process_of s (b k)) →
        UsesNode k 0 (a k) nothing → UsesNode k 1 (b k) nothing → NodeView k
    an_emit :
        (part_of s (node s k)).kind ≡ 6 → process_of s k ≡ emit (a k) → UsesName (node s k) (a k) 1 → NodeView k
    a_local :
        (part_of s (node s k)).kind ≡ 7 → process_of s k ≡ local (a k) (level (a k)) (process_of s (b k)) →
        NewName (node s k) (a k) 1 → UsesNode k 1 (b k) (eqb (a k)) → NodeView k
    a_watching :
        (part_of s (node s k)).kind ≡ 8 → process_of s k ≡ watching (a k) (process_of s (b k)) →
        UsesName (node s k) (a k) 1 → UsesNode k 1 (b k) nothing → NodeView k
    a_when :
        (part_of s (node s k)).kind ≡ 9 → process_of s k ≡ when (a k) (process_of s (b k)) →
        UsesName (node s k) (a k) 1 → UsesNode k 1 (b k) nothing → NodeView k
    a_parallel :
        (part_of s (node s k)).kind ≡ 10 → process_of s k ≡ parallel (process_of s (a k)) (process_of s (b k)) →
        UsesNode k 0 (a k) nothing → UsesNode k 1 (b k) nothing → NodeView k

module _ (s : List ℕ) (ok : Checked s) where
  module _ (q : ℕ) (h : q < part_count s) (f : ℕ) (l : f < field_count) where
    uses_name :
        (r : Role) → (field_of s q f).role ≡ r → is_use r ≡ true → UsesName s q (field_of s q f).value (kind_for r)
    unfolding is_out_of_reach
    uses_name r e u =
        let uses : is_use (field_of s q f).role ≡ true = ap is_use e ∙ u in
        let n = named_use s ok.joined.sound q f h l uses in
        record {
          known = n.known;
          kinded = n.kinded ∙ ap kind_for e;
          reach =
              not-false _
              (sym (and_second (is_use (field_of s q f).role) _ uses)
              ∙ none_of_any (misses_name s q) field_count (ok.reach q h) f l);
        }

    new_name :
        (r : Role) → (field_of s q f).role ≡ r → is_new r ≡ true → NewName s q (field_of s q f).value (kind_for r)
    new_name r e u =
        let new : is_new (field_of s q f).role ≡ true = ap is_new e ∙ u in
        let n = named_new s ok.joined.sound q f h l new in
        record { known = n.known; kinded = n.kinded ∙ ap kind_for e; own = n.own new }

    -- the names that come into reach in what field f uses
    abbrev brings : Role → Role → ℕ → Bool
    brings r r₀ x = is_child r && (is_new r₀ && eqb (field_of s q 0).value x)

    uses_part :
        (p : ℕ) (r r₀ : Role) → FieldUses s q f p → (field_of s q f).role ≡ r → (field_of s q 0).role ≡ r₀ → UsesPart s q p (brings r r₀)
    uses_part p r r₀ w e e₀ =
        record {
          before = w.before;
          reach =
              λ x known.
              reach_used s ok.joined w x known ∙ ap₂ (λ r r₀. brings r r₀ x || in_reach s x q) e e₀;
        }

    uses_expression : (field_of s q f).role ≡ Expression → UsesExpression s q (field_of s q f).value
    uses_expression e =
        let v : ℕ = (field_of s q f).value in
        let t = sym (holds_expression s q (field_of s q f) e) ∙ right_field s ok.joined.sound q f h l in
        record {
          known = ltb-true _ _ (and_left (ltb v (expression_count s)) _ t);
          part =
              uses_part v Expression _
              (record {
                known = h;
                inside = l;
                same = used_of s q f ∙ used_expression _ (field_of s q f) e;
                before = ltb-true _ _ (and_right (ltb v (expression_count s)) _ t);
              })
              e refl;
        }

  module _ (k : ℕ) (h : k < node_count s) where
    abbrev q : ℕ
    q = node s k

    uses_node :
        (f : ℕ) (r₀ : Role) → f < field_count → (field_of s q f).role ≡ Child → (field_of s q 0).role ≡ r₀ →
        UsesNode s k f (field_of s q f).value (λ x. is_new r₀ && eqb (field_of s q 0).value x)
    uses_node f r₀ l e e₀ =
        let v : ℕ = (field_of s q f).value in
        let t : node s v < q =
        ltb-true _ _ (sym (holds_child_lem s q (field_of s q f) e) ∙ right_field s ok.joined.sound q f (omega arith) l) in
        let w : FieldUses s q f (node s v) =
        record { known = omega arith; inside = l; same = used_of s q f ∙ used_child _ (field_of s q f) e; before = t } in
        record { before = omega arith; field = w; part = uses_part q (omega arith) f l (node s v) Child r₀ w e e₀ }

    inside : q < part_count s
    inside = omega arith

    a_register_lem : (field_of s q 0).role ≡ Register → UsesName s q (field_of s q 0).value 0
    a_register_lem e = uses_name q inside 0 (omega arith) Register e refl

    a_signal : (field_of s q 0).role ≡ Signal → UsesName s q (field_of s q 0).value 1
    a_signal e = uses_name q inside 0 (omega arith) Signal e refl

    an_expression :
        (f : ℕ) → f < field_count → (field_of s q f).role ≡ Expression → UsesExpression s q (field_of s q f).value
    an_expression f l = uses_expression q inside f l

    -- the roles of the fields of a node of kind n
    pub role : (n : ℕ) → (part_of s q).kind ≡ n → (f : ℕ) → (field_of s q f).role ≡ role_in node_rows n f
    role n e f = rw (le-ltb q (expression_count s) (omega arith), e)

    abbrev made : ℕ → List (Proc ℕ) → Proc ℕ
    made k before = get_or (processes_from s (part_of s (node s k)) (λ j. get_or before j nil)) (part_of s (node s k)).kind nil

    process :
        (n : ℕ) → (part_of s q).kind ≡ n →
        process_of s k ≡ get_or (processes_from s (part_of s q) (λ j. get_or (course made k) j nil)) n nil
    unfolding process_of entry
    process n e = ap (λ n. get_or (processes_from s (part_of s q) (λ j. get_or (course made k) j nil)) n nil) e

    part_of_lem : {f j : ℕ} {new : ℕ → Bool} → UsesNode s k f j new → get_or (course made k) j nil ≡ process_of s j
    unfolding process_of
    part_of_lem {j = j} u = earlier made nil k j u.before

    let_view : (part_of s q).kind ≡ 2 → NodeView s k
    let_view e =
        let body = uses_node 2 NewRegister (omega arith) (role 2 e 2) (role 2 e 0) in
        a_let e (process 2 e ∙ ap (let_in (a s k) (level s (a s k)) (expression_of s (b s k))) (part_of_lem body))
        (new_name q inside 0 (omega arith) NewRegister (role 2 e 0) refl)
        (an_expression 1 (omega arith) (role 2 e 1))
        body

    if_view : (part_of s q).kind ≡ 3 → NodeView s k
    if_view e =
        let left = uses_node 1 Expression (omega arith) (role 3 e 1) (role 3 e 0) in
        let right = uses_node 2 Expression (omega arith) (role 3 e 2) (role 3 e 0) in
        an_if e (process 3 e ∙ ap₂ (if_then_else (expression_of s (a s k))) (part_of_lem left) (part_of_lem right))
        (an_expression 0 (omega arith) (role 3 e 0))
        left
        right

    while_view : (part_of s q).kind ≡ 4 → NodeView s k
    while_view e =
        let body = uses_node 1 Expression (omega arith) (role 4 e 1) (role 4 e 0) in
        a_while e (process 4 e ∙ ap (while (expression_of s (a s k))) (part_of_lem body))
        (an_expression 0 (omega arith) (role 4 e 0))
        body

    sequence_view : (part_of s q).kind ≡ 5 → NodeView s k
    sequence_view e =
        let left = uses_node 0 Child (omega arith) (role 5 e 0) (role 5 e 0) in
        let right = uses_node 1 Child (omega arith) (role 5 e 1) (role 5 e 0) in
        a_sequence e (process 5 e ∙ ap₂ sequence (part_of_lem left) (part_of_lem right)) left right

    local_view : (part_of s q).kind ≡ 7 → NodeView s k
    local_view e =
        let body = uses_node 1 NewSignal (omega arith) (role 7 e 1) (role 7 e 0) in
        a_local e (process 7 e ∙ ap (local (a s k) (level s (a s k))) (part_of_lem body))
        (new_name q inside 0 (omega arith) NewSignal (role 7 e 0) refl)
        body

    watching_view : (part_of s q).kind ≡ 8 → NodeView s k
    watching_view e =
        let body = uses_node 1 Signal (omega arith) (role 8 e 1) (role 8 e 0) in
        a_watching e (process 8 e ∙ ap (watching (a s k)) (part_of_lem body)) (a_signal (role 8 e 0)) body

    when_view : (part_of s q).kind ≡ 9 → NodeView s k
    when_view e =
        let body = uses_node 1 Signal (omega arith) (role 9 e 1) (role 9 e 0) in
        a_when e (process 9 e ∙ ap (when (a s k)) (part_of_lem body)) (a_signal (role 9 e 0)) body

    parallel_view : (part_of s q).kind ≡ 10 → NodeView s k
    parallel_view e =
        let left = uses_node 0 Child (omega arith) (role 10 e 0) (role 10 e 0) in
        let right = uses_node 1 Child (omega arith) (role 10 e 1) (role 10 e 0) in
        a_parallel e (process 10 e ∙ ap₂ parallel (part_of_lem left) (part_of_lem right)) left right

    pub kind_below : (part_of s q).kind < roles.node_kinds
    kind_below =
        subst (λ n. (part_of s q).kind < n)
        (ap (λ b. cond b roles.expression_kinds roles.node_kinds) (le-ltb q (expression_count s) (omega arith)))
        (right_kind s ok.joined.sound q inside)

    pub node_view : NodeView s k
    node_view =
        row_of_lem {P = λ n. (part_of s q).kind ≡ n → NodeView s k}
        ((λ e. a_nil e (process 0 e))
        then (λ e. an_assign e (process 1 e) (a_register_lem (role 1 e 0)) (an_expression 1 (omega arith) (role 1 e 1)))
        then let_view
        then if_view
        then while_view
        then sequence_view
        then (λ e. an_emit e (process 6 e) (a_signal (role 6 e 0)))
        then local_view
        then watching_view
        then when_view
        then parallel_view
        then done)
        (part_of s q).kind
        kind_below
        refl

  module _ (e : ℕ) (h : e < expression_count s) where
    within_parts : e < part_count s
    within_parts = omega arith

    role_in_lem : (n : ℕ) → (part_of s e).kind ≡ n → (f : ℕ) → (field_of s e f).role ≡ role_in expression_rows n f
    role_in_lem n q f = rw (lt-ltb e (expression_count s) h, q)

    abbrev built : ℕ → List Exp → Exp
    built e before = get_or (expressions_from (part_of s e) (λ k. get_or before k no_expression)) (part_of s e).kind no_expression

    expression :
        (n : ℕ) → (part_of s e).kind ≡ n →
        expression_of s e ≡ get_or (expressions_from (part_of s e) (λ k. get_or (course built e) k no_expression)) n no_expression
    unfolding expression_of entry
    expression n q =
        ap (λ n. get_or (expressions_from (part_of s e) (λ k. get_or (course built e) k no_expression)) n no_expression) q

    operand : {j : ℕ} → UsesExpression s e j → get_or (course built e) j no_expression ≡ expression_of s j
    unfolding expression_of
    operand {j} u = earlier built no_expression e j u.part.before

    -- a binary operator, by the roles of its row and its place in the list
    binary_view :
        (o : Operator) →
        role_in expression_rows (code o) 0 ≡ Expression → role_in expression_rows (code o) 1 ≡ Expression →
        ((operands : ℕ → Exp) →
        get_or (expressions_from (part_of s e) operands) (code o) no_expression
        ≡ binary o (operands (part_of s e).a) (operands (part_of s e).b)) →
        (part_of s e).kind ≡ code o → ExpressionView s e
    binary_view o r₀ r₁ at q =
        let left = uses_expression e within_parts 0 (omega arith) (role_in_lem (code o) q 0 ∙ r₀) in
        let right = uses_expression e within_parts 1 (omega arith) (role_in_lem (code o) q 1 ∙ r₁) in
        a_binary o q
        (expression (code o) q ∙ at (λ k. get_or (course built e) k no_expression) ∙ ap₂ (binary o) (operand left) (operand right))
        left
        right

    pub expression-view : ExpressionView s e
    expression-view =
        row_of_lem {P = λ n. (part_of s e).kind ≡ n → ExpressionView s e}
        ((λ q. a_constant q (expression 0 q))
        then (λ q.
        a_register q (expression 1 q) (uses_name e within_parts 0 (omega arith) Register (role_in_lem 1 q 0) refl))
        then binary_view add refl refl (λ _. refl)
        then binary_view subtract refl refl (λ _. refl)
        then binary_view multiply refl refl (λ _. refl)
        then binary_view divide refl refl (λ _. refl)
        then binary_view less refl refl (λ _. refl)
        then binary_view equal refl refl (λ _. refl)
        then (λ q.
        let only = uses_expression e within_parts 0 (omega arith) (role_in_lem 8 q 0) in
        a_negated q (expression 8 q ∙ ap negated (operand only)) only)
        then done)
        (part_of s e).kind
        expression_kind
        refl
      where
        expression_kind : (part_of s e).kind < roles.expression_kinds
        expression_kind =
            subst (λ n. (part_of s e).kind < n)
            (ap (λ b. cond b roles.expression_kinds roles.node_kinds) (lt-ltb e (expression_count s) h))
            (right_kind s ok.joined.sound e within_parts)
