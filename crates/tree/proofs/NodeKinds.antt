-- A node of a checked file, by its kind: its process, and the names and expressions of its fields.
use mathlib.Core.Path.{◌≡◌, sym, ap, ◌∙◌, subst}
use mathlib.Core.List.{List}
use Prim.Native.Nat.{ℕ, ◌<◌}
use Rattle.language.specs.declared.process_kinds.ProcessKind.{ProcessKind}
use Rattle.language.specs.declared.process_kinds.ProcessKind.TheVariants.{Nil, Assign, Let, If, While, Sequence, Emit, Local, Watching, When, Parallel}
use Rattle.language.specs.KindNumbers.{process_number}
use Rattle.language.specs.Syntax.{Proc, nil, assign, let_in, if_then_else, while, sequence, emit, local, watching, when, parallel}
use Rattle.language.proofs.KindNumbers.{process_kind_is}
use Rattle.layout.specs.declared.parts.Part.{Part}
use Rattle.layout.specs.Layout.{name_count, expression_count}
use Rattle.layout.specs.Entries.{name_of, part_of, node}
use Rattle.script.specs.Checked.{Checked}
use Rattle.tree.specs.Promises.{IsNodeAt}
use Rattle.tree.specs.Tree.{expression_of, process_of}
use Rattle.tree.proofs.Views.{NodeView, a_nil, an_assign, a_let, an_if, a_while, a_sequence, an_emit, a_local, a_watching, a_when, a_parallel, node_view}

module _ (s : List ℕ) (k : ℕ) (p : Part) where
  abbrev Is : Proc ℕ → Type 0
  Is q = process_of s k ≡ q

  -- name a, expression b, and expression a are those of the file
  abbrev NameA : Type 0
  NameA = p.a < name_count s

  abbrev ExpressionB : Type 0
  ExpressionB = p.b < expression_count s

  abbrev ExpressionA : Type 0
  ExpressionA = p.a < expression_count s

  abbrev pub NodeIs : ProcessKind → Type 0
  NodeIs Nil = Is nil
  NodeIs Assign = Is (assign p.a (expression_of s p.b)) × (NameA × ExpressionB)
  NodeIs Let =
      Is (let_in p.a (name_of s p.a).level (expression_of s p.b) (process_of s p.c)) × (NameA × ExpressionB)
  NodeIs If = Is (if_then_else (expression_of s p.a) (process_of s p.b) (process_of s p.c)) × ExpressionA
  NodeIs While = Is (while (expression_of s p.a) (process_of s p.b)) × ExpressionA
  NodeIs Sequence = Is (sequence (process_of s p.a) (process_of s p.b))
  NodeIs Emit = Is (emit p.a) × NameA
  NodeIs Local = Is (local p.a (name_of s p.a).level (process_of s p.b)) × NameA
  NodeIs Watching = Is (watching p.a (process_of s p.b)) × NameA
  NodeIs When = Is (when p.a (process_of s p.b)) × NameA
  NodeIs Parallel = Is (parallel (process_of s p.a) (process_of s p.b))

module _ (s : List ℕ) (k : ℕ) (kind : ProcessKind) (n : process_number kind ≡ (part_of s (node s k)).kind) where
  abbrev IsOf : ProcessKind → Type 0
  IsOf = NodeIs s k (part_of s (node s k))

  of_kind : (other : ProcessKind) → (part_of s (node s k)).kind ≡ process_number other → IsOf other → IsOf kind
  of_kind other e = subst IsOf (sym (process_kind_is kind other (n ∙ e)))

  by_view : NodeView s k → IsOf kind
  by_view (a_nil e q) = of_kind Nil e q
  by_view (an_assign e q x y) = of_kind Assign e (q, (x.known, y.known))
  by_view (a_let e q x y p) = of_kind Let e (q, (x.known, y.known))
  by_view (an_if e q y p r) = of_kind If e (q, y.known)
  by_view (a_while e q y p) = of_kind While e (q, y.known)
  by_view (a_sequence e q p r) = of_kind Sequence e q
  by_view (an_emit e q x) = of_kind Emit e (q, x.known)
  by_view (a_local e q x p) = of_kind Local e (q, x.known)
  by_view (a_watching e q x p) = of_kind Watching e (q, x.known)
  by_view (a_when e q x p) = of_kind When e (q, x.known)
  by_view (a_parallel e q p r) = of_kind Parallel e q

pub node_is : (s : List ℕ) → Checked s → {kind : ProcessKind} {p : Part} (k : ℕ) → IsNodeAt s kind p k → NodeIs s k p kind
node_is s ok {kind} k at =
    subst (λ p. NodeIs s k p kind) (sym at.same)
    (by_view s k kind (at.kinded ∙ ap (λ p. p.kind) at.same) (node_view s ok k at.known))
