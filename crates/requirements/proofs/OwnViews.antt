-- What a node brings itself, by its kind: a value goes into a name, an expression or a signal is tested, a signal is emitted.
use mathlib.Core.Path.{◌≡◌, sym, ap, ◌∙◌, subst}
use mathlib.Core.Bool.{Bool, false}
use mathlib.Core.List.{List}
use mathlib.Core.Logic.{◌⊎◌, ⊎_elim}
use Prim.Native.Nat.{ℕ, ◌<◌}
use native.Mathlib.Omega.{arith}
use Rattle.prelude.specs.Sets.{IsSet}
use Rattle.book.specs.LevelBook.{most_levels}
use Rattle.layout.specs.declared.parts.Part.{Part}
use Rattle.layout.specs.Layout.{name_count, expression_count}
use Rattle.layout.proofs.Layouts.{names_are, expressions_are}
use Rattle.language.specs.declared.process_kinds.ProcessKind.{ProcessKind}
use Rattle.language.specs.declared.process_kinds.ProcessKind.TheVariants.{Nil, Assign, Let, If, While, Sequence, Emit, Local, Watching, When, Parallel}
use Rattle.language.specs.Syntax.{Proc}
use Rattle.language.specs.RequiredFlows.{is_level, reads}
use Rattle.tree.specs.Promises.{IsNodeAt, IsNode}
use Rattle.tree.specs.Tree.{names_of, expression_of, process_of}
use Rattle.tree.proofs.NodeKinds.{NodeIs, node_is}
use Rattle.requirements.specs.declared.levelled.LevelledScript.{LevelledScript}
use Rattle.requirements.specs.declared.nodes.Own.{Own}
use Rattle.requirements.specs.Nodes.{own_reads, own_name}
use Rattle.requirements.specs.Promises.{LevelAt, LevelsAt, Brings, OwnOf}
use Rattle.requirements.proofs.ExpressionLevels.{nothing}

module _ (s : List ℕ) where
  abbrev levels : ℕ → ℕ → Bool
  levels e = reads (names_of s) (expression_of s e)

  abbrev level : ℕ → ℕ → Bool
  level x = is_level (names_of s) x

  abbrev none : ℕ → Bool
  none i = false

  module _ (k : ℕ) (p : Part) where
    -- its process reads and names these levels
    record Reads (read name : ℕ → Bool) : Type 0 where
      reads_is : (i : ℕ) → own_reads (names_of s) (process_of s k) i ≡ read i
      name_is : (j : ℕ) → own_name (names_of s) (process_of s k) j ≡ name j

    of_process : {q : Proc ℕ} → process_of s k ≡ q → Reads (own_reads (names_of s) q) (own_name (names_of s) q)
    of_process e =
        record {
          reads_is = λ i. ap (λ q. own_reads (names_of s) q i) e;
          name_is = λ j. ap (λ q. own_name (names_of s) q j) e;
        }

    value : {kind : ProcessKind} → NodeIs s k p kind → (kind ≡ Assign) ⊎ (kind ≡ Let) →
        (p.a < name_count s) × ((p.b < expression_count s) × Reads (levels p.b) (level p.a))
    unfolding own_reads own_name
    value n =
        ⊎_elim (λ e. let w = subst (NodeIs s k p) e n in (w.1.0, (w.1.1, of_process w.0)))
        (λ e. let w = subst (NodeIs s k p) e n in (w.1.0, (w.1.1, of_process w.0)))

    condition : {kind : ProcessKind} → NodeIs s k p kind → (kind ≡ If) ⊎ (kind ≡ While) →
        (p.a < expression_count s) × Reads (levels p.a) none
    unfolding own_reads own_name
    condition n =
        ⊎_elim (λ e. let w = subst (NodeIs s k p) e n in (w.1, of_process w.0))
        (λ e. let w = subst (NodeIs s k p) e n in (w.1, of_process w.0))

    wait : {kind : ProcessKind} → NodeIs s k p kind → (kind ≡ Watching) ⊎ (kind ≡ When) →
        (p.a < name_count s) × Reads (level p.a) none
    unfolding own_reads own_name
    wait n =
        ⊎_elim (λ e. let w = subst (NodeIs s k p) e n in (w.1, of_process w.0))
        (λ e. let w = subst (NodeIs s k p) e n in (w.1, of_process w.0))

    emission : {kind : ProcessKind} → NodeIs s k p kind → kind ≡ Emit → (p.a < name_count s) × Reads none (level p.a)
    unfolding own_reads own_name
    emission n e = let w = subst (NodeIs s k p) e n in (w.1, of_process w.0)

    others : {kind : ProcessKind} → NodeIs s k p kind →
        (kind ≡ Nil) ⊎ ((kind ≡ Sequence) ⊎ ((kind ≡ Local) ⊎ (kind ≡ Parallel))) → Reads none none
    unfolding own_reads own_name
    others n =
        ⊎_elim (λ e. of_process (subst (NodeIs s k p) e n))
        (⊎_elim (λ e. of_process (subst (NodeIs s k p) e n))
        (⊎_elim (λ e. let w = subst (NodeIs s k p) e n in of_process w.0) (λ e. of_process (subst (NodeIs s k p) e n))))

-- sets of the levels that a node's process reads and names
brought :
    {s : List ℕ} {k : ℕ} {p : Part} {read name : ℕ → Bool} {own : Own} → Reads s k p read name →
    IsSet most_levels read own.read → IsSet most_levels name own.name → Brings (names_of s) (process_of s k) own
brought w r n =
    record { read = λ i h. r i h ∙ sym (w.reads_is i); name = λ j h. n j h ∙ sym (w.name_is j) }

-- a node of this kind whose part is p
module _
    (f : LevelledScript) {kind : ProcessKind} {p : Part} (is_node : IsNode f.checked.file.bytes.now kind p) where
  abbrev s : List ℕ
  s = f.checked.file.bytes.now

  is : (k : ℕ) → IsNodeAt s kind p k → NodeIs s k p kind
  is = node_is s f.checked.checked

  here : NodeIs s is_node.0 p kind
  here = is is_node.0 is_node.1

  module _ (v : (kind ≡ Assign) ⊎ (kind ≡ Let)) where
    pub value_known : (p.a < f.checked.file.layout.names) × (p.b < f.checked.file.layout.expressions)
    value_known =
        let o = value s is_node.0 p here v in
        (omega (arith, o.0, names_are f.checked.file.laid), omega (arith, o.1.0, expressions_are f.checked.file.laid))

    pub value_brings : {own : Own} → LevelsAt s p.b own.read → LevelAt s p.a own.name → OwnOf s kind p own
    value_brings r e k at = brought (value s k p (is k at) v).1.1 r e

  module _ (v : (kind ≡ If) ⊎ (kind ≡ While)) where
    pub condition_known : p.a < f.checked.file.layout.expressions
    condition_known = omega (arith, (condition s is_node.0 p here v).0, expressions_are f.checked.file.laid)

    pub condition_brings : {set : ℕ} → LevelsAt s p.a set → OwnOf s kind p (record { read = set; name = 0 })
    condition_brings r k at = brought (condition s k p (is k at) v).1 r nothing

  module _ (v : (kind ≡ Watching) ⊎ (kind ≡ When)) where
    pub wait_known : p.a < f.checked.file.layout.names
    wait_known = omega (arith, (wait s is_node.0 p here v).0, names_are f.checked.file.laid)

    pub wait_brings : {set : ℕ} → LevelAt s p.a set → OwnOf s kind p (record { read = set; name = 0 })
    wait_brings e k at = brought (wait s k p (is k at) v).1 e nothing

  module _ (v : kind ≡ Emit) where
    pub emission_known : p.a < f.checked.file.layout.names
    emission_known = omega (arith, (emission s is_node.0 p here v).0, names_are f.checked.file.laid)

    pub emission_brings : {set : ℕ} → LevelAt s p.a set → OwnOf s kind p (record { read = 0; name = set })
    emission_brings e k at = brought (emission s k p (is k at) v).1 nothing e

  pub nothing_brings :
      (kind ≡ Nil) ⊎ ((kind ≡ Sequence) ⊎ ((kind ≡ Local) ⊎ (kind ≡ Parallel))) → OwnOf s kind p (record { read = 0; name = 0 })
  nothing_brings v k at = brought (others s k p (is k at) v) nothing nothing
