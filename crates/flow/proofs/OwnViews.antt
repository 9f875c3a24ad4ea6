-- What a node brings itself, by its kind: its expression or signal, and its name.
use mathlib.Core.Path.{◌≡◌, sym, ap, ap₂, ◌∙◌, subst}
use mathlib.Core.List.{List}
use mathlib.Core.Logic.{◌⊎◌, ⊎_elim}
use Prim.Native.Nat.{ℕ, ◌<◌}
use native.Mathlib.Omega.{arith}
use Rattle.lattice.specs.Lattice.{Lattice}
use Rattle.layout.specs.declared.parts.Name.{Name}
use Rattle.layout.specs.declared.parts.Part.{Part}
use Rattle.layout.specs.Layout.{name_count, expression_count}
use Rattle.layout.specs.Entries.{name_of}
use Rattle.layout.proofs.Layouts.{names_are, expressions_are}
use Rattle.language.specs.declared.process_kinds.ProcessKind.{ProcessKind}
use Rattle.language.specs.declared.process_kinds.ProcessKind.TheVariants.{Nil, Assign, Let, If, While, Sequence, Emit, Local, Watching, When, Parallel}
use Rattle.tree.specs.Promises.{IsNodeAt, IsNode}
use Rattle.tree.specs.Tree.{names_of, process_of}
use Rattle.tree.proofs.NodeKinds.{NodeIs, node_is}
use Rattle.flow.specs.declared.levelled.LevelledScript.{LevelledScript}
use Rattle.flow.specs.Nodes.{brings, own_of}
use Rattle.flow.specs.Flow.{lattice_by, LevelAt, OwnOf}
use Rattle.flow.proofs.ExpressionLevels.{level_of}

module _ (𝓛 : Lattice ℕ) (s : List ℕ) (k : ℕ) (p : Part) where
  abbrev Brings : ℕ → ℕ → Type 0
  Brings level name = own_of 𝓛 (names_of s) (process_of s k) ≡ brings level name

  -- a value goes into a name
  value : {kind : ProcessKind} → NodeIs s k p kind → (kind ≡ Assign) ⊎ (kind ≡ Let) →
      (p.a < name_count s) × ((p.b < expression_count s) × Brings (level_of 𝓛 s p.b) (name_of s p.a).level)
  unfolding own_of
  value n =
      ⊎_elim
      (λ e. let w = subst (NodeIs s k p) e n in (w.1.0, (w.1.1, ap (own_of 𝓛 (names_of s)) w.0)))
      (λ e. let w = subst (NodeIs s k p) e n in (w.1.0, (w.1.1, ap (own_of 𝓛 (names_of s)) w.0)))

  -- an expression is tested
  condition : {kind : ProcessKind} → NodeIs s k p kind → (kind ≡ If) ⊎ (kind ≡ While) →
      (p.a < expression_count s) × Brings (level_of 𝓛 s p.a) 𝓛.bottom
  unfolding own_of
  condition n =
      ⊎_elim
      (λ e. let w = subst (NodeIs s k p) e n in (w.1, ap (own_of 𝓛 (names_of s)) w.0))
      (λ e. let w = subst (NodeIs s k p) e n in (w.1, ap (own_of 𝓛 (names_of s)) w.0))

  -- there is a signal
  signal : {kind : ProcessKind} → NodeIs s k p kind →
      (kind ≡ Emit) ⊎ ((kind ≡ Local) ⊎ ((kind ≡ Watching) ⊎ (kind ≡ When))) →
      (p.a < name_count s) × Brings (name_of s p.a).level (name_of s p.a).level
  unfolding own_of
  signal n =
      ⊎_elim
      (λ e. let w = subst (NodeIs s k p) e n in (w.1, ap (own_of 𝓛 (names_of s)) w.0))
      (⊎_elim
      (λ e. let w = subst (NodeIs s k p) e n in (w.1, ap (own_of 𝓛 (names_of s)) w.0))
      (⊎_elim
      (λ e. let w = subst (NodeIs s k p) e n in (w.1, ap (own_of 𝓛 (names_of s)) w.0))
      (λ e. let w = subst (NodeIs s k p) e n in (w.1, ap (own_of 𝓛 (names_of s)) w.0))))

  -- there is nothing
  nothing : {kind : ProcessKind} → NodeIs s k p kind → (kind ≡ Nil) ⊎ ((kind ≡ Sequence) ⊎ (kind ≡ Parallel)) →
      Brings 𝓛.bottom 𝓛.bottom
  unfolding own_of
  nothing n =
      ⊎_elim (λ e. ap (own_of 𝓛 (names_of s)) (subst (NodeIs s k p) e n))
      (⊎_elim (λ e. ap (own_of 𝓛 (names_of s)) (subst (NodeIs s k p) e n))
      (λ e. ap (own_of 𝓛 (names_of s)) (subst (NodeIs s k p) e n)))

-- a node of this kind whose part is p
module _
    (f : LevelledScript) {kind : ProcessKind} {p : Part} (is_node : IsNode f.checked.file.bytes.now kind p) where
  abbrev s : List ℕ
  s = f.checked.file.bytes.now

  abbrev 𝓛 : Lattice ℕ
  𝓛 = lattice_by f.levels.book

  is : (k : ℕ) → IsNodeAt s kind p k → NodeIs s k p kind
  is = node_is s f.checked.checked

  here : NodeIs s is_node.0 p kind
  here = is is_node.0 is_node.1

  -- the level of name a
  name_inside : (x : Name) → x ≡ name_of s p.a → p.a < name_count s → x.level < f.levels.book.count
  name_inside x e h = subst (λ x. x.level < f.levels.book.count) (sym e) (f.levelled p.a h)

  module _ (v : (kind ≡ Assign) ⊎ (kind ≡ Let)) where
    pub value_known : (p.a < f.checked.file.layout.names) × (p.b < f.checked.file.layout.expressions)
    value_known =
        let o = value 𝓛 s is_node.0 p here v in
        (omega (arith, o.0, names_are f.checked.file.laid), omega (arith, o.1.0, expressions_are f.checked.file.laid))

    pub value_brings :
        {d : ℕ} {x : Name} → LevelAt f.levels.book s p.b d → x ≡ name_of s p.a →
        OwnOf f.levels.book s kind p (brings d x.level)
    value_brings {d} {x} a e =
        record {
          same = λ k at. ap₂ brings a.same (ap (λ x. x.level) e) ∙ sym (value 𝓛 s k p (is k at) v).1.1;
          inside = record { level = a.inside; name = name_inside x e (value 𝓛 s is_node.0 p here v).0 };
        }

  module _ (v : (kind ≡ If) ⊎ (kind ≡ While)) where
    pub condition_known : p.a < f.checked.file.layout.expressions
    condition_known = omega (arith, (condition 𝓛 s is_node.0 p here v).0, expressions_are f.checked.file.laid)

    pub condition_brings :
        {d t : ℕ} → LevelAt f.levels.book s p.a d → t ≡ 𝓛.bottom → t < f.levels.book.count →
        OwnOf f.levels.book s kind p (brings d t)
    condition_brings a e h =
        record {
          same = λ k at. ap₂ brings a.same e ∙ sym (condition 𝓛 s k p (is k at) v).1;
          inside = record { level = a.inside; name = h };
        }

  module _ (v : (kind ≡ Emit) ⊎ ((kind ≡ Local) ⊎ ((kind ≡ Watching) ⊎ (kind ≡ When)))) where
    pub signal_known : p.a < f.checked.file.layout.names
    signal_known = omega (arith, (signal 𝓛 s is_node.0 p here v).0, names_are f.checked.file.laid)

    pub signal_brings : {x : Name} → x ≡ name_of s p.a → OwnOf f.levels.book s kind p (brings x.level x.level)
    signal_brings {x} e =
        let h = name_inside x e (signal 𝓛 s is_node.0 p here v).0 in
        record {
          same = λ k at. ap (λ x. brings x.level x.level) e ∙ sym (signal 𝓛 s k p (is k at) v).1;
          inside = record { level = h; name = h };
        }

  pub nothing_brings :
      (kind ≡ Nil) ⊎ ((kind ≡ Sequence) ⊎ (kind ≡ Parallel)) → {t : ℕ} → t ≡ 𝓛.bottom → t < f.levels.book.count →
      OwnOf f.levels.book s kind p (brings t t)
  nothing_brings v e h =
      record {
        same = λ k at. ap (λ t. brings t t) e ∙ sym (nothing 𝓛 s k p (is k at) v);
        inside = record { level = h; name = h };
      }
