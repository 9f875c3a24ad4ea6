-- The words of a plan: what was packed into one is what it tells.
use mathlib.Core.Path.{◌≡◌, refl, sym, ap, ◌∙◌, subst}
use mathlib.Core.Bool.{Bool, cond}
use mathlib.Core.List.{List}
use Prim.Native.Nat.{ℕ, ◌+◌, ◌*◌, ◌^◌, ◌≤◌, ◌<◌}
use native.Mathlib.Decide.{ℕ_discrete}
use native.Mathlib.Omega.{arith}
use lib.Dec.{eqb, ltb}
use lib.ListN.{get_or, set, length, length-set}
use lib.Seq.{get_or-set_same, get_or-set_other}
use borrow.Author.Tests.{eqb-true, ltb-true, le-leb, lt-leb}
use Rattle.prelude.specs.Search.{all, any, first_from}
use Rattle.prelude.specs.Search as search-for
use Rattle.prelude.proofs.Searches.{all_elim}
use Rattle.layout.specs.declared.parts.Name.{Name}
use Rattle.layout.specs.declared.parts.Part.{Part}
use Rattle.layout.specs.Entries.{name_of, session, part_of, node}
use Rattle.layout.specs.Layout.{node_count}
use Rattle.fields.specs.declared.children.Children.{Children}
use Rattle.fields.specs.declared.children.Children.TheVariants.{None, One, Two}
use Rattle.fields.specs.Children.{first_child, second_child, AreChildren}
use Rattle.script.specs.Checked.{Checked}
use Rattle.language.specs.NodeCounts.{size}
use Rattle.language.specs.Shapes.{watches}
use Rattle.tree.specs.Promises.{KeepsSizes}
use Rattle.tree.specs.Tree.{process_of}
use Rattle.tree.proofs.NodeSizes.{size_within}
use Rattle.program.specs.Program.{most_names, most_expressions, most_nodes, name_start, expression_start, node_start}
use Rattle.program.specs.Forms.{form_of, forms_of}
use Rattle.packing.specs.Packing.{form_in, packed_fields, marked, packed_node, packed_name}
use Rattle.packing.proofs.Words.{low, a_told, b_told, first_told, size_told, kind_told, mark_told, level_told, signal_told, session_told, seen_told}
use Rattle.plan.specs.Plan.{NamePacked, ExpressionPacked, field_b, fields_by, NodePacked, Keeps}
use Rattle.plan.proofs.Missing.{no_first, no_second}

pub forms_fit : (kind : ℕ) → kind < 11 → forms_of kind < 65536
unfolding all any search-for.first first_from
forms_fit kind h = ltb-true _ _ (all_elim (λ k. ltb (forms_of k) 65536) 11 refl kind h)

forms_tell : (kind tag : ℕ) → kind < 11 → tag < 4 → form_in (forms_of kind) tag ≡ form_of kind tag
unfolding all any search-for.first first_from
forms_tell kind tag h l =
    eqb-true _ _
    (all_elim (λ t. eqb (form_in (forms_of kind) t) (form_of kind t)) 4
    (all_elim (λ k. all (λ t. eqb (form_in (forms_of k) t) (form_of k t)) 4) 11 refl kind h)
    tag l)

-- the word that is packed for node k
module _ (s : List ℕ) (k : ℕ) where
  abbrev entry : Part
  entry = part_of s (node s k)

  module _ (n : entry.kind < 11) (few : k ≤ 256) (one two count : ℕ) (w : Bool) (a : one ≡ first_child entry)
      (b : two ≡ second_child entry)
      (sized : first_child entry < k → (count ≡ size (process_of s (first_child entry))) × (count < 1024))
      (marks : w ≡ watches (process_of s k)) where
    abbrev forms : ℕ
    forms = forms_of entry.kind

    abbrev later : ℕ
    later = field_b entry two

    abbrev fields : ℕ
    fields = packed_fields entry.a later one count

    abbrev kind : ℕ
    kind = marked entry.kind w

    fit : forms < 65536
    fit = forms_fit entry.kind n

    known : entry.kind < 128
    known = omega (arith, n)

    b_is : entry.kind ≤ 2 → later ≡ entry.b
    b_is l = ap (λ t. cond t entry.b two) (le-leb entry.kind 2 l)

    second_is : 2 < entry.kind → later ≡ second_child entry
    second_is l = ap (λ t. cond t entry.b two) (lt-leb entry.kind 2 l) ∙ b

    pub node_packed : NodePacked s k (packed_node forms fields kind)
    node_packed =
        record {
          forms = λ tag l. low forms (fields + 2 ^ 40 * kind) tag l ∙ forms_tell entry.kind tag n l;
          kind = kind_told forms entry.a later one count entry.kind fit known w;
          watches = mark_told forms entry.a later one count entry.kind fit known w ∙ marks;
          a = λ h. omega (arith, h, a_told forms kind entry.a later one count fit);
          b = λ l h. omega (arith, h, b_is l, b_told forms kind entry.a later one count fit);
          second = λ l h. omega (arith, h, few, second_is l, b_told forms kind entry.a later one count fit);
          first = λ h. omega (arith, h, few, a, first_told forms kind entry.a later one count fit);
          size = λ h. omega (arith, (sized h).0, (sized h).1, size_told forms kind entry.a later one count fit);
        }

  -- by its children and the sizes of the nodes before
  module _
      (ok : Checked s) (h : k < node_count s) (n : entry.kind < 11) (few : k ≤ most_nodes) (w : Bool)
      (marks : w ≡ watches (process_of s k)) (sizes : List ℕ) (keeps : KeepsSizes s k sizes) where
    sized :
        (i : ℕ) → i ≡ first_child entry → first_child entry < k →
        (get_or sizes i 0 ≡ size (process_of s (first_child entry))) × (get_or sizes i 0 < 1024)
    sized i e l =
        let is : get_or sizes i 0 ≡ size (process_of s i) = keeps i (omega (arith, e, l)) in
        (is ∙ ap (λ i. size (process_of s i)) e, omega (arith, is, e, l, few, size_within s ok i (omega (arith, e, l, h))))

    made :
        (i j : ℕ) → i ≡ first_child entry → j ≡ second_child entry →
        NodePacked s k (packed_node (forms_of entry.kind) (packed_fields entry.a (field_b entry j) i (get_or sizes i 0)) (marked entry.kind w))
    made i j a b = node_packed n few i j (get_or sizes i 0) w a b (sized i a) marks

    packed_by :
        (r : Children) → AreChildren entry r →
        NodePacked s k (packed_node (forms_of entry.kind) (fields_by sizes entry r) (marked entry.kind w))
    packed_by None a = made 0 0 (no_first s ok k h a) (no_second s ok k h (omega (arith, a)))
    packed_by (One i) a = made i 0 a.1 (no_second s ok k h (omega (arith, a.0)))
    packed_by (Two i j) a = made i j a.1.0 a.1.1

    -- the same of the part that was read
    pub packed_at :
        {p : Part} → p ≡ entry → (r : Children) → AreChildren p r →
        NodePacked s k (packed_node (forms_of p.kind) (fields_by sizes p r) (marked p.kind w))
    packed_at e r a =
        subst (λ (p : Part). NodePacked s k (packed_node (forms_of p.kind) (fields_by sizes p r) (marked p.kind w))) (sym e)
        (packed_by r (subst (λ p. AreChildren p r) e a))

-- the word that is packed for name x, whose entry is n
module _ (s : List ℕ) (sees : ℕ → Bool) (x : ℕ) (n : Name) (q : n ≡ name_of s x) (h : n.level < 256) (k : n.kind < 2) where
  pub name_packed :
      (seen : Bool) → seen ≡ sees x →
      NamePacked s sees x (packed_name n.level n.kind (eqb n.owner session) seen)
  name_packed seen e =
      let own = eqb n.owner session in
      record {
        level = level_told _ _ own seen h k ∙ ap (λ (m : Name). m.level) q;
        signal = signal_told _ _ own seen h k ∙ ap (λ (m : Name). eqb m.kind 1) q;
        session = session_told _ _ own seen h k ∙ ap (λ (m : Name). eqb m.owner session) q;
        seen = seen_told _ _ own seen h k ∙ e;
      }

-- loops that fill a table of words from a place on: one more, and a word elsewhere
module _ (P : ℕ → ℕ → Type 0) (at : ℕ) (t : List ℕ) where
  abbrev pub Kept : ℕ → List ℕ → Type 0
  Kept n t = (j : ℕ) → j < n → P j (get_or t (at + j) 0)

  pub kept_more : (i w : ℕ) → at + i < length t → P i w → Kept i t → Kept (i + 1) (set t (at + i) w)
  kept_more i w h x keeps j l =
      elim (ℕ_discrete j i) [
        | yes same ↦ rw (same, get_or-set_same t (at + i) w 0 h) x
        | no other ↦ rw (get_or-set_other t (at + i) (at + j) w 0 (λ e. other (omega (arith, e)))) (keeps j (omega arith))
      ]

  pub kept_still : (n i w : ℕ) → ((j : ℕ) → j < n → at + j ≡ i → ⊥) → Kept n t → Kept n (set t i w)
  kept_still n i w apart keeps j l = rw (get_or-set_other t i (at + j) w 0 (apart j l)) (keeps j l)

-- a word more in the table of words, of a name, an expression or a node
module _ {s : List ℕ} {sees : ℕ → Bool} {x e k : ℕ} {words : List ℕ} (keeps : Keeps s sees x e k words) where
  pub name_more : {w : ℕ} → x < most_names → NamePacked s sees x w → Keeps s sees (x + 1) e k (set words (name_start + x) w)
  name_more {w} h p =
      record {
        long = length-set words (name_start + x) w ∙ keeps.long;
        name = kept_more (NamePacked s sees) name_start words x w (omega (arith, keeps.long)) p keeps.name;
        expression = kept_still (ExpressionPacked s) expression_start words e (name_start + x) w (λ j l q. omega arith) keeps.expression;
        node = kept_still (NodePacked s) node_start words k (name_start + x) w (λ j l q. omega arith) keeps.node;
      }

  pub expression_more :
      {w : ℕ} → x ≤ most_names → e < most_expressions → ExpressionPacked s e w →
      Keeps s sees x (e + 1) k (set words (expression_start + e) w)
  expression_more {w} few h p =
      record {
        long = length-set words (expression_start + e) w ∙ keeps.long;
        name = kept_still (NamePacked s sees) name_start words x (expression_start + e) w (λ j l q. omega arith) keeps.name;
        expression = kept_more (ExpressionPacked s) expression_start words e w (omega (arith, keeps.long)) p keeps.expression;
        node = kept_still (NodePacked s) node_start words k (expression_start + e) w (λ j l q. omega arith) keeps.node;
      }

  module _ (few : x ≤ most_names) (some : e ≤ most_expressions) where
    pub node_more : {w : ℕ} → k < most_nodes → NodePacked s k w → Keeps s sees x e (k + 1) (set words (node_start + k) w)
    node_more {w} h p =
        record {
          long = length-set words (node_start + k) w ∙ keeps.long;
          name = kept_still (NamePacked s sees) name_start words x (node_start + k) w (λ j l q. omega arith) keeps.name;
          expression = kept_still (ExpressionPacked s) expression_start words e (node_start + k) w (λ j l q. omega arith) keeps.expression;
          node = kept_more (NodePacked s) node_start words k w (omega (arith, keeps.long)) p keeps.node;
        }

  -- and the word of the counts
  pub counts_kept : (w : ℕ) → Keeps s sees x e k (set words 0 w)
  counts_kept w =
      record {
        long = length-set words 0 w ∙ keeps.long;
        name = kept_still (NamePacked s sees) name_start words x 0 w (λ j l q. omega arith) keeps.name;
        expression = kept_still (ExpressionPacked s) expression_start words e 0 w (λ j l q. omega arith) keeps.expression;
        node = kept_still (NodePacked s) node_start words k 0 w (λ j l q. omega arith) keeps.node;
      }
