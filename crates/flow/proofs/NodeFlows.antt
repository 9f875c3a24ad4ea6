-- What a node of a checked file has, from what it brings itself and what its children have.
use mathlib.Core.Path.{◌≡◌, sym, ap, ap₂, ◌∙◌, subst}
use mathlib.Core.Bool.{Bool, true, cond, ◌&&◌, ◌||◌}
use mathlib.Core.List.{List, [], ◌∷◌}
use mathlib.Core.Logic.{◌⊎◌, inl, inr, ⊎_elim}
use Prim.Native.Nat.{ℕ, ◌<◌}
use native.Mathlib.Omega.{arith}
use lib.Dec.{eqb}
use Rattle.prelude.specs.Search.{lesser}
use Rattle.prelude.proofs.Bools.{by_cases}
use Rattle.book.specs.declared.Book.{Book}
use Rattle.language.specs.Syntax.{Proc}
use Rattle.language.specs.Levels.{write_level, test_level}
use Rattle.layout.specs.Layout.{node_count}
use Rattle.layout.specs.Entries.{part_of, node}
use Rattle.fields.specs.Children.{first_child, second_child, child_count}
use Rattle.tree.specs.Tree.{names_of, process_of}
use Rattle.flow.specs.declared.nodes.Flow.{Flow}
use Rattle.flow.specs.declared.nodes.Own.{Own}
use Rattle.language.specs.Kinds as kinds
use Rattle.language.specs.KindGroups.{kind_of, has_write, has_test, children_of}
use Rattle.flow.specs.Nodes.{own_of, write_from, test_from, own_need, pair_need, both_from, flow_from, FlowWithin}
use Rattle.script.specs.Checked.{Checked}
use Rattle.lattice.specs.Lattice.{Lattice}
use Rattle.flow.specs.Flow.{Smallest, FailsIn, lattice_by, FlowAt}
use Rattle.flow.specs.Needs.{need_at}
use Rattle.flow.proofs.ByKind.{together, pair_holds, write_by_kind, test_by_kind, need_by_kind}
use Rattle.tree.proofs.Shapes.{Children, none, one, two, kind_is}
use Rattle.flow.proofs.FailingNodes.{FailsBelow, passes, fails}
use Rattle.flow.proofs.Least.{smallest_none, smallest_same, smallest_either}

-- what the children of node k have together, and whether it has what it needs of two children
pub record PartsAt (b : Book) (s : List ℕ) (k : ℕ) (parts : Flow) (pair : Bool) : Type 0 where
  pub write : parts.write ≡ (together (lattice_by b) (names_of s) (children_of (process_of s k))).write
  pub test : parts.test ≡ (together (lattice_by b) (names_of s) (children_of (process_of s k))).test
  pub need : pair ≡ pair_holds (lattice_by b) (names_of s) (part_of s (node s k)).kind (children_of (process_of s k))
  pub failing : Smallest (FailsBelow s k (lattice_by b)) (node_count s) parts.failing

-- node k, from its children together
module _ {s : List ℕ} (ok : Checked s) (b : Book) (k : ℕ) (h : k < node_count s) where
  abbrev 𝓛 : Lattice ℕ
  𝓛 = lattice_by b

  abbrev kind : ℕ
  kind = (part_of s (node s k)).kind

  module _
      (own : Own) (parts : Flow) (pair : Bool) (brought : own ≡ own_of 𝓛 (names_of s) (process_of s k))
      (at : PartsAt b s k parts pair) where
    kind_same : kind ≡ kind_of (process_of s k)
    kind_same = kind_is s ok k h

    write : write_from kind own parts ≡ write_level 𝓛 (names_of s) (process_of s k)
    write =
        ap (λ n. write_from n own parts) kind_same
        ∙ ap₂ (λ o w. cond (has_write (kind_of (process_of s k))) o.name w) brought at.write
        ∙ write_by_kind 𝓛 (names_of s) (process_of s k)

    test : test_from 𝓛 kind own parts ≡ test_level 𝓛 (names_of s) (process_of s k)
    test =
        ap (λ n. test_from 𝓛 n own parts) kind_same
        ∙ ap₂ (λ o t. cond (has_test (kind_of (process_of s k))) (𝓛.join o.level t) t) brought at.test
        ∙ test_by_kind 𝓛 (names_of s) (process_of s k)

    abbrev need_here : Bool
    need_here = pair && own_need 𝓛 kind own (write_from kind own parts) (test_from 𝓛 kind own parts)

    need_same : need_here ≡ need_at 𝓛 s k
    need_same =
        ap₂ ◌&&◌ (at.need ∙ ap (λ n. pair_holds 𝓛 (names_of s) n (children_of (process_of s k))) kind_same)
        (ap₂ (own_need 𝓛 kind own) write test
        ∙ ap₂
        (λ n o.
        own_need 𝓛 n o (write_level 𝓛 (names_of s) (process_of s k)) (test_level 𝓛 (names_of s) (process_of s k)))
        kind_same
        brought)
        ∙ need_by_kind 𝓛 (names_of s) (process_of s k)

    pub flow_at_lem : (r : Flow) → r ≡ flow_from 𝓛 k kind own parts pair → FlowWithin b.count r → FlowAt b s k r
    flow_at_lem r e inside =
        record {
          write = ap (λ f. f.write) e ∙ write;
          test = ap (λ f. f.test) e ∙ test;
          inside = inside;
          failing =
              subst (λ f. Smallest (FailsIn 𝓛 s k) (node_count s) f.failing) (sym e)
              (by_cases (Smallest (FailsIn 𝓛 s k) (node_count s)) need_here
              (λ t. passes 𝓛 s ok k h parts.failing at.failing (sym need_same ∙ t))
              (λ t. fails 𝓛 s ok k h parts.failing at.failing (sym need_same ∙ t)));
        }

  abbrev count : ℕ
  count = child_count kind

  abbrev first : ℕ
  first = first_child (part_of s (node s k))

  abbrev second : ℕ
  second = second_child (part_of s (node s k))

  pub parts_none :
      Children s k → count ≡ 0 → {w t n : ℕ} → w ≡ 𝓛.top → t ≡ 𝓛.bottom → n ≡ node_count s →
      PartsAt b s k (record { write = w; test = t; failing = n }) true
  parts_none (none n q) m ew et en =
      record {
        write = ew ∙ sym (ap (λ ps. (together 𝓛 (names_of s) ps).write) q);
        test = et ∙ sym (ap (λ ps. (together 𝓛 (names_of s) ps).test) q);
        need = sym (ap (pair_holds 𝓛 (names_of s) kind) q);
        failing =
            subst (Smallest (FailsBelow s k 𝓛) (node_count s)) (sym en)
            (smallest_none (FailsBelow s k 𝓛) (node_count s)
            (λ j u. ⊎_elim (λ h. absurd (omega (arith, h.0))) (λ h. absurd (omega (arith, h.0))) u.0));
      }
  parts_none (one n q a) m ew et en = absurd (omega arith)
  parts_none (two n q a c) m ew et en = absurd (omega arith)

  pub parts_one : Children s k → count ≡ 1 → (f : Flow) → FlowAt b s first f → PartsAt b s k f true
  parts_one (none n q) m f a = absurd (omega arith)
  parts_one (one n q c) m f a =
      record {
        write = a.write ∙ sym (ap (λ ps. (together 𝓛 (names_of s) ps).write) q);
        test = a.test ∙ sym (ap (λ ps. (together 𝓛 (names_of s) ps).test) q);
        need = sym (ap (pair_holds 𝓛 (names_of s) kind) q);
        failing =
            smallest_same (FailsIn 𝓛 s first) (node_count s) (FailsBelow s k 𝓛) f.failing
            (λ j u. (inl (omega arith, u.0), u.1))
            (λ j u. (⊎_elim (λ h. h.1) (λ h. absurd (omega (arith, h.0))) u.0, u.1))
            a.failing;
      }
  parts_one (two n q c d) m f a = absurd (omega arith)

  -- two children
  module _ (f g : Flow) (a : FlowAt b s first f) (d : FlowAt b s second g) where
    abbrev both : List (Proc ℕ)
    both = process_of s first ∷ (process_of s second ∷ [])

    need_both : pair_need 𝓛 kind f g ≡ pair_holds 𝓛 (names_of s) kind both
    need_both =
        ap₂ (λ x y. cond (eqb kind kinds.if_then_else) true (x && (eqb kind kinds.sequence || y)))
        (ap₂ 𝓛.leq a.test d.write)
        (ap₂ 𝓛.leq d.test a.write)

    -- the failing nodes below k are those in its first child and those in its second
    failing_both : count ≡ 2 → Smallest (FailsBelow s k 𝓛) (node_count s) (lesser f.failing g.failing)
    failing_both n =
        smallest_same (λ j. FailsIn 𝓛 s first j ⊎ FailsIn 𝓛 s second j) (node_count s)
        (FailsBelow s k 𝓛) (lesser f.failing g.failing)
        (λ j. ⊎_elim (λ u. (inl (omega arith, u.0), u.1)) (λ u. (inr (omega arith, u.0), u.1)))
        (λ j u. ⊎_elim (λ h. inl (h.1, u.1)) (λ h. inr (h.1, u.1)) u.0)
        (smallest_either (FailsIn 𝓛 s first) (node_count s) (FailsIn 𝓛 s second) f.failing g.failing a.failing d.failing)

    pub parts_two : Children s k → count ≡ 2 → PartsAt b s k (both_from 𝓛 f g) (pair_need 𝓛 kind f g)
    parts_two (none n q) m = absurd (omega arith)
    parts_two (one n q u) m = absurd (omega arith)
    parts_two (two n q u v) m =
        record {
          write = ap₂ 𝓛.meet a.write d.write ∙ sym (ap (λ ps. (together 𝓛 (names_of s) ps).write) q);
          test = ap₂ 𝓛.join a.test d.test ∙ sym (ap (λ ps. (together 𝓛 (names_of s) ps).test) q);
          need = need_both ∙ sym (ap (pair_holds 𝓛 (names_of s) kind) q);
          failing = failing_both n;
        }
