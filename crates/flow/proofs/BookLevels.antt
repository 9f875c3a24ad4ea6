-- Of levels of a book, what its tables keep and its rows say is what its lattice says, and it is a level of the book.
use mathlib.Core.Path.{◌≡◌, sym, ap, ap₂, ◌∙◌, subst}
use mathlib.Core.Bool.{Bool, true, cond, ◌&&◌, ◌||◌}
use Prim.Native.Nat.{ℕ, ◌<◌}
use native.Mathlib.Omega.{arith}
use lib.Dec.{eqb}
use Rattle.prelude.specs.Search.{lesser}
use Rattle.prelude.proofs.Bools.{by_cases}
use Rattle.book.specs.LevelBook.{most_levels}
use Rattle.lattice.specs.Lattice.{Lattice}
use Rattle.lattice.proofs.Theorems.{as_level_own}
use Rattle.language.specs.Kinds as kinds
use Rattle.language.specs.KindGroups.{has_test, has_write}
use Rattle.flow.specs.declared.levels.LevelTables.{LevelTables}
use Rattle.flow.specs.declared.nodes.Flow.{Flow}
use Rattle.flow.specs.declared.nodes.Own.{Own}
use Rattle.flow.specs.Nodes.{operations, write_from, test_from, own_need, pair_need, both_from, flow_from, OwnWithin, FlowWithin, PairWithin}
use Rattle.flow.specs.Flow.{lattice_by}

module _ (l : LevelTables) where
  abbrev 𝓛 : Lattice ℕ
  𝓛 = lattice_by l.book

  abbrev tabled : Lattice ℕ
  tabled = operations l.book l.tables.now

  abbrev n : ℕ
  n = l.book.count

  pub top_inside : l.top < n
  top_inside = subst (λ t. t < n) (sym l.greatest) l.ordered.laws.greatest.within

  pub bottom_inside : l.bottom < n
  bottom_inside = subst (λ t. t < n) (sym l.least) l.ordered.laws.least.within

  pub own_index : {own : Own} → OwnWithin n own → OwnWithin most_levels own
  own_index h = record { level = omega (arith, l.ordered.few, h.level); name = omega (arith, l.ordered.few, h.name) }

  pub flow_index : {f : Flow} → FlowWithin n f → FlowWithin most_levels f
  flow_index h = record { write = omega (arith, l.ordered.few, h.write); test = omega (arith, l.ordered.few, h.test) }

  module _ (i j : ℕ) (hi : i < n) (hj : j < n) where
    pub order_said : tabled.leq i j ≡ 𝓛.leq i j
    order_said = sym (rw (as_level_own n i hi, as_level_own n j hj))

    pub join_kept : tabled.join i j ≡ 𝓛.join i j
    join_kept = l.kept.joins i j hi hj ∙ sym (rw (as_level_own n i hi, as_level_own n j hj))

    pub meet_kept : tabled.meet i j ≡ 𝓛.meet i j
    meet_kept = l.kept.meets i j hi hj ∙ sym (rw (as_level_own n i hi, as_level_own n j hj))

    pub join_inside : 𝓛.join i j < n
    join_inside = rw (as_level_own n i hi, as_level_own n j hj) (l.ordered.laws.joins.within i j hi hj)

    pub meet_inside : 𝓛.meet i j < n
    meet_inside = rw (as_level_own n i hi, as_level_own n j hj) (l.ordered.laws.meets.within i j hi hj)

  module _ (kind : ℕ) (own : Own) (parts : Flow) (known : OwnWithin n own) (inside : FlowWithin n parts) where
    pub write_inside : write_from kind own parts < n
    write_inside = by_cases (λ w. w < n) (has_write kind) (λ _. known.name) (λ _. inside.write)

    pub test_inside : test_from 𝓛 kind own parts < n
    test_inside =
        by_cases (λ m. m < n) (has_test kind) (λ _. join_inside own.level parts.test known.level inside.test)
        (λ _. inside.test)

    pub flow_inside : (k : ℕ) (pair : Bool) → FlowWithin n (flow_from 𝓛 k kind own parts pair)
    flow_inside k pair = record { write = write_inside; test = test_inside }

    pub test_same : test_from tabled kind own parts ≡ test_from 𝓛 kind own parts
    test_same = ap (λ m. cond (has_test kind) m parts.test) (join_kept own.level parts.test known.level inside.test)

    pub need_same : (w t : ℕ) → w < n → t < n → own_need tabled kind own w t ≡ own_need 𝓛 kind own w t
    need_same w t hw ht =
        rw (
          order_said own.level own.name known.level known.name,
          order_said t w ht hw,
          order_said own.level w known.level hw,
        )

    abbrev made : ℕ → Bool → ℕ → Bool → Flow
    made test need k pair =
        record {
          write = write_from kind own parts;
          test = test;
          failing = cond (pair && need) parts.failing (lesser k parts.failing);
        }

    -- what `node_flow` finds by the tables and the rows
    pub flow_same : (k : ℕ) (pair : Bool) → flow_from tabled k kind own parts pair ≡ flow_from 𝓛 k kind own parts pair
    flow_same k pair =
        ap (λ m. made m (own_need tabled kind own (write_from kind own parts) m) k pair) test_same
        ∙ ap (λ b. made (test_from 𝓛 kind own parts) b k pair)
        (need_same (write_from kind own parts) (test_from 𝓛 kind own parts) write_inside test_inside)

    -- what it asks
    pub test_index : test_from tabled kind own parts < most_levels
    test_index = omega (arith, l.ordered.few, test_same, test_inside)

    pub node_asks :
        OwnWithin most_levels own × (FlowWithin most_levels parts × (test_from tabled kind own parts < most_levels))
    node_asks = (own_index known, (flow_index inside, test_index))

  module _ (kind : ℕ) (f g : Flow) (first : FlowWithin n f) (second : FlowWithin n g) where
    pub both_same : both_from tabled f g ≡ both_from 𝓛 f g
    both_same =
        ap₂ (λ w t. record { write = w; test = t; failing = lesser f.failing g.failing })
        (meet_kept f.write g.write first.write second.write)
        (join_kept f.test g.test first.test second.test)

    pub both_inside : FlowWithin n (both_from 𝓛 f g)
    both_inside =
        record {
          write = meet_inside f.write g.write first.write second.write;
          test = join_inside f.test g.test first.test second.test;
        }

    pub pair_same : pair_need tabled kind f g ≡ pair_need 𝓛 kind f g
    pair_same =
        ap₂ (λ x y. cond (eqb kind kinds.if_then_else) true (x && (eqb kind kinds.sequence || y)))
        (order_said f.test g.write first.test second.write)
        (order_said g.test f.write second.test first.write)

    -- what `pair_flow` asks
    pub pair_asks :
        {own : Own} → OwnWithin n own →
        OwnWithin most_levels own
        × (FlowWithin most_levels f × (FlowWithin most_levels g × PairWithin most_levels tabled kind own f g))
    pair_asks {own} known =
        let asked =
        subst
        (λ (b : Flow). OwnWithin most_levels own × (FlowWithin most_levels b × (test_from tabled kind own b < most_levels)))
        (sym both_same)
        (node_asks kind own (both_from 𝓛 f g) known both_inside) in
        (asked.0, (flow_index first, (flow_index second, record { parts = asked.1.0; test = asked.1.1 })))
