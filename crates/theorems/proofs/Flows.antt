-- 02 (e) about the calls: a script's flows and refusal 11. The statements stand in specs/Results.antt.
use mathlib.Core.Path.{◌≡◌, refl, sym, ap, ◌∙◌, subst}
use mathlib.Core.Bool.{true, false, not, true≢false, false≢true}
use mathlib.Core.List.{List}
use Prim.Native.Nat.{ℕ, ◌+◌, ◌*◌, ◌≤◌, ◌<◌}
use native.Mathlib.Decide.{dec_lt}
use native.Mathlib.Omega.{arith}
use lib.Dec.{eqb, ltb}
use lib.ListN.{get_or, get_or-eq_default}
use borrow.Author.Tests.{eqb-true, eq-eqb, ne_eqb, ltb-true}
use Rattle.prelude.specs.declared.Refusal.{Refusal}
use Rattle.prelude.specs.Refusals.{refused_by, not_refused, passes}
use Rattle.prelude.specs.Sets.{has, set_of}
use Rattle.prelude.proofs.Bools.{fails, by_cases, and_intro, and_left, and_right}
use Rattle.prelude.proofs.Refusing.{passes_both, or_else_next}
use Rattle.prelude.proofs.Sets.{has_zero, set_is, set_below}
use Rattle.prelude.proofs.Tables.{length_table, table_at}
use Rattle.book.specs.LevelBook.{most_levels, count, row, rows, at_or_below}
use Rattle.book.proofs.Sizes.{right_size}
use Rattle.order.specs.Refusals as orders
use Rattle.order.proofs.Loads.{passing_size}
use Rattle.lattice.specs.Refusals as books
use Rattle.lattice.specs.Lattice.{Lattice, book_lattice}
use Rattle.lattice.proofs.Theorems.{level_lattice, book_laws, order_at, book_few}
use Rattle.language.specs.Levels.{needs}
use Rattle.language.specs.RequiredFlows.{must_flow}
use Rattle.language.specs.Results.{FlowsAgree}
use Rattle.language.proofs.RequiredRanges.{flows_in}
use Rattle.language.proofs.Theorems as language
use Rattle.layout.specs.Layout.{name_count, node_count}
use Rattle.script.specs.Checked.{Checked}
use Rattle.script.specs.Refusals as scripts
use Rattle.script.proofs.Theorems.{accepted_exactly}
use Rattle.tree.specs.Tree.{names_of, tree}
use Rattle.tree.proofs.Theorems.{tree_named}
use Rattle.requirements.specs.Flows.{flows_to, flows_of}
use Rattle.flow.specs.Needs.{first_failing}
use Rattle.results.specs.declared.Verdict.{Verdict}
use Rattle.results.specs.declared.Flows.{Flows}
use Rattle.checker.specs.Refusals.{flow_refusal, check_refusal}
use Rattle.checker.proofs.Passing.{flow_passes}
use Rattle.engine.specs.Answers.{verdict, file_refusal, flows_found}
use Rattle.theorems.specs.Results.{HasLevels, is_listed, FlowsDecide, FlowsGrow}

-- a file that flows does not refuse
module _ (s : List ℕ) (zero : (flows_found s).number ≡ 0) where
  file_passes : passes (file_refusal s) ≡ true
  unfolding flows_found
  file_passes =
      by_cases
      (λ (f : Flows). f.number ≡ 0 → passes (file_refusal s) ≡ true)
      (passes (file_refusal s))
      (λ t z. t)
      (λ f z. eq-eqb _ _ z)
      zero

  ok : Checked s
  ok = (accepted_exactly.checked s most_levels file_passes).0

  sets_are : (flows_found s).to ≡ flows_of s
  unfolding flows_found
  sets_are = rw file_passes

  listed_is : (i j : ℕ) → i < most_levels → j < most_levels → is_listed s i j ≡ flows_to s i j
  unfolding flows_of
  listed_is i j hi hj =
      ap (λ l. has (get_or l i 0) j) sets_are
      ∙ ap (λ set. has set j) (table_at (λ i. set_of (flows_to s i) most_levels) most_levels i 0 hi)
      ∙ set_is (flows_to s i) most_levels j hj

  -- a listed pair is a pair of levels that a book can have
  listed_inside : (i j : ℕ) → is_listed s i j ≡ true → (i < most_levels) × (j < most_levels)
  unfolding flows_of
  listed_inside i j h =
      elim (dec_lt i most_levels) [
        | yes l ↦ (
          l,
          set_below (flows_to s i) most_levels j
              (ap (λ set. has set j)
              (sym (ap (λ l. get_or l i 0) sets_are ∙ table_at (λ i. set_of (flows_to s i) most_levels) most_levels i 0 l))
              ∙ h),
        )
        | no l ↦
            absurd (false≢true (sym
            (ap (λ set. has set j)
            (ap (λ l. get_or l i 0) sets_are
            ∙ get_or-eq_default (flows_of s) 0 {n = i}
            (omega (arith, l, length_table (λ i. set_of (flows_to s i) most_levels) most_levels)))
            ∙ has_zero j)
            ∙ h))
      ]

  -- under a book that has its levels
  module _ (b : List ℕ) (levelled : HasLevels b s) where
    abbrev 𝓛 : Lattice ℕ
    𝓛 = book_lattice b

    agrees : FlowsAgree 𝓛 (names_of s) (tree s)
    agrees = language.flows_agree 𝓛 (book_laws b levelled.book) (names_of s) (tree s)

    script_passes : scripts.is_accepted s (count b) ≡ true
    script_passes = accepted_exactly.accepted s (count b) ok levelled.names

    number_is : (verdict b s).number ≡ (flow_refusal 𝓛 s).number
    unfolding verdict check_refusal
    number_is =
        by_cases (λ (v : Verdict). v.number ≡ (check_refusal b s).number) (passes (check_refusal b s)) (λ _. refl) (λ _. refl)
        ∙ ap (λ (r : Refusal). r.number)
        (or_else_next (books.refusal b) _ levelled.book ∙ or_else_next (scripts.refusal s (count b)) _ script_passes)

    -- row 11 refuses exactly where a need fails
    refused_eleven : needs 𝓛 (names_of s) (tree s) ≡ false → (flow_refusal 𝓛 s).number ≡ 11
    refused_eleven h =
        by_cases (λ (r : Refusal). passes r ≡ false → r.number ≡ 11) (ltb (first_failing 𝓛 s) (node_count s))
        {x = refused_by 11 (first_failing 𝓛 s)}
        {y = not_refused}
        (λ _ _. refl)
        (λ _ z. absurd (true≢false z))
        (flow_passes b s ok ∙ h)

    eleven_refused : (flow_refusal 𝓛 s).number ≡ 11 → needs 𝓛 (names_of s) (tree s) ≡ false
    eleven_refused e =
        fails _ (λ t. let z : (flow_refusal 𝓛 s).number ≡ 0 = eqb-true _ _ (flow_passes b s ok ∙ t) in omega (arith, e, z))

    -- the levels of a flow that the script needs are levels of the book
    inside : (i j : ℕ) → must_flow (names_of s) (tree s) i j ≡ true → (i < count b) × (j < count b)
    inside =
        let named = tree_named s ok in
        (flows_in (λ a. a < count b) (names_of s) (tree s) _
        (λ x h. levelled.names x (ltb-true x (name_count s) (and_left (ltb x (name_count s)) _ h)))
        (λ k x d. levelled.names x (named.declared k x d))
        named.scoped
        ).flows

    abbrev Absent : Type 0
    Absent = (i : ℕ) × (j : ℕ) × (is_listed s i j ≡ true) × (at_or_below (rows b) i j ≡ false)

    absent : (verdict b s).number ≡ 11 → Absent
    absent e =
        let w = agrees.absent (eleven_refused (sym number_is ∙ e)) in
        let i : ℕ = w.0 in
        let j : ℕ = w.1 in
        let l = inside i j w.2 in
        let few = book_few b levelled.book in
        let apart : eqb i j ≡ false =
        ne_eqb i j (λ q.
        true≢false (sym (subst (λ j. 𝓛.leq i j ≡ true) q ((book_laws b levelled.book).reflexive i)) ∙ w.3)) in (
          i,
          j,
          listed_is i j (omega (arith, l.0, few)) (omega (arith, l.1, few)) ∙ and_intro _ _ (ap not apart) w.2,
          order_at b i j l.0 l.1 ∙ w.3,
        )

    refused : Absent → (verdict b s).number ≡ 11
    refused (i, j, listed, out) =
        number_is
        ∙ refused_eleven
        (fails _ (λ t.
        let l = listed_inside i j listed in
        let must = and_right (not (eqb i j)) _ (sym (listed_is i j l.0 l.1) ∙ listed) in
        let k = inside i j must in
        false≢true (sym out ∙ order_at b i j k.0 k.1 ∙ agrees.allowed t i j must)))

pub flows_decide : FlowsDecide
flows_decide b s zero levelled = (absent s zero b levelled, refused s zero b levelled)

-- a book has no row past its levels
past_rows : (c : List ℕ) → books.is_accepted c ≡ true → (i : ℕ) → count c ≤ i → get_or (rows c) i 0 ≡ 0
unfolding books.refusal
past_rows c passing i h =
    let size = right_size c (passing_size c (passes_both (orders.refusal c) _ passing).0) in
    elim (dec_lt i most_levels) [
      | yes l ↦
          table_at (row c) most_levels i 0 l
          ∙ omega (
            arith,
            get_or-eq_default c 0 {n = 1 + 2 * i} (omega (arith, h, size)),
            get_or-eq_default c 0 {n = 2 + 2 * i} (omega (arith, h, size)),
          )
      | no l ↦ get_or-eq_default (rows c) 0 {n = i} (omega (arith, l, length_table (row c) most_levels))
    ]

pub flows_grow : FlowsGrow
flows_grow b c s zero levelled passing more lets refuses =
    lets (refused s zero b levelled (fewer (absent s zero c levelled_too refuses)))
  where
    levelled_too : HasLevels c s
    levelled_too =
        record {
          book = passing;
          names =
              λ x h.
              let i : ℕ = (names_of s).level x in
              elim (dec_lt i (count c)) [
                | yes l ↦ l
                | no l ↦
                    absurd (false≢true (sym
                    (ap (λ set. has set i) (past_rows c passing i (omega arith)) ∙ has_zero i)
                    ∙ more i i ((level_lattice b levelled.book).order.reflexive i (levelled.names x h))))
              ];
        }

    fewer : Absent s zero c levelled_too → Absent s zero b levelled
    fewer (i, j, listed, out) = (i, j, listed, fails _ (λ t. false≢true (sym out ∙ more i j t)))
