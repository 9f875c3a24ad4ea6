-- Demands 2 and 3 about the calls. The statements stand in specs/Results.antt.
use mathlib.Core.Path.{◌≡◌, refl, sym, ap, ◌∙◌, subst}
use mathlib.Core.Bool.{Bool, true, ◌&&◌}
use mathlib.Core.Option.{none, some}
use mathlib.Core.List.{List, [], map}
use Prim.Native.Nat.{ℕ, ◌/◌, ◌≤◌, ◌<◌}
use native.Mathlib.Decide.{dec_lt}
use native.Mathlib.Omega.{arith}
use lib.IntN.{ℤ}
use lib.ListN.{length}
use lib.Dec.{ltb}
use borrow.Author.Tests.{eq-eqb, eqb-true, lt-ltb, ltb-true}
use Rattle.prelude.specs.Refusals.{passes}
use Rattle.prelude.specs.Search.{first_from, first, any}
use Rattle.prelude.proofs.Bools.{by_cases, fails, and_intro, and_left, and_right, same_truth}
use Rattle.book.specs.LevelBook.{count, rows, at_or_below}
use Rattle.lattice.specs.Refusals as books
use Rattle.lattice.specs.Lattice.{Lattice, book_lattice}
use Rattle.lattice.proofs.Theorems.{level_lattice, book_laws, join_in, meet_in, one_level}
use Rattle.language.specs.Syntax.{Names}
use Rattle.language.specs.Levels.{write_level, test_level}
use Rattle.language.specs.Scope.{Scoped}
use Rattle.language.specs.Calls.{Run, starts, readable, run, line_words}
use Rattle.language.specs.Typing.{Below, Typed, Tightest}
use Rattle.language.specs.NameKinds.{sig}
use Rattle.language.specs.Results.{LevelsAgree, stamped_up_to, StartsAgree, InputsAgree, RecordsAgree}
use Rattle.language.proofs.LevelRanges.{Closed, levels_in}
use Rattle.language.proofs.Theorems as language
use Rattle.report.specs.Configurations.{InputsWithin}
use Rattle.report.specs.Scope.{Script}
use Rattle.report.proofs.Starts.{begun_begins}
use Rattle.report.proofs.Theorems as report
use Rattle.inputs.specs.Lists.{listed}
use Rattle.inputs.proofs.Lists.{listed_where}
use Rattle.layout.specs.Layout.{name_count}
use Rattle.layout.specs.Entries.{is_session_name}
use Rattle.script.specs.Checked.{Checked}
use Rattle.script.specs.Refusals as scripts
use Rattle.script.proofs.Theorems.{accepted_exactly}
use Rattle.tree.specs.Tree.{names_of, tree}
use Rattle.tree.proofs.Theorems.{tree_scoped, tree_named}
use Rattle.results.specs.declared.Verdict.{Verdict}
use Rattle.checker.specs.Refusals.{check_refusal}
use Rattle.arguments.specs.Refusals.{run_refusal}
use Rattle.arguments.specs.Promises.{ListRight}
use Rattle.bound.specs.Bound.{bound_of}
use Rattle.results.specs.Results.{verdict_by}
use Rattle.engine.specs.Answers.{verdict, run_of, Left, left_by, left}
use Rattle.theorems.specs.Records.{stamp}
use Rattle.theorems.specs.Results.{session_environment, CheckAgrees, RunAgrees, RunsUnlisted, RunReported, Readable, StartEqual, ListsAgree, NothingShows, DemandThree, DemandThreeUnlisted}
use Rattle.checker.proofs.Passing.{Accepted, checked, accepted, accepts}
use Rattle.arguments.proofs.Passing.{Started, run_accepted, run_listed}
use Rattle.theorems.proofs.Records.{record_of_lem, stamped_words}

-- the operations of a book's lattice give levels of the book
book_levels : (b : List ℕ) → books.is_accepted b ≡ true → Closed (book_lattice b) (λ a. a < count b)
book_levels b h =
    let w = level_lattice b h in
    record {
      join = λ i j _ _. join_in _ _ w i j;
      meet = λ i j _ _. meet_in _ _ w i j;
      top = w.greatest.within;
      bottom = w.least.within;
    }

module _ (b s : List ℕ) where
  abbrev 𝓛 : Lattice ℕ
  𝓛 = book_lattice b

  -- an answer of number 0 is that of a call that is not refused
  verdict_passes : (verdict b s).number ≡ 0 → passes (check_refusal b s) ≡ true
  unfolding verdict
  verdict_passes =
      by_cases
      (λ (v : Verdict). v.number ≡ 0 → passes (check_refusal b s) ≡ true)
      (passes (check_refusal b s))
      (λ t z. t)
      (λ f z. eq-eqb _ _ z)

  verdict_is :
      passes (check_refusal b s) ≡ true →
      verdict b s
      ≡ verdict_by (check_refusal b s) (write_level 𝓛 (names_of s) (tree s)) (test_level 𝓛 (names_of s) (tree s)) (bound_of s)
  unfolding verdict
  verdict_is h = rw h

  scoped : scripts.is_accepted s (count b) ≡ true → Scoped (names_of s) (names_of s).is_session (tree s)
  scoped h = tree_scoped s (checked b s h)

  levels :
      books.is_accepted b ≡ true → scripts.is_accepted s (count b) ≡ true →
      LevelsAgree 𝓛 (names_of s) (session_environment s) (tree s)
  levels k h =
      language.levels_agree 𝓛 (book_laws b k) (names_of s) (tree s) (is_session_name s)
      (tree_named s (checked b s h)).scoped

  -- the rules give the script some pair
  abbrev Typable : Type 0
  Typable = (θ : ℕ) × (σ : ℕ) × Typed 𝓛 (session_environment s) (tree s) θ σ

  accepts_typable : books.is_accepted b ≡ true → scripts.is_accepted s (count b) ≡ true → Typable → (verdict b s).number ≡ 0
  accepts_typable k h d =
      let p = accepts b s (record { book = k; script = h; flow = (levels k h).accepts.1 d }) in
      ap (λ v. v.number) (verdict_is p) ∙ eqb-true _ _ p

  module _ (zero : (verdict b s).number ≡ 0) where
    has : Accepted b s
    has = accepted b s (verdict_passes zero)

    agrees : LevelsAgree 𝓛 (names_of s) (session_environment s) (tree s)
    agrees = levels has.book has.script

    write_is : (verdict b s).write ≡ write_level 𝓛 (names_of s) (tree s)
    write_is = ap (λ v. v.write) (verdict_is (verdict_passes zero))

    test_is : (verdict b s).test ≡ test_level 𝓛 (names_of s) (tree s)
    test_is = ap (λ v. v.test) (verdict_is (verdict_passes zero))

    derivable : Typed 𝓛 (session_environment s) (tree s) (verdict b s).write (verdict b s).test
    derivable = rw (write_is, test_is) (agrees.derivable has.flow)

    tightest : Tightest 𝓛 (session_environment s) (tree s) (verdict b s).write (verdict b s).test
    tightest θ σ d = rw (write_is, test_is) (agrees.tightest θ σ d)

    -- each name of the script is a name of the file, so its level is a level of the book
    inside : ((verdict b s).write < count b) × ((verdict b s).test < count b)
    inside =
        let file = accepted_exactly.checked s (count b) has.script in
        let named = tree_named s file.0 in
        rw (write_is, test_is)
        (levels_in 𝓛 (λ a. a < count b) (book_levels b has.book) (names_of s) (tree s) (is_session_name s)
        (λ x h. file.1 x (ltb-true x (name_count s) (and_left (ltb x (name_count s)) _ h)))
        (λ k x d. file.1 x (named.declared k x d)) named.scoped)

    -- two levels of the book, each at or below the other
    same_level : (i j : ℕ) → i < count b → j < count b → Below 𝓛 i j → Below 𝓛 j i → i ≡ j
    same_level = one_level (at_or_below (rows b)) (count b) (level_lattice b has.book)

  pub check_agrees : CheckAgrees b s
  check_agrees =
      record {
        accepts = (
          λ z. ((has z).book, ((has z).script, (agrees z).accepts.0 (has z).flow)),
          λ h. accepts_typable h.0 h.1.0 h.1.1,
        );
        lattice = λ z. book_laws b (has z).book;
        derivable = derivable;
        tightest = tightest;
        levels = inside;
        unique =
            λ z θ σ hθ hσ given tight.
            let ours = tightest z θ σ given in
            let theirs = tight (verdict b s).write (verdict b s).test (derivable z) in (
              same_level z θ (verdict b s).write hθ (inside z).0 ours.0 theirs.0,
              same_level z σ (verdict b s).test hσ (inside z).1 theirs.1 ours.1,
            );
      }

-- what a list names that is not refused: session signals of the script
module _ (s list : List ℕ) (right : ListRight s list) where
  listed_known : (i a : ℕ) → listed list i a ≡ true → (a < name_count s) × ((names_of s).is_session a ≡ true)
  listed_known i a h =
      let u = listed_where list i a h in
      rw (← u.3) (right.known u.0 u.1, right.session u.0 u.1)

  inputs_within : InputsWithin (session_environment s) (listed list)
  inputs_within i a e = fails (listed list i a) (λ h. absent (in_session h) e)
    where
      in_session : listed list i a ≡ true → (is_session_name s a && (names_of s).is_signal a) ≡ true
      in_session h =
          let u = listed_where list i a h in
          let k = listed_known i a h in
          let signal : (names_of s).is_signal a ≡ true = rw (← u.3) (right.signals u.0 u.1) in
          and_intro _ _ (and_intro _ _ (lt-ltb a (name_count s) k.0) k.1) signal

      absent : (is_session_name s a && (names_of s).is_signal a) ≡ true → session_environment s sig a ≡ none → ⊥
      absent h e = let d : some ((names_of s).level a) ≡ none = rw h at e in let z : ◌≡◌ {A = ℕ} 0 1 = cc in omega arith

module _ (b s : List ℕ) (reader : ℕ) (values : List ℤ) (limit : ℕ) (list log : List ℕ) where
  -- as above, of run
  left_passes :
      (left b s reader values limit list log).result.number ≡ 0 → passes (run_refusal b s reader values limit list) ≡ true
  unfolding left
  left_passes =
      by_cases
      (λ (l : Left). l.result.number ≡ 0 → passes (run_refusal b s reader values limit list) ≡ true)
      (passes (run_refusal b s reader values limit list))
      (λ t z. t)
      (λ f z. eq-eqb _ _ z)

  left_is :
      (left b s reader values limit list log).result.number ≡ 0 →
      left b s reader values limit list log ≡ left_by (run_of b s reader values limit list log) log
  unfolding left
  left_is z = let h = left_passes z in rw h

  pub run_agrees : RunAgrees b s reader values limit list log
  run_agrees =
      let agree =
      language.runs_agree
      (names_of s)
      (listed list)
      (readable (book_lattice b) (names_of s) reader)
      limit
      (length log / 4)
      (starts (tree s) values)
      in
      record { is = left_is; path = agree.path; only = agree.only }

  -- the script's names are as the report's relation asks
  script_of : Checked s → Script (names_of s) (is_session_name s) (name_count s) (tree s)
  script_of ok =
      let t = tree_named s ok in
      record {
        scoped = t.scoped;
        once = t.once;
        sessions = λ x h. (
          and_right (ltb x (name_count s)) _ h,
          ltb-true x (name_count s)
              (and_left (ltb x (name_count s)) _ h),
        );
        declared = t.declared;
      }

  pub run_reported : RunReported b s reader values limit list log
  run_reported =
      record {
        begins = begun_begins (session_environment s) (starts (tree s) values);
        reported =
            λ z C begins.
            let a = run_accepted b s reader values limit list (left_passes z) in
            report.reported (script_of (checked b s a.0.script)) a.1.named begins
            (inputs_within s list (run_listed b s reader values limit list (left_passes z)))
            (λ δ. (book_lattice b).leq δ reader)
            run_agrees.path
            refl;
      }

-- Demand 3: starts that agree for the session agree for the whole script, since owned names start at 0.
starts_agree :
    (b s : List ℕ) (reader : ℕ) (values₁ values₂ : List ℤ) → Started s values₁ → Started s values₂ →
    StartEqual b s reader values₁ values₂ → StartsAgree (book_lattice b) (names_of s) reader values₁ values₂
starts_agree b s reader values₁ values₂ one two same =
    record {
      lengths = one.named ∙ sym two.named;
      session =
          λ x n r.
          elim (dec_lt x (name_count s)) [
            | yes l ↦ same x (record { known = l; session = n; low = r })
            | no l ↦ one.past x (omega arith) ∙ sym (two.past x (omega arith))
          ];
      owned = λ x n. (one.owned x n, two.owned x n);
    }

-- lists that agree for the session agree for the whole script, since they name nothing else
inputs_agree :
    (b s : List ℕ) (reader : ℕ) (list₁ list₂ : List ℕ) → ListRight s list₁ → ListRight s list₂ →
    ListsAgree b s reader list₁ list₂ → InputsAgree (book_lattice b) (names_of s) reader (listed list₁) (listed list₂)
inputs_agree b s reader list₁ list₂ one two same i a r =
    same_truth _ _
    (λ h. let k = listed_known s list₁ one i a h in sym (same i a (here k.0 k.1)) ∙ h)
    (λ h. let k = listed_known s list₂ two i a h in same i a (here k.0 k.1) ∙ h)
  where
    here : a < name_count s → (names_of s).is_session a ≡ true → Readable b s reader a
    here l n = record { known = l; session = n; low = r }

-- the runs of two calls: they have the same room, since the logs are equally long
records_agree :
    (b s : List ℕ) (reader n m : ℕ) (values₁ values₂ : List ℤ) (list₁ list₂ log₁ log₂ : List ℕ) → n ≤ m →
    length log₁ ≡ length log₂ → Accepted b s → StartsAgree (book_lattice b) (names_of s) reader values₁ values₂ →
    InputsAgree (book_lattice b) (names_of s) reader (listed list₁) (listed list₂) →
    RecordsAgree (book_lattice b) (names_of s) reader n m (run_of b s reader values₁ n list₁ log₁)
    (run_of b s reader values₂ m list₂ log₂)
records_agree b s reader n m values₁ values₂ list₁ list₂ log₁ log₂ l same_length a same inputs =
    let names : Names ℕ = names_of s in
    let sees : ℕ → Bool = readable (book_lattice b) names reader in
    subst
    (λ k.
    RecordsAgree (book_lattice b) names reader n m (run_of b s reader values₁ n list₁ log₁)
    (run names (listed list₂) sees m (k / 4) (starts (tree s) values₂)))
    same_length
    (language.noninterference (book_lattice b) (book_laws b a.book) names (tree s) (scoped b s a.script) a.flow
    reader values₁ values₂ same (listed list₁) (listed list₂) inputs (length log₁ / 4) n m l)

-- what is proved of two runs, said of what they leave
nothing_shows :
    (b s : List ℕ) (reader n m : ℕ) (r₁ r₂ : Run) (log₁ log₂ : List ℕ) →
    RecordsAgree (book_lattice b) (names_of s) reader n m r₁ r₂ →
    NothingShows b s reader n m (left_by r₁ log₁) (left_by r₂ log₂)
nothing_shows b s reader n m r₁ r₂ log₁ log₂ h =
    record {
      shorter =
          record_of_lem r₁ log₁
          ∙ ap (map line_words) h.shorter
          ∙ sym (stamped_words n r₂.lines)
          ∙ ap (stamped_up_to stamp n) (sym (record_of_lem r₂ log₂));
      equal = λ e. record_of_lem r₁ log₁ ∙ ap (map line_words) (h.equal e) ∙ sym (record_of_lem r₂ log₂);
      registers = λ e x u k. h.registers e x u.session k u.low;
    }

pub demand_three : DemandThree
demand_three b s reader n m values₁ values₂ list₁ list₂ log₁ log₂ l same_length zero₁ zero₂ same lists =
    let passes₁ = left_passes b s reader values₁ n list₁ log₁ zero₁ in
    let passes₂ = left_passes b s reader values₂ m list₂ log₂ zero₂ in
    let one = run_accepted b s reader values₁ n list₁ passes₁ in
    let two = run_accepted b s reader values₂ m list₂ passes₂ in
    let start = starts_agree b s reader values₁ values₂ one.1 two.1 same in
    let inputs =
    inputs_agree b s reader list₁ list₂ (run_listed b s reader values₁ n list₁ passes₁)
    (run_listed b s reader values₂ m list₂ passes₂) lists in
    rw
    (left_is b s reader values₁ n list₁ log₁ zero₁, left_is b s reader values₂ m list₂ log₂ zero₂)
    (nothing_shows b s reader n m _ _ log₁ log₂
    (records_agree b s reader n m values₁ values₂ list₁ list₂ log₁ log₂ l same_length one.0 start inputs))

pub demand_three_unlisted : DemandThreeUnlisted
demand_three_unlisted b s reader n m values₁ values₂ log₁ log₂ l same_length zero₁ zero₂ same =
    demand_three b s reader n m values₁ values₂ [] [] log₁ log₂ l same_length zero₁ zero₂ same (λ i x r. refl)

pub runs_unlisted :
    (b s : List ℕ) (reader : ℕ) (values : List ℤ) (limit : ℕ) (log : List ℕ) → RunsUnlisted b s reader values limit log
unfolding listed any first first_from
runs_unlisted b s reader values limit log = refl
