-- What each way out of `run` has to show.
use mathlib.Core.Path.{◌≡◌, refl, sym, ap, ◌∙◌, subst}
use mathlib.Core.Bool.{Bool, true, false}
use mathlib.Core.List.{List}
use Prim.Native.Nat.{ℕ, ◌/◌, ◌≤◌, ◌<◌}
use native.Mathlib.Omega.{arith}
use lib.IntN.{ℤ}
use lib.ListN.{length}
use Rattle.prelude.specs.declared.Refusal.{Refusal}
use Rattle.prelude.specs.Refusals.{passes}
use Rattle.book.specs.declared.Book.{Book}
use Rattle.book.specs.LevelBook.{count}
use Rattle.book.specs.Load.{book_of}
use Rattle.book.proofs.Sizes.{few_read}
use Rattle.lattice.specs.Lattice.{book_lattice}
use Rattle.lattice.proofs.Passing.{passing}
use Rattle.lattice.proofs.Theorems.{order_at}
use Rattle.language.specs.Calls.{starts, readable, most_steps, ending_number}
use Rattle.language.specs.Paths.{IsRun}
use Rattle.language.proofs.Theorems.{runs_agree}
use Rattle.language.proofs.Naming.{run_alike}
use Rattle.language.proofs.Stopping.{run_few}
use Rattle.layout.specs.Layout.{name_count}
use Rattle.layout.specs.Entries.{name_of}
use Rattle.script.specs.Checked.{Checked, Levelled}
use Rattle.script.proofs.Theorems.{accepted_exactly}
use Rattle.inputs.specs.Lists.{listed}
use Rattle.tree.specs.Tree.{names_of, tree}
use Rattle.runner.specs.declared.Ran.{Ran}
use Rattle.plan.specs.Plan.{sees_in}
use Rattle.runner.specs.Promises.{meant}
use Rattle.runner.proofs.Outcomes.{written_is}
use Rattle.checker.specs.Refusals.{check_refusal}
use Rattle.arguments.specs.Refusals.{call_refusal, run_refusal}
use Rattle.arguments.proofs.Passing.{run_accepted, run_bounds, run_listed}
use Rattle.arguments.proofs.Writes.{tree_writes}
use Rattle.results.specs.Results.{result_by}
use Rattle.engine.specs.Answers.{run_of, Left, left_by, refused_left, left}
use Rattle.engine.specs.Promises.{CanStart, run_for, Returns}

-- what a run that is not refused counts, which is within the limit, and what it leaves
pub record Leaves
    (b s : List ℕ) (reader : ℕ) (values : List ℤ) (limit : ℕ) (list log : List ℕ) (r : Ran) (values' : List ℤ)
    (log' : List ℕ) : Type 0 where
  pub steps : r.at.steps ≤ most_steps
  pub instants : r.at.instants ≤ most_steps
  pub lines : r.at.lines ≤ most_steps
  pub result :
      result_by (ending_number (meant r.ending)) r.at.steps r.at.instants r.at.lines ≡ (left b s reader values limit list log).result
  pub final : values' ≡ (left b s reader values limit list log).values
  pub logged : log' ≡ (left b s reader values limit list log).log

module _ (b s : List ℕ) (reader : ℕ) (values : List ℤ) (limit : ℕ) (list : List ℕ) where
  -- a refused call
  pub refused_left_lem :
      (log : List ℕ) {R : Refusal} → R ≡ run_refusal b s reader values limit list → passes R ≡ false →
      refused_left R values log ≡ left b s reader values limit list log
  unfolding left
  refused_left_lem log e f = rw (e, ap passes (sym e) ∙ f)

  pub by_check : {R : Refusal} → R ≡ check_refusal b s → passes R ≡ false → R ≡ run_refusal b s reader values limit list
  unfolding run_refusal
  by_check e f = e ∙ sym (rw (ap passes (sym e) ∙ f))

  pub by_call :
      {R : Refusal} → passes (check_refusal b s) ≡ true → R ≡ call_refusal (count b) s reader values limit list →
      R ≡ run_refusal b s reader values limit list
  unfolding run_refusal
  by_call p e = e ∙ sym (rw p)

  -- a call that is not refused
  module _ (p : passes (run_refusal b s reader values limit list) ≡ true) where
    file : Checked s × Levelled s (count b)
    file = accepted_exactly.checked _ _ (run_accepted b s reader values limit list p).0.script

    named : length values ≡ name_count s
    named = (run_accepted b s reader values limit list p).1.named

    bounds : (reader < count b) × (limit ≤ most_steps)
    bounds = run_bounds b s reader values limit list p

    abbrev sees : ℕ → Bool
    sees = readable (book_lattice b) (names_of s) reader

    module _ {bk : Book} (e : bk ≡ book_of b) where
      -- it can be run
      pub can_start : CanStart s bk reader values limit list
      can_start =
          record {
            plan =
                record {
                  levelled = rw e file.1;
                  levels = few_read b (passing _ (run_accepted b s reader values limit list p).0.book).size bk e;
                  reader = rw e bounds.0;
                };
            named = named;
            most = bounds.1;
            right = run_listed b s reader values limit list p;
          }

      -- what the runner leaves
      module _ {log : List ℕ} {r : Ran} {values' : List ℤ} {log' : List ℕ}
          (g : Returns (run_for bk s reader values limit list log) log r values' log') where
        agrees : (x : ℕ) → x < name_count s → sees_in bk s reader x ≡ sees x
        agrees x h = rw e (order_at b (name_of s x).level reader (file.1 x h) bounds.0)

        given : Returns (run_of b s reader values limit list log) log r values' log'
        given =
            subst (λ o. Returns o log r values' log')
            (run_alike (names_of s) (names_of s) (listed list) (sees_in bk s reader) _ (name_count s) (λ x l. refl) (λ x l. refl) agrees limit
            (length log / 4) (starts (tree s) values) named (tree_writes s file.0))
            g

        path :
            IsRun (names_of s) (listed list) sees limit (length log / 4) (starts (tree s) values)
            (run_of b s reader values limit list log)
        path = (runs_agree (names_of s) (listed list) sees limit (length log / 4) (starts (tree s) values)).path

        is : left_by (run_of b s reader values limit list log) log ≡ left b s reader values limit list log
        unfolding left
        is = sym (rw p)

        pub leaves : Leaves b s reader values limit list log r values' log'
        leaves =
            let steps : r.at.steps ≤ most_steps = omega (arith, given.steps, path.steps, path.in_limit, bounds.1) in
            record {
              steps = steps;
              instants = omega (arith, given.within, steps);
              lines =
                  omega (
                    arith,
                    given.lines,
                    run_few (names_of s) (listed list) sees limit (length log / 4) (starts (tree s) values),
                    bounds.1,
                  );
              result =
                  (λ i.
                  record {
                    number = 0;
                    place = 0;
                    ending = ending_number (given.ending i);
                    steps = given.steps i;
                    instants = given.instants i;
                    lines = given.lines i;
                  })
                  ∙ ap (λ (l : Left). l.result) is;
              final = given.final ∙ ap (λ (l : Left). l.values) is;
              logged =
                  given.logged
                  ∙ written_is (run_of b s reader values limit list log).lines log (omega (arith, path.in_room))
                  ∙ ap (λ (l : Left). l.log) is;
            }
