-- What a check that refuses nothing shows of its book and script.
use mathlib.Core.Path.{◌≡◌, refl, sym, ◌∙◌}
use mathlib.Core.Bool.{true}
use mathlib.Core.List.{List}
use Prim.Native.Nat.{ℕ}
use Rattle.prelude.specs.Refusals.{passes, or_else}
use Rattle.prelude.proofs.Refusing.{passes_both, both_pass}
use Rattle.prelude.proofs.Searches.{first_within}
use Rattle.book.specs.LevelBook.{count}
use Rattle.lattice.specs.Refusals as books
use Rattle.lattice.specs.Lattice.{book_lattice}
use Rattle.language.specs.Levels.{needs}
use Rattle.layout.specs.Layout.{node_count}
use Rattle.script.specs.Refusals as scripts
use Rattle.script.specs.Checked.{Checked}
use Rattle.tree.specs.Tree.{names_of, tree}
use Rattle.script.proofs.Theorems.{accepted_exactly}
use Rattle.flow.specs.Needs.{first_failing}
use Rattle.flow.proofs.Theorems.{needs_everywhere}
use Rattle.checker.specs.Refusals.{flow_refusal, check_refusal}
use Rattle.checker.proofs.Rows.{found_passes}

module _ (b s : List ℕ) where
  -- what rows 1 to 11 leave
  pub record Accepted : Type 0 where
    pub book : books.is_accepted b ≡ true
    pub script : scripts.is_accepted s (count b) ≡ true
    pub flow : needs (book_lattice b) (names_of s) (tree s) ≡ true

  pub checked : scripts.is_accepted s (count b) ≡ true → Checked s
  checked h = (accepted_exactly.checked s (count b) h).0

  pub flow_passes : Checked s → passes (flow_refusal (book_lattice b) s) ≡ needs (book_lattice b) (names_of s) (tree s)
  flow_passes ok =
      let f : ℕ = first_failing (book_lattice b) s in
      found_passes 11 f refl f (node_count s) (first_within _ (node_count s))
      ∙ sym (needs_everywhere.first (book_lattice b) s ok)

  pub accepted : passes (check_refusal b s) ≡ true → Accepted
  unfolding check_refusal
  accepted h =
      let one = passes_both (books.refusal b) (or_else (scripts.refusal s (count b)) (flow_refusal (book_lattice b) s)) h in
      let two = passes_both (scripts.refusal s (count b)) (flow_refusal (book_lattice b) s) one.1 in
      record {
        book = one.0;
        script = two.0;
        flow = sym (flow_passes (checked two.0)) ∙ two.1;
      }

  pub accepts : Accepted → passes (check_refusal b s) ≡ true
  unfolding check_refusal
  accepts a =
      both_pass (books.refusal b) (or_else (scripts.refusal s (count b)) (flow_refusal (book_lattice b) s)) a.book
      (both_pass (scripts.refusal s (count b)) (flow_refusal (book_lattice b) s) a.script
      (flow_passes (checked a.script) ∙ a.flow))
