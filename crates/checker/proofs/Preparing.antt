-- What a check shows, step by step: a book that passes, a script that passes under it, and the flow that is found.
use mathlib.Core.Path.{◌≡◌, refl, sym, ap, ◌∙◌, subst}
use mathlib.Core.Bool.{true, false}
use mathlib.Core.List.{List}
use Prim.Native.Nat.{ℕ, ◌≤◌, ◌<◌}
use borrow.Author.Tests.{lt-ltb, le-ltb}
use Rattle.prelude.specs.declared.Refusal.{Refusal}
use Rattle.prelude.specs.Refusals.{refused_by, passes}
use Rattle.book.specs.declared.Book.{Book}
use Rattle.book.specs.LevelBook.{count}
use Rattle.book.specs.Load.{book_of}
use Rattle.lattice.specs.Refusals as books
use Rattle.lattice.specs.Lattice.{book_lattice}
use Rattle.layout.specs.Layout.{node_count}
use Rattle.script.specs.Refusals as scripts
use Rattle.flow.specs.declared.nodes.Flow.{Flow}
use Rattle.flow.specs.Flow.{levels_of, Ordered, FlowOf}
use Rattle.flow.proofs.Theorems.{books_ordered}
use Rattle.checker.specs.Refusals.{flow_refusal, check_refusal}

module _ (b s : List ℕ) where
  pub at_book : {r : Refusal} → passes (books.refusal b) ≡ false → r ≡ books.refusal b → r ≡ check_refusal b s
  unfolding check_refusal
  at_book f e = e ∙ sym (rw f refl)

  pub book_refuses : passes (books.refusal b) ≡ false → passes (check_refusal b s) ≡ false
  unfolding check_refusal
  book_refuses f = rw f f

  module _ (right : books.is_accepted b ≡ true) (B : Book) (same : B ≡ book_of b) where
    pub ordered : Ordered (levels_of B)
    ordered = subst (λ x. Ordered (levels_of x)) (sym same) (books_ordered b right)

    counts : scripts.refusal s B.count ≡ scripts.refusal s (count b)
    counts = ap (λ (x : Book). scripts.refusal s x.count) same

    pub at_script : {r : Refusal} → passes (scripts.refusal s B.count) ≡ false → r ≡ scripts.refusal s B.count → r ≡ check_refusal b s
    unfolding check_refusal
    at_script f e = e ∙ counts ∙ sym (rw (right, ap passes (sym counts) ∙ f) refl)

    pub script_refuses : passes (scripts.refusal s B.count) ≡ false → passes (check_refusal b s) ≡ false
    unfolding check_refusal
    script_refuses f = let g = ap passes (sym counts) ∙ f in rw (right, g) g

    module _ (passed : passes (scripts.refusal s B.count) ≡ true) {t : List ℕ} (bytes : t ≡ s) (f : Flow)
        (found : FlowOf (levels_of B) t f) where
      -- the flow of the script under the book
      pub flow : FlowOf (levels_of (book_of b)) s f
      flow = subst (λ x. FlowOf (levels_of x) s f) same (subst (λ x. FlowOf (levels_of B) x f) bytes found)

      rest : check_refusal b s ≡ flow_refusal (book_lattice b) s
      unfolding check_refusal
      rest = rw (right, ap passes (sym counts) ∙ passed) refl

      pub at_node : f.failing < node_count s → check_refusal b s ≡ refused_by 11 f.failing
      at_node h = rest ∙ rw (← flow.failing, lt-ltb _ _ h) refl

      pub past_nodes : node_count s ≤ f.failing → passes (check_refusal b s) ≡ true
      past_nodes h = ap passes rest ∙ rw (← flow.failing, le-ltb _ _ h) refl
