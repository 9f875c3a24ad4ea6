-- Where there is room for exactly the words of an answer the call is made, else all is as before.
use mathlib.Core.Path.{◌≡◌, sym, ◌∙◌}
use mathlib.Core.List.{List}
use Prim.Native.Nat.{ℕ}
use lib.ListN.{length}
use borrow.Author.Tests.{eq-eqb, ne_eqb}
use Rattle.engine.specs.Interface.{where_asked}

module _ {A : Type 0} (n : ℕ) (out : List ℕ) (made before : A) where
  pub asked : {a : A} → length out ≡ n → a ≡ made → a ≡ where_asked n out made before
  unfolding where_asked
  asked e h = h ∙ sym (rw (eq-eqb (length out) n e))

  pub not_asked : (length out ≡ n → ⊥) → before ≡ where_asked n out made before
  unfolding where_asked
  not_asked e = sym (rw (ne_eqb (length out) n e))
