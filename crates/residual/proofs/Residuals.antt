-- What is left of a process by its bytes: cleared bytes are the process as it is written, and what is left of a process
-- leaves alone what the process does.
use mathlib.Core.Path.{◌≡◌, refl, ap, ap₂, ◌∙◌}
use mathlib.Core.Bool.{true, not}
use mathlib.Core.List.{List, [], ◌∷◌}
use Prim.Native.Nat.{ℕ, zero, suc, ◌-◌, ◌≤◌}
use native.Mathlib.Nat.{le_of_suc-le-suc, not-suc-le-zero, sub-zero, zero-sub, suc-sub-suc}
use native.Mathlib.Omega.{arith}
use lib.Dec.{eqb}
use lib.ListN.{get_or, set, length, take, drop, replicate}
use lib.Seq.{get_or-set_same}
use Rattle.prelude.proofs.Bools.{and_intro, and_left, and_right}
use Rattle.language.specs.Syntax.{Proc, nil, assign, let_in, if_then_else, while, sequence, emit, local, watching, when, parallel}
use Rattle.language.specs.NodeCounts.{counted, size}
use Rattle.language.specs.Shapes.{leaves_alone}
use Rattle.program.specs.Program.{process_of}
use Rattle.residual.specs.Residual.{own, first_of, second_of, residual}
use Rattle.residual.specs.Nodes.{At}

own_zeros : (n : ℕ) → own (replicate n 0) ≡ 0
own_zeros zero = refl
own_zeros (suc n) = refl

drop_zeros : (i n : ℕ) → drop {A = ℕ} i (replicate n 0) ≡ replicate (n - i) 0
drop_zeros zero n = rw sub-zero
drop_zeros (suc i) zero = rw zero-sub
drop_zeros (suc i) (suc n) = rw suc-sub-suc (drop_zeros i n)

pub take_zeros : (i n : ℕ) → i ≤ n → take {A = ℕ} i (replicate n 0) ≡ replicate i 0
take_zeros zero n h = refl
take_zeros (suc i) zero h = absurd (not-suc-le-zero h)
take_zeros (suc i) (suc n) h = ap (λ l. 0 ∷ l) (take_zeros i n (le_of_suc-le-suc h))

module _ {L : Type 0} where
  -- the first part of cleared bytes is cleared
  first_zeros : (p : Proc L) (n : ℕ) → suc (size p) ≤ n → first_of p (replicate n 0) ≡ replicate (size p) 0
  first_zeros p n h = ap (take (size p)) (drop_zeros 1 n) ∙ take_zeros (size p) (n - 1) (omega arith)

  pub zeros : (p : Proc L) (n : ℕ) → size p ≤ n → residual p (replicate n 0) ≡ p
  unfolding residual counted
  zeros nil n h = refl
  zeros (assign x e) n h = rw (own_zeros n)
  zeros (let_in x δ e p) n h = rw (own_zeros n) (ap (let_in x δ e) (rw (first_zeros p n h) (zeros p (size p) (omega arith))))
  zeros (if_then_else e p q) n h =
      rw (own_zeros n)
      (ap₂ (if_then_else e)
      (rw (first_zeros p n (omega arith)) (zeros p (size p) (omega arith)))
      (rw (drop_zeros (suc (size p)) n) (zeros q (n - suc (size p)) (omega arith))))
  zeros (while e p) n h = rw (own_zeros n)
  zeros (sequence p q) n h =
      rw (own_zeros n)
      (ap₂ sequence
      (rw (first_zeros p n (omega arith)) (zeros p (size p) (omega arith)))
      (rw (drop_zeros (suc (size p)) n) (zeros q (n - suc (size p)) (omega arith))))
  zeros (emit a) n h = rw (own_zeros n)
  zeros (local x δ p) n h = rw (own_zeros n) (ap (local x δ) (rw (first_zeros p n h) (zeros p (size p) (omega arith))))
  zeros (watching a p) n h = rw (own_zeros n) (ap (watching a) (rw (first_zeros p n h) (zeros p (size p) (omega arith))))
  zeros (when a p) n h = rw (own_zeros n) (ap (when a) (rw (first_zeros p n h) (zeros p (size p) (omega arith))))
  zeros (parallel p q) n h =
      rw (own_zeros n)
      (ap₂ parallel
      (rw (first_zeros p n (omega arith)) (zeros p (size p) (omega arith)))
      (rw (drop_zeros (suc (size p)) n) (zeros q (n - suc (size p)) (omega arith))))

  module _ (a : ℕ) where
    -- each of these processes leaves a alone
    abbrev AllLeave : List (Proc L) → Type 0
    AllLeave [] = Unit {0}
    AllLeave (p ∷ ps) = (leaves_alone a p ≡ true) × AllLeave ps

    form_leaves : (ps : List (Proc L)) (n : ℕ) → AllLeave ps → leaves_alone a (get_or ps n nil) ≡ true
    unfolding leaves_alone
    form_leaves [] n t = refl
    form_leaves (p ∷ ps) zero t = t.0
    form_leaves (p ∷ ps) (suc n) t = form_leaves ps n t.1

    pub residual_leaves : (p : Proc L) (st : List ℕ) → leaves_alone a p ≡ true → leaves_alone a (residual p st) ≡ true
    unfolding residual leaves_alone
    residual_leaves nil st h = refl
    residual_leaves (assign x e) st h = form_leaves (assign x e ∷ []) (own st) (h, tt)
    residual_leaves (let_in x δ e p) st h =
        let one : Proc L = residual p (first_of p st) in
        let leaves = residual_leaves p (first_of p st) (and_right (not (eqb x a)) _ h) in
        form_leaves (let_in x δ e one ∷ one ∷ []) (own st)
        (and_intro (not (eqb x a)) _ (and_left (not (eqb x a)) _ h) leaves, (leaves, tt))
    residual_leaves (if_then_else e p q) st h =
        let one : Proc L = residual p (first_of p st) in
        let two : Proc L = residual q (second_of p st) in
        let left = residual_leaves p (first_of p st) (and_left (leaves_alone a p) _ h) in
        let right = residual_leaves q (second_of p st) (and_right (leaves_alone a p) _ h) in
        form_leaves (if_then_else e one two ∷ one ∷ two ∷ []) (own st)
        (and_intro (leaves_alone a one) _ left right, (left, (right, tt)))
    residual_leaves (while e p) st h =
        let one : Proc L = residual p (first_of p st) in
        form_leaves (while e p ∷ sequence one (while e p) ∷ []) (own st)
        (h, (and_intro (leaves_alone a one) _ (residual_leaves p (first_of p st) h) h, tt))
    residual_leaves (sequence p q) st h =
        let one : Proc L = residual p (first_of p st) in
        let two : Proc L = residual q (second_of p st) in
        let left = residual_leaves p (first_of p st) (and_left (leaves_alone a p) _ h) in
        let right = residual_leaves q (second_of p st) (and_right (leaves_alone a p) _ h) in
        form_leaves (sequence one two ∷ two ∷ []) (own st) (and_intro (leaves_alone a one) _ left right, (right, tt))
    residual_leaves (emit b) st h = form_leaves (emit b ∷ []) (own st) (h, tt)
    residual_leaves (local x δ p) st h =
        let one : Proc L = residual p (first_of p st) in
        let leaves = residual_leaves p (first_of p st) (and_right (not (eqb x a)) _ h) in
        form_leaves (local x δ one ∷ one ∷ []) (own st)
        (and_intro (not (eqb x a)) _ (and_left (not (eqb x a)) _ h) leaves, (leaves, tt))
    residual_leaves (watching b p) st h =
        form_leaves (watching b (residual p (first_of p st)) ∷ []) (own st) (residual_leaves p (first_of p st) h, tt)
    residual_leaves (when b p) st h =
        form_leaves (when b (residual p (first_of p st)) ∷ []) (own st) (residual_leaves p (first_of p st) h, tt)
    residual_leaves (parallel p q) st h =
        let one : Proc L = residual p (first_of p st) in
        let two : Proc L = residual q (second_of p st) in
        let left = residual_leaves p (first_of p st) (and_left (leaves_alone a p) _ h) in
        let right = residual_leaves q (second_of p st) (and_right (leaves_alone a p) _ h) in
        form_leaves (parallel one two ∷ parallel two one ∷ one ∷ two ∷ []) (own st)
        (and_intro (leaves_alone a one) _ left right, (and_intro (leaves_alone a two) _ right left, (left, (right, tt))))

-- past all forms a node is nil
pub nil_at_four : {L : Type 0} (p : Proc L) (st : List ℕ) → own st ≡ 4 → residual p st ≡ nil
unfolding residual
nil_at_four nil st e = refl
nil_at_four (assign x y) st e = rw e
nil_at_four (let_in x δ y p) st e = rw e
nil_at_four (if_then_else y p q) st e = rw e
nil_at_four (while y p) st e = rw e
nil_at_four (sequence p q) st e = rw e
nil_at_four (emit a) st e = rw e
nil_at_four (local x δ p) st e = rw e
nil_at_four (watching a p) st e = rw e
nil_at_four (when a p) st e = rw e
nil_at_four (parallel p q) st e = rw e

size_some : {L : Type 0} (p : Proc L) → 1 ≤ size p
unfolding counted
size_some nil = omega arith
size_some (assign x y) = omega arith
size_some (let_in x δ y p) = omega arith
size_some (if_then_else y p q) = omega arith
size_some (while y p) = omega arith
size_some (sequence p q) = omega arith
size_some (emit a) = omega arith
size_some (local x δ p) = omega arith
size_some (watching a p) = omega arith
size_some (when a p) = omega arith
size_some (parallel p q) = omega arith

-- a node has a byte of its own
pub some_bytes : {words : List ℕ} {k : ℕ} {st : List ℕ} → At words k st → 1 ≤ length st
some_bytes {words} {k} at = omega (arith, at.whole, size_some (process_of words k))

pub own_set_at : (st : List ℕ) → 1 ≤ length st → (v : ℕ) → own (set st 0 v) ≡ v
own_set_at st h v = get_or-set_same st 0 v 0 h
