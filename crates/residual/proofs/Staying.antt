-- What an instant change leaves as it is: what is left of a process in which every watching waits for a signal that is
-- absent, and so of one without a watching.
use mathlib.Core.Path.{◌≡◌, refl, ap, ap₂}
use mathlib.Core.Bool.{false, true≢false}
use mathlib.Core.List.{List, [], ◌∷◌}
use Prim.Native.Nat.{ℕ, zero, suc}
use lib.IntN.{ℤ}
use lib.ListN.{get_or}
use Rattle.prelude.proofs.Bools.{or_left, or_right, by_cases}
use Rattle.language.specs.Syntax.{Proc, nil, assign, let_in, if_then_else, while, sequence, emit, local, watching, when, parallel}
use Rattle.language.specs.Steps.{present, change}
use Rattle.language.specs.Shapes.{watches}
use Rattle.residual.specs.Residual.{own, first_of, second_of, residual}

module _ {L : Type 0} (values : List ℤ) where
  -- every watching in it waits for a signal that is absent
  abbrev pub Still : Proc L → Type 0
  Still nil = Unit {0}
  Still (assign x e) = Unit {0}
  Still (let_in x δ e p) = Still p
  Still (if_then_else e p q) = Still p × Still q
  Still (while e p) = Still p
  Still (sequence p q) = Still p × Still q
  Still (emit a) = Unit {0}
  Still (local a δ p) = Still p
  Still (watching a p) = (present values a ≡ false) × Still p
  Still (when a p) = Still p
  Still (parallel p q) = Still p × Still q

  -- every one of these processes stays as it is
  abbrev AllStay : List (Proc L) → Type 0
  AllStay [] = Unit {0}
  AllStay (p ∷ ps) = (change p values ≡ p) × AllStay ps

  form_stays : (ps : List (Proc L)) (n : ℕ) → AllStay ps → change (get_or ps n nil) values ≡ get_or ps n nil
  unfolding change
  form_stays [] n t = refl
  form_stays (p ∷ ps) zero t = t.0
  form_stays (p ∷ ps) (suc n) t = form_stays ps n t.1

  pub residual_stays : (p : Proc L) → Still p → (st : List ℕ) → change (residual p st) values ≡ residual p st
  unfolding residual change
  residual_stays nil w st = refl
  residual_stays (assign x e) w st = form_stays (assign x e ∷ []) (own st) (refl, tt)
  residual_stays (let_in x δ e p) w st =
      let a : Proc L = residual p (first_of p st) in
      form_stays (let_in x δ e a ∷ a ∷ []) (own st) (refl, (residual_stays p w (first_of p st), tt))
  residual_stays (if_then_else e p q) w st =
      let a : Proc L = residual p (first_of p st) in
      let b : Proc L = residual q (second_of p st) in
      form_stays (if_then_else e a b ∷ a ∷ b ∷ []) (own st)
      (refl, (residual_stays p w.0 (first_of p st), (residual_stays q w.1 (second_of p st), tt)))
  residual_stays (while e p) w st =
      let a : Proc L = residual p (first_of p st) in
      form_stays (while e p ∷ sequence a (while e p) ∷ []) (own st)
      (refl, (ap (λ x. sequence x (while e p)) (residual_stays p w (first_of p st)), tt))
  residual_stays (sequence p q) w st =
      let a : Proc L = residual p (first_of p st) in
      let b : Proc L = residual q (second_of p st) in
      form_stays (sequence a b ∷ b ∷ []) (own st)
      (ap (λ x. sequence x b) (residual_stays p w.0 (first_of p st)), (residual_stays q w.1 (second_of p st), tt))
  residual_stays (emit a) w st = form_stays (emit a ∷ []) (own st) (refl, tt)
  residual_stays (local x δ p) w st =
      let a : Proc L = residual p (first_of p st) in
      form_stays (local x δ a ∷ a ∷ []) (own st) (refl, (residual_stays p w (first_of p st), tt))
  residual_stays (watching x p) w st =
      form_stays (watching x (residual p (first_of p st)) ∷ []) (own st)
      (rw w.0 (ap (watching x) (residual_stays p w.1 (first_of p st))), tt)
  residual_stays (when x p) w st =
      let a : Proc L = residual p (first_of p st) in
      form_stays (when x a ∷ []) (own st) (
        by_cases (λ r. r ≡ when x a) (present values x) (λ _. ap (when x) (residual_stays p w (first_of p st))) (λ _. refl),
        tt,
      )
  residual_stays (parallel p q) w st =
      let a : Proc L = residual p (first_of p st) in
      let b : Proc L = residual q (second_of p st) in
      let one = residual_stays p w.0 (first_of p st) in
      let two = residual_stays q w.1 (second_of p st) in
      form_stays (parallel a b ∷ parallel b a ∷ a ∷ b ∷ []) (own st)
      (ap₂ parallel one two, (ap₂ parallel two one, (one, (two, tt))))

  -- a process without a watching is still, whatever the values are
  unwatched_still : (p : Proc L) → watches p ≡ false → Still p
  unfolding watches
  unwatched_still nil h = tt
  unwatched_still (assign x e) h = tt
  unwatched_still (let_in x δ e p) h = unwatched_still p h
  unwatched_still (if_then_else e p q) h =
      (unwatched_still p (or_left (watches p) _ h), unwatched_still q (or_right (watches p) _ h))
  unwatched_still (while e p) h = unwatched_still p h
  unwatched_still (sequence p q) h =
      (unwatched_still p (or_left (watches p) _ h), unwatched_still q (or_right (watches p) _ h))
  unwatched_still (emit a) h = tt
  unwatched_still (local a δ p) h = unwatched_still p h
  unwatched_still (watching a p) h = absurd (true≢false h)
  unwatched_still (when a p) h = unwatched_still p h
  unwatched_still (parallel p q) h =
      (unwatched_still p (or_left (watches p) _ h), unwatched_still q (or_right (watches p) _ h))

  pub unwatched_stays :
      (p : Proc L) → watches p ≡ false → (st : List ℕ) → change (residual p st) values ≡ residual p st
  unwatched_stays p h = residual_stays p (unwatched_still p h)
