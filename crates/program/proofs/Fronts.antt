-- The form of a node, as it is found.
use mathlib.Core.Path.{◌≡◌, refl, sym, ◌∙◌}
use mathlib.Core.Bool.{Bool, true, false, ◌&&◌, ◌||◌}
use mathlib.Core.Logic.{◌⊎◌, inl, inr}
use mathlib.Core.List.{List, []}
use Prim.Native.Nat.{ℕ, ◌+◌, ◌-◌, ◌≤◌, ◌<◌}
use native.Mathlib.Omega.{arith}
use native.Mathlib.Decide.{dec_lt, ℕ_discrete}
use native.Mathlib.Nat.{le_trans}
use lib.Dec.{eqb, leb, ltb}
use lib.ListN.{get_or, length, get_or-eq_default}
use borrow.Author.Tests.{eqb-true, eq-eqb, ne_eqb, leb-true, le-leb, lt-leb, le-ltb}
use Rattle.prelude.specs.Search.{all, any, first_from}
use Rattle.prelude.specs.Search as search-for
use Rattle.prelude.proofs.Bools.{and_left, and_right, or_second, by_cases}
use Rattle.prelude.proofs.Searches.{all_elim}
use Rattle.program.specs.declared.forms.Front.{Front}
use Rattle.program.specs.Program.{node_count, kind_at}
use Rattle.program.specs.Runnable.{NodeRuns, Runnable}
use Rattle.program.specs.Forms.{nothing, itself, beside, turned, form_rows, form_of, from_second, first_front, second_front, front_of, rear_of}

-- a node of a program that can be run
pub runs_at : {words : List ℕ} (k : ℕ) → Runnable words × (k < node_count words) → NodeRuns words k
runs_at k (can, h) = can.nodes k h

-- no kind has more than four forms
short : (kind : ℕ) → kind < 11 → length (get_or form_rows kind []) ≤ 4
unfolding all any search-for.first first_from
short kind h = leb-true _ _ (all_elim (λ k. leb (length (get_or form_rows k [])) 4) 11 refl kind h)

pub form_past : (kind tag : ℕ) → kind < 11 → 4 ≤ tag → nothing ≡ form_of kind tag
form_past kind tag h l =
    sym (get_or-eq_default {A = ℕ} (get_or form_rows kind []) nothing {n = tag} (le_trans (short kind h) l))

-- a parallel has two forms, by its byte
abbrev turns : ℕ → ℕ → Bool
turns kind tag =
    ltb (form_of kind tag) beside
    || (leb (form_of kind tag) turned && eqb (form_of kind tag + form_of kind (1 - tag)) 15)

rear_form :
    (kind tag : ℕ) → kind < 11 → beside ≤ form_of kind tag →
    (form_of kind tag ≤ turned) × (form_of kind tag + form_of kind (1 - tag) ≡ 15)
unfolding all any search-for.first first_from
rear_form kind tag h l =
    elim (dec_lt tag 4) [
      | yes few ↦
          let t =
          sym (or_second (ltb (form_of kind tag) beside) _ (le-ltb (form_of kind tag) beside l))
          ∙ all_elim (turns kind) 4 (all_elim (λ k. all (turns k) 4) 11 refl kind h) tag few in (
            leb-true (form_of kind tag) turned (and_left (leb (form_of kind tag) turned) _ t),
            eqb-true (form_of kind tag + form_of kind (1 - tag)) 15 (and_right (leb (form_of kind tag) turned) _ t),
          )
      | no many ↦ absurd (omega (arith, l, form_past kind tag h (omega arith)))
    ]

module _ (words : List ℕ) (k tag len : ℕ) where
  pub front_form : (front_of words k tag len).form ≡ form_of (kind_at words k) tag
  unfolding front_of
  front_form =
      by_cases (λ (f : Front). f.form ≡ form_of (kind_at words k) tag) (leb (form_of (kind_at words k) tag) itself)
      (λ _. refl)
      (λ _.
      by_cases (λ (f : Front). f.form ≡ form_of (kind_at words k) tag) (from_second (form_of (kind_at words k) tag))
      (λ _. refl) (λ _. refl))

  -- the front that is found
  module _ {form : ℕ} (f : form ≡ form_of (kind_at words k) tag) where
    pub front_none : form ≤ itself → front_of words k tag len ≡ record { form = form; child = 0; from = 0; to = 0 }
    unfolding front_of
    front_none l = rw (← f, le-leb form itself l)

    pub front_second : itself < form → from_second form ≡ true → front_of words k tag len ≡ second_front words k form len
    unfolding front_of
    front_second l t = rw (← f, lt-leb form itself l, t)

    pub front_first : itself < form → from_second form ≡ false → front_of words k tag len ≡ first_front words k form
    unfolding front_of
    front_first l t = rw (← f, lt-leb form itself l, t)

-- a parallel, by the form of its part in front
module _ (words : List ℕ) (k tag len : ℕ) {form : ℕ} (f : form ≡ form_of (kind_at words k) tag) (h : kind_at words k < 11)
    (l : beside ≤ form) where
  two_forms : (form ≤ turned) × (form + form_of (kind_at words k) (1 - tag) ≡ 15)
  two_forms = rw f (rear_form (kind_at words k) tag h (rw f at l))

  -- its other part is that in front by the other byte
  pub rear_is : rear_of words k form len ≡ front_of words k (1 - tag) len
  unfolding rear_of
  rear_is =
      elim (ℕ_discrete form beside) [
        | yes e ↦
            rw (eq-eqb form beside e)
            (sym (front_second words k (1 - tag) len {form = turned} (omega (arith, two_forms)) (omega arith) refl))
        | no n ↦
            rw (ne_eqb form beside n)
            (sym (front_first words k (1 - tag) len {form = beside} (omega (arith, two_forms)) (omega arith) refl))
      ]

  -- the parts lie one after the other
  pub parts_meet :
      ((front_of words k tag len).to ≡ (front_of words k (1 - tag) len).from)
      ⊎ ((front_of words k (1 - tag) len).to ≡ (front_of words k tag len).from)
  unfolding rear_of
  parts_meet =
      elim (ℕ_discrete form beside) [
        | yes e ↦ rw (front_first words k tag len f (omega arith) (rw e), ← rear_is, eq-eqb form beside e) (inl refl)
        | no n ↦
            let e : form ≡ turned = omega (arith, two_forms) in
            rw (front_second words k tag len f (omega arith) (rw e), ← rear_is, ne_eqb form beside n) (inr refl)
      ]
