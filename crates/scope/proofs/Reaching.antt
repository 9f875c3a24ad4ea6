-- The names in reach in a part: those in reach where it is used, and in the body of a declaration the declared name.
-- So they can be found from the last part down.
use mathlib.Core.Path.{◌≡◌, refl, sym, ap, ◌∙◌, subst}
use mathlib.Core.Bool.{Bool, true, false, ◌||◌, false≢true}
use mathlib.Core.List.{List}
use Prim.Native.Nat.{ℕ, zero, suc, ◌+◌, ◌-◌, ◌≤◌, ◌<◌}
use native.Mathlib.Nat.{not-suc-le-zero}
use native.Mathlib.Decide.{dec_lt, ℕ_discrete}
use native.Mathlib.Omega.{arith}
use lib.Dec.{eqb}
use lib.ListN.{get_or}
use borrow.Author.Tests.{ltb-true, eqb-true, eq-eqb}
use Rattle.prelude.specs.Search.{any}
use Rattle.prelude.specs.Course.{course, entry}
use Rattle.prelude.proofs.Bools.{and_intro, and_left, and_right, or_cases, or_first, or-true}
use Rattle.prelude.proofs.Searches.{any_some, some_of_any}
use Rattle.prelude.proofs.Courses.{earlier, not_earlier}
use Rattle.layout.specs.Layout.{most_parts, name_count, expression_count, part_count}
use Rattle.layout.specs.Entries.{name_of, is_session, node}
use Rattle.fields.specs.Roles.{is_child, is_new}
use Rattle.fields.specs.Fields.{field_count, field_of}
use Rattle.fields.proofs.RoleTests.{child_lem}
use Rattle.entries.proofs.Holding.{holds_child_lem, right_field}
use Rattle.entries.proofs.Naming.{Owned, owned, is_new_lem, named_new}
use Rattle.uses.specs.Uses.{used}
use Rattle.uses.proofs.Used.{used_of, used_child}
use Rattle.scope.specs.Reach.{lies_in, in_body, in_reach}
use Rattle.scope.specs.Promises.{FieldUses, opens}
use Rattle.scope.specs.Joined.{Joined}
use Rattle.scope.proofs.Joining.{user, used_once}

module _ (s : List ℕ) where
  -- `lies_in` at a part, from what it says of the parts before
  abbrev in_part : ℕ → ℕ → List Bool → Bool
  in_part q p before = eqb q p || any (λ f. get_or before (used s p f) false) field_count

  pub lies_self : (p : ℕ) → lies_in s p p ≡ true
  unfolding lies_in entry
  lies_self p = or_first (eqb p p) _ (eq-eqb p p refl)

  -- what lies in a part that p uses lies in p
  pub lies_deeper : {p f u : ℕ} (q : ℕ) → FieldUses s p f u → lies_in s q u ≡ true → lies_in s q p ≡ true
  unfolding lies_in entry
  lies_deeper {p} {f} {u} q w e =
      or-true (eqb q p) _
      (any_some (λ f. get_or (course (in_part q) p) (used s p f) false) field_count f w.inside
      (ap (λ v. get_or (course (in_part q) p) v false) w.same ∙ earlier (in_part q) false p u w.before ∙ e))

  -- q is p, or lies in a part that a field of p uses
  pub lies_cases :
      {M : Type 0} (q p : ℕ) → p < part_count s → lies_in s q p ≡ true → (q ≡ p → M) →
      ((f u : ℕ) → FieldUses s p f u → lies_in s q u ≡ true → M) → M
  unfolding lies_in entry
  lies_cases {M} q p h e here below =
      or_cases (eqb q p) _ e (λ t. here (eqb-true q p t))
      (λ t. go (some_of_any (λ f. get_or (course (in_part q) p) (used s p f) false) field_count t))
    where
      go : (f : ℕ) × (f < field_count) × (get_or (course (in_part q) p) (used s p f) false ≡ true) → M
      go r =
          let u : ℕ = used s p r.0 in
          elim (dec_lt u p) [
            | yes l ↦
                below r.0 u (record { known = h; inside = r.1; same = refl; before = l })
                (sym (earlier (in_part q) false p u l) ∙ r.2)
            | no l ↦ absurd (false≢true (sym (not_earlier (in_part q) false p u (omega arith)) ∙ r.2))
          ]

  lies_under : (n q p : ℕ) → p < n → p < part_count s → lies_in s q p ≡ true → q ≤ p
  lies_under zero q p l h e = absurd (not-suc-le-zero l)
  lies_under (suc n) q p l h e =
      lies_cases q p h e (λ t. omega arith)
      (λ f u w t. omega (arith, w.before, lies_under n q u (omega (arith, w.before)) (omega (arith, w.before)) t))

  -- a part has no greater number than the part in which it lies
  pub lies_below : (q p : ℕ) → p < part_count s → lies_in s q p ≡ true → q ≤ p
  lies_below q p = lies_under (suc p) q p (omega arith)

  -- where a part lies, what it uses lies
  module _ {p f q : ℕ} (w : FieldUses s p f q) where
    down_below : (n b : ℕ) → b < n → b < part_count s → lies_in s p b ≡ true → lies_in s q b ≡ true
    down_below zero b l h e = absurd (not-suc-le-zero l)
    down_below (suc n) b l h e =
        lies_cases p b h e (λ t. subst (λ d. lies_in s q d ≡ true) t (lies_deeper q w (lies_self q)))
        (λ g u v t.
        lies_deeper q v (down_below n u (omega (arith, v.before)) (omega (arith, v.before)) t))

    pub lies_down : (b : ℕ) → b < part_count s → lies_in s p b ≡ true → lies_in s q b ≡ true
    lies_down b = down_below (suc b) b (omega arith)

-- .. and only there, but for the used part itself
module _ (s : List ℕ) (joined : Joined s) {p f q : ℕ} (w : FieldUses s p f q) where
  up_below : (n b : ℕ) → b < n → b < part_count s → lies_in s q b ≡ true → (q ≡ b → ⊥) → lies_in s p b ≡ true
  up_below zero b l h e ne = absurd (not-suc-le-zero l)
  up_below (suc n) b l h e ne =
      lies_cases s q b h e (λ t. absurd (ne t))
      (λ g u v t.
      elim (ℕ_discrete q u) [
        | yes same ↦
            subst (λ d. lies_in s p d ≡ true)
            (used_once s joined w (subst (FieldUses s b g) (sym same) v)).0 (lies_self s p)
        | no other ↦
            lies_deeper s p v (up_below n u (omega (arith, v.before)) (omega (arith, v.before)) t other)
      ])

  pub lies_up : (b : ℕ) → b < part_count s → lies_in s q b ≡ true → (q ≡ b → ⊥) → lies_in s p b ≡ true
  lies_up b = up_below (suc b) b (omega arith)

-- every part lies in the last: each other is used by a later one
module _ (s : List ℕ) (joined : Joined s) (few : part_count s ≤ most_parts) where
  last_from : (d q : ℕ) → part_count s ≤ q + d → q < part_count s → lies_in s q (part_count s - 1) ≡ true
  last_from zero q l h = absurd (omega arith)
  last_from (suc d) q l h =
      elim (dec_lt (suc q) (part_count s)) [
        | yes more ↦
            let w = user s joined q more (omega arith) in
            lies_down s w.2 (part_count s - 1) (omega arith)
            (last_from d w.0 (omega (arith, w.2.before)) w.2.known)
        | no end ↦
            let e : q ≡ part_count s - 1 = omega arith in
            subst (λ p. lies_in s q p ≡ true) e (lies_self s q)
      ]

  pub lies_last : (q : ℕ) → q < part_count s → lies_in s q (part_count s - 1) ≡ true
  lies_last q h = last_from (part_count s) q (omega arith) h

-- the body of an owned name
module _ (s : List ℕ) (joined : Joined s) (x : ℕ) (known : x < name_count s) (own : is_session s x ≡ false) where
  abbrev owner : ℕ
  owner = node s (name_of s x).owner

  declaration : Owned s joined.sound x
  declaration = owned s joined.sound x known own

  in_body_lem :
      {f b : ℕ} (q : ℕ) → FieldUses s owner f b → is_child (field_of s owner f).role ≡ true → lies_in s q b ≡ true →
      in_body s x q ≡ true
  unfolding in_body
  in_body_lem {f} q w e t =
      any_some _ field_count f w.inside
      (and_intro (is_child (field_of s owner f).role) _ e (subst (λ u. lies_in s q u ≡ true) (sym w.same) t))

  pub body_of :
      {M : Type 0} (q : ℕ) → in_body s x q ≡ true →
      ((f b : ℕ) → FieldUses s owner f b → is_child (field_of s owner f).role ≡ true → lies_in s q b ≡ true → M) → M
  unfolding in_body
  body_of q e go =
      let r = some_of_any _ field_count e in
      let f : ℕ = r.0 in
      let c : Bool = is_child (field_of s owner f).role in
      let role = and_left c _ r.2 in
      let inside : owner < part_count s = omega (arith, declaration.inside) in
      let held = child_lem (field_of s owner f).role role in
      let before : used s owner f < owner =
      subst (λ u. u < owner) (sym (used_of s owner f ∙ used_child (expression_count s) (field_of s owner f) held))
      (ltb-true _ _ (sym (holds_child_lem s owner (field_of s owner f) held) ∙ right_field s joined.sound owner f inside r.1)) in
      go f (used s owner f) (record { known = inside; inside = r.1; same = refl; before = before }) role
      (and_right c _ r.2)

  -- what lies in the body of x comes before the declaration
  pub body_before : (q : ℕ) → in_body s x q ≡ true → q < owner
  body_before q e =
      body_of q e (λ f b w c t. omega (arith, w.before, lies_below s q b (omega (arith, w.before, w.known)) t))

-- the names in reach in the part that field f of part p uses
module _ (s : List ℕ) (joined : Joined s) {p f q : ℕ} (w : FieldUses s p f q) (x : ℕ) (known : x < name_count s) where
  module _ (own : is_session s x ≡ false) where
    opened : opens s p f x ≡ true → in_body s x q ≡ true
    opened o =
        let c : Bool = is_child (field_of s p f).role in
        let right = and_right c _ o in
        let n = and_left (is_new (field_of s p 0).role) _ right in
        let e : (field_of s p 0).value ≡ x = eqb-true _ _ (and_right (is_new (field_of s p 0).role) _ right) in
        let d : node s (name_of s x).owner ≡ p =
        subst (λ y. node s (name_of s y).owner ≡ p) e
        ((named_new s joined.sound p 0 w.known (omega arith) n).own n) in
        in_body_lem s joined x known own q (subst (λ k. FieldUses s k f q) (sym d) w)
        (subst (λ k. is_child (field_of s k f).role ≡ true) (sym d) (and_left c _ o))
        (lies_self s q)

    down : in_body s x p ≡ true → in_body s x q ≡ true
    down e =
        body_of s joined x known own p e
        (λ g b v c t.
        in_body_lem s joined x known own q v c (lies_down s w b (omega (arith, v.before, v.known)) t))

    up : in_body s x q ≡ true → (opens s p f x || in_body s x p) ≡ true
    up e =
        body_of s joined x known own q e
        (λ g b v c t.
        elim (ℕ_discrete q b) [
          | yes same ↦
              let only = used_once s joined w (subst (FieldUses s _ g) (sym same) v) in
              or_first (opens s p f x) _
              (subst (λ k. opens s k f x ≡ true) (sym only.0)
              (subst (λ g. opens s (node s (name_of s x).owner) g x ≡ true) (sym only.1)
              (and_intro (is_child (field_of s (node s (name_of s x).owner) g).role) _ c
              (and_intro (is_new (field_of s (node s (name_of s x).owner) 0).role) _
              (is_new_lem s joined.sound x (declaration s joined x known own))
              (eq-eqb _ _ (declaration s joined x known own).itself)))))
          | no other ↦
              or-true (opens s p f x) _
              (in_body_lem s joined x known own p v c
              (lies_up s joined w b (omega (arith, v.before, v.known)) t other))
        ])

  pub reach_used : in_reach s x q ≡ (opens s p f x || in_reach s x p)
  reach_used = grind (arith, opened, down, up)

module _ (s : List ℕ) (joined : Joined s) where
  -- in the last part: the session names
  pub reach_last : (q x : ℕ) → suc q ≡ part_count s → x < name_count s → in_reach s x q ≡ is_session s x
  reach_last q x e known =
      grind (
        arith,
        λ (n : is_session s x ≡ false) (b : in_body s x q ≡ true). body_before s joined x known n q b,
        λ (n : is_session s x ≡ false). (declaration s joined x known n).inside,
      )
