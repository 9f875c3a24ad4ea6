-- What a file whose parts are right and used once tells of its fields: a part is used by one field, of a later part.
use mathlib.Core.Path.{◌≡◌, sym, ap, ◌∙◌, subst}
use mathlib.Core.Bool.{true}
use mathlib.Core.List.{List}
use Prim.Native.Nat.{ℕ, suc, ◌<◌}
use native.Mathlib.Omega.{arith}
use lib.Dec.{eqb}
use borrow.Author.Tests.{eqb-true, eq-eqb}
use Rattle.std.proofs.lemmas.Bool.Decides.{nat_tests}
use Rattle.prelude.proofs.Counts.{count_found, count-some, count_one}
use Rattle.prelude.proofs.Totals.{total_holds, total_found, total_one}
use Rattle.std.proofs.Common.{Some}
use Rattle.layout.specs.Layout.{most_parts, expression_count, part_count}
use Rattle.fields.specs.declared.Field.{Field}
use Rattle.fields.specs.Fields.{field_count, field_of}
use Rattle.entries.specs.Faults.{field_is_right}
use Rattle.entries.proofs.Holding.{right_field}
use Rattle.uses.specs.Uses.{part_used, used, times_in, times_used}
use Rattle.uses.proofs.Used.{used_some, used_part}
use Rattle.scope.specs.Promises.{FieldUses}
use Rattle.scope.specs.Joined.{Joined}

module _ (s : List ℕ) (q : ℕ) (x : Field) where
  -- what a right field uses comes before its part
  uses_earlier : {u : ℕ} → field_is_right s q x ≡ true → part_used (expression_count s) x ≡ Some u → u < q
  unfolding field_is_right
  uses_earlier h e = grind (arith, nat_tests)

module _ (s : List ℕ) (joined : Joined s) where
  -- a field that uses a part uses one before its own
  pub uses_some :
      (p f : ℕ) {q : ℕ} → p < part_count s → f < field_count →
      part_used (expression_count s) (field_of s p f) ≡ Some q → FieldUses s p f q
  uses_some p f h l e =
      record {
        known = h;
        inside = l;
        same = used_some s p f e;
        before = uses_earlier s p (field_of s p f) (right_field s joined.sound p f h l) e;
      }

  pub field_uses : (p f q : ℕ) → p < part_count s → f < field_count → used s p f ≡ q → q < most_parts → FieldUses s p f q
  unfolding used
  field_uses p f q h l e small =
      uses_some p f h l
      (used_part (expression_count s) (field_of s p f) (subst (λ u. u < most_parts) (sym e) small) ∙ ap Some e)

  module _ (q : ℕ) (h : suc q < part_count s) (few : q < most_parts) where
    -- each part but the last is used by a field
    pub user : (p : ℕ) × (f : ℕ) × FieldUses s p f q
    unfolding times_used
    user =
        let r = total_found (times_in s q) (part_count s) (omega (arith, joined.once q h)) in
        let t = count_found (λ f. eqb (used s r.0 f) q) field_count r.2 in
        (r.0, t.0, field_uses r.0 t.0 q r.1 t.1 (eqb-true (used s r.0 t.0) q t.2) few)

  module _ {p f q m g : ℕ} (a : FieldUses s p f q) (b : FieldUses s m g q) where
    times : {p f : ℕ} → FieldUses s p f q → 0 < times_in s q p
    times {p} {f} u = count-some (λ f. eqb (used s p f) q) field_count f u.inside (eq-eqb _ _ u.same)

    -- no part is used by two fields
    pub used_once : (p ≡ m) × (f ≡ g)
    unfolding times_used
    used_once =
        let once : times_used s q ≡ 1 = joined.once q (omega (arith, a.known, a.before)) in
        let part : p ≡ m = total_one (times_in s q) (part_count s) p m once a.known b.known (times a) (times b) in (
          part,
          count_one (λ f. eqb (used s p f) q) field_count f g
              (omega (arith, once, times a, total_holds (times_in s q) (part_count s) p a.known))
              a.inside b.inside
              (eq-eqb _ _ a.same)
              (eq-eqb _ _ (subst (λ n. used s n g ≡ q) (sym part) b.same)),
        )
