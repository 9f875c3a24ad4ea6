-- A table of the names in reach that is filled from the last field to the first: a part is used by a later one.
use mathlib.Core.Path.{◌≡◌, sym, ap, ap₂, ◌∙◌, subst}
use mathlib.Core.Bool.{◌||◌}
use mathlib.Core.List.{List}
use Prim.Native.Nat.{ℕ, suc, ◌+◌, ◌*◌, ◌≤◌, ◌<◌}
use native.Mathlib.Numerals.{lt_of_le_of_ne}
use native.Mathlib.Omega.{arith}
use native.Mathlib.Decide.{dec_lt, ℕ_discrete}
use lib.ListN.{get_or, length, set, length-set}
use lib.Seq.{get_or-set_same, get_or-set_other}
use Rattle.prelude.specs.Sets.{has, IsSet}
use Rattle.layout.specs.Layout.{most_parts, name_count, part_count}
use Rattle.layout.specs.Entries.{is_session}
use Rattle.fields.specs.Fields.{field_count}
use Rattle.uses.specs.Uses.{used}
use Rattle.scope.specs.Promises.{FieldUses, opens, KeepsReachAt, KeepsReachFrom}
use Rattle.scope.specs.Joined.{Joined}
use Rattle.scope.proofs.Joining.{user}
use Rattle.scope.proofs.Reaching.{reach_used, reach_last}

module _ (s : List ℕ) (j : Joined s) (few : part_count s ≤ most_parts) where
  -- then so are those of all parts that only these fields can use
  pub right_from :
      (p : ℕ) (sets : List ℕ) → KeepsReachFrom s p 0 sets → (q : ℕ) → q < part_count s → p ≤ q + 1 → KeepsReachAt s q sets
  right_from p sets h q l u =
      elim (dec_lt (suc q) (part_count s)) [
        | yes more ↦
            let w = user s j q more (omega arith) in
            h.passed w.0 w.1 q (omega (arith, w.2.before)) w.2
        | no end ↦ λ x k. grind (arith, h.last q, reach_last s j q x)
      ]

  -- one field, by its number among all
  same_field :
      (p f m g : ℕ) → f < field_count → g < field_count → field_count * p + f ≡ field_count * m + g → used s p f ≡ used s m g
  same_field p f m g h l e =
      let part : p ≡ m = omega arith in
      let field : f ≡ g = omega arith in
      ap₂ (used s) part field

  -- a later field to start from
  pub fill_less :
      (p f m g : ℕ) (sets : List ℕ) → field_count * p + f ≤ field_count * m + g → KeepsReachFrom s p f sets →
      KeepsReachFrom s m g sets
  fill_less p f m g sets l h =
      record { long = h.long; last = h.last; passed = λ k i q a. h.passed k i q (omega arith) }

  -- past the last field: part v is the last one
  pub fill_last :
      (p v more : ℕ) (sets : List ℕ) → length sets ≡ most_parts → part_count s ≤ p → suc v ≡ part_count s →
      IsSet (name_count s) (is_session s) more → KeepsReachFrom s p 0 (set sets v more)
  fill_last p v more sets n h end new =
      record {
        long = simp length-set n;
        last = λ q e x l. let same : q ≡ v = omega arith in rw same (grind (arith, get_or-set_same, new x));
        passed = λ k g q l u. absurd (omega (arith, u.known, u.inside));
      }

  -- a field that uses no part
  pub fill_skip :
      (p n f : ℕ) (sets : List ℕ) → n ≤ suc f → f < field_count → most_parts ≤ used s p f → KeepsReachFrom s p n sets →
      KeepsReachFrom s p f sets
  fill_skip p n f sets next inside none h =
      record {
        long = h.long;
        last = h.last;
        passed =
            λ m g q l u. grind (arith, u.known, u.before, u.same, u.inside, same_field p f m g inside u.inside, h.passed m g q);
      }

  -- a field that uses part v, whose set is made of that of the field's own part
  pub fill_more :
      (p n f v more : ℕ) (sets : List ℕ) → n ≤ suc f → FieldUses s p f v →
      IsSet (name_count s) (λ x. opens s p f x || has (get_or sets p 0) x) more →
      KeepsReachFrom s p n sets → KeepsReachFrom s p f (set sets v more)
  fill_more p n f v more sets next w new h =
      record {
        long = simp length-set h.long;
        last = λ q end. rw (get_or-set_other sets v q more 0 (λ same. omega (arith, w.before, w.known))) (h.last q end);
        passed =
            λ m g q l u.
            elim (ℕ_discrete v q) [
              | yes same ↦
                  subst (λ q. KeepsReachAt s q (set sets v more)) same
                  (λ x named.
                  ap (λ n. has n x) (get_or-set_same sets v more 0 (omega (arith, h.long, w.before, w.known)))
                  ∙ new x named
                  ∙ ap (λ b. opens s p f x || b)
                  (right_from (suc p) sets (fill_less p n (suc p) 0 sets (omega (arith, w.inside)) h) p w.known
                  (omega arith) x named)
                  ∙ sym (reach_used s j w x named))
              | no differ ↦
                  rw (get_or-set_other sets v q more 0 (λ e. differ (sym e)))
                  (h.passed m g q
                  (omega (
                    arith,
                    lt_of_le_of_ne l
                        (λ e. differ (sym w.same ∙ same_field p f m g w.inside u.inside e ∙ u.same)),
                  ))
                  u)
            ];
      }
