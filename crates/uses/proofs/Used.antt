-- The part that a field uses, by the field's role; how often the parts so far use one.
use mathlib.Core.Path.{◌≡◌, refl, sym, ap, ◌∙◌}
use mathlib.Core.List.{List}
use Prim.Native.Nat.{ℕ, zero, suc, ◌+◌, ◌*◌, ◌≤◌, ◌<◌}
use native.Mathlib.Nat.{add-zero}
use native.Mathlib.Numerals.{add-one}
use native.Mathlib.Omega.{arith}
use lib.Dec.{eqb}
use lib.ListN.{replicate, get_or-replicate}
use Rattle.std.proofs.Common.{Some, None}
use Rattle.prelude.specs.Search.{count, total}
use Rattle.prelude.proofs.Counts.{count_within}
use Rattle.layout.specs.Layout.{most_parts, expression_count, part_count}
use Rattle.fields.specs.declared.Field.{Field}
use Rattle.fields.specs.declared.roles.Role.TheVariants.{Expression, Child}
use Rattle.fields.specs.Fields.{field_count, field_of}
use Rattle.uses.specs.Uses.{part_used, used_by, used, times_in, times_used}
use Rattle.uses.specs.Promises.{KeepsTimes, KeepsTimesTo}

module _ (s : List ℕ) where
  pub used_of : (p f : ℕ) → used s p f ≡ used_by (expression_count s) (field_of s p f)
  unfolding used
  used_of p f = refl

  -- the same, where the field uses a part, and where it uses none
  pub used_some : (p f : ℕ) {u : ℕ} → part_used (expression_count s) (field_of s p f) ≡ Some u → used s p f ≡ u
  unfolding used
  used_some p f e = rw e

  pub used_none : (p f : ℕ) → part_used (expression_count s) (field_of s p f) ≡ None → used s p f ≡ most_parts
  unfolding used
  used_none p f e = rw e

  pub times_within : (q n : ℕ) → total (times_in s q) n ≤ field_count * n
  unfolding total
  times_within q zero = omega arith
  times_within q (suc n) = omega (arith, times_within q n, count_within (λ f. eqb (used s n f) q) field_count)

  -- before the first field, and past the last field of a part
  pub times_none : KeepsTimesTo s 0 0 (replicate most_parts 0)
  unfolding total count
  times_none = (refl, λ q h. get_or-replicate most_parts q 0 0 h)

  pub times_part : (p : ℕ) (times : List ℕ) → KeepsTimesTo s p field_count times → KeepsTimesTo s (p + 1) 0 times
  unfolding total count
  times_part p times keeps =
      (keeps.0, λ q h. keeps.1 q h ∙ sym (add-zero _ ∙ ap (total (times_in s q)) (add-one p)))

  -- past the last part
  pub times_all : (p : ℕ) (times : List ℕ) → p ≡ part_count s → KeepsTimesTo s p 0 times → KeepsTimes s times
  unfolding times_used count
  times_all p times all keeps q h = keeps.1 q h ∙ add-zero _ ∙ ap (total (times_in s q)) all

-- a number of a part is that of one that is used
pub used_part : (n : ℕ) (x : Field) → used_by n x < most_parts → part_used n x ≡ Some (used_by n x)
used_part n x h = grind arith

pub used_expression : (n : ℕ) (x : Field) → x.role ≡ Expression → used_by n x ≡ x.value
used_expression n x e = rw e

pub used_child : (n : ℕ) (x : Field) → x.role ≡ Child → used_by n x ≡ n + x.value
used_child n x e = rw e

pub used_by_role :
    (M : ℕ → Type 0) (n : ℕ) (x : Field) → (x.role ≡ Expression → M x.value) → (x.role ≡ Child → M (n + x.value)) →
    M most_parts → M (used_by n x)
used_by_role M n x operand node none = grind (arith, operand, node, none)
