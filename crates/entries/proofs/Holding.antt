-- What a right field holds, role by role.
use mathlib.Core.Path.{◌≡◌}
use mathlib.Core.Bool.{true, ◌&&◌, ◌||◌}
use mathlib.Core.List.{List}
use Prim.Native.Nat.{ℕ, ◌<◌}
use native.Mathlib.Omega.{arith}
use lib.Dec.{eqb, ltb}
use borrow.Author.Tests.{ltb-true}
use Rattle.prelude.proofs.Bools.{and_left, and_right}
use Rattle.prelude.proofs.Searches.{all_elim}
use Rattle.layout.specs.Layout.{expression_count, part_count}
use Rattle.layout.specs.Entries.{node, part_of}
use Rattle.fields.specs.declared.Field.{Field}
use Rattle.fields.specs.declared.roles.Role.TheVariants.{Unused, Expression, Child}
use Rattle.fields.specs.Roles.{is_use, is_new}
use Rattle.fields.specs.Fields.{field_count, field_of}
use Rattle.entries.specs.Faults.{field_is_right, holds_name, kinds_for}
use Rattle.entries.specs.Promises.{Sound}

module _ (s : List ℕ) (q : ℕ) (x : Field) where
  pub holds_expression : x.role ≡ Expression → field_is_right s q x ≡ (ltb x.value (expression_count s) && ltb x.value q)
  unfolding field_is_right
  holds_expression e = rw e

  pub holds_child_lem : x.role ≡ Child → field_is_right s q x ≡ ltb (node s x.value) q
  unfolding field_is_right
  holds_child_lem e = rw e

  pub holds_unused : x.role ≡ Unused → field_is_right s q x ≡ eqb x.value 0
  unfolding field_is_right
  holds_unused e = rw e

  -- a field that uses or declares a name
  pub holds_name_lem : (is_use x.role || is_new x.role) ≡ true → field_is_right s q x ≡ holds_name s q x
  unfolding field_is_right
  holds_name_lem h = grind arith

module _ (s : List ℕ) (sound : Sound s) where
  pub right_kind : (q : ℕ) → q < part_count s → (part_of s q).kind < kinds_for (expression_count s) q
  right_kind q h = ltb-true _ _ (and_left (ltb (part_of s q).kind (kinds_for (expression_count s) q)) _ (sound.parts q h))

  pub right_field : (q f : ℕ) → q < part_count s → f < field_count → field_is_right s q (field_of s q f) ≡ true
  right_field q f h =
      all_elim (λ f. field_is_right s q (field_of s q f)) field_count
      (and_right (eqb (part_of s q).zero 0) _
      (and_right (ltb (part_of s q).kind (kinds_for (expression_count s) q)) _ (sound.parts q h)))
      f
