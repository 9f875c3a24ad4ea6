-- What right names and right fields tell: an owned name's declaration, and the name that a field holds.
use mathlib.Core.Path.{◌≡◌, sym, ◌∙◌}
use mathlib.Core.Bool.{true, false, ◌||◌}
use mathlib.Core.List.{List}
use Prim.Native.Nat.{ℕ, ◌<◌}
use native.Mathlib.Omega.{arith}
use Rattle.std.proofs.lemmas.Bool.Decides.{nat_tests}
use Rattle.prelude.proofs.Bools.{or_first, or-true}
use Rattle.layout.specs.Layout.{name_count, node_count, part_count}
use Rattle.layout.specs.Entries.{name_of, is_session, node}
use Rattle.fields.specs.declared.roles.Role.{Role}
use Rattle.fields.specs.Roles.{is_use, is_new}
use Rattle.fields.specs.Fields.{field_count, field_of}
use Rattle.entries.specs.Faults.{declares_as, kind_for}
use Rattle.entries.specs.Promises.{Sound}
use Rattle.entries.proofs.Holding.{holds_name_lem, right_field}

module _ (s : List ℕ) (sound : Sound s) where
  -- the node that owns an owned name declares it
  pub record Owned (x : ℕ) : Type 0 where
    pub inside : (name_of s x).owner < node_count s
    pub declared : declares_as (name_of s x).kind (field_of s (node s (name_of s x).owner) 0).role ≡ true
    pub itself : (field_of s (node s (name_of s x).owner) 0).value ≡ x

  pub owned : (x : ℕ) → x < name_count s → is_session s x ≡ false → Owned x
  owned x h n =
      let d = sound.owners x h in
      record { inside = grind (arith, nat_tests); declared = grind (arith, nat_tests); itself = grind (arith, nat_tests) }

  declares-new : (kind : ℕ) (r : Role) → declares_as kind r ≡ true → is_new r ≡ true
  declares-new kind r h = grind arith

  pub is_new_lem : (x : ℕ) → Owned x → is_new (field_of s (node s (name_of s x).owner) 0).role ≡ true
  is_new_lem x o = declares-new (name_of s x).kind _ o.declared

  -- a right field that holds a name
  pub record Named (q f : ℕ) : Type 0 where
    pub known : (field_of s q f).value < name_count s
    pub kinded : (name_of s (field_of s q f).value).kind ≡ kind_for (field_of s q f).role
    pub own : is_new (field_of s q f).role ≡ true → node s (name_of s (field_of s q f).value).owner ≡ q

  named :
      (q f : ℕ) → q < part_count s → f < field_count →
      (is_use (field_of s q f).role || is_new (field_of s q f).role) ≡ true → Named q f
  named q f h l e =
      let t = sym (holds_name_lem s q (field_of s q f) e) ∙ right_field s sound q f h l in
      record { known = grind (arith, nat_tests); kinded = grind (arith, nat_tests); own = λ n. grind (arith, nat_tests) }

  pub named_new : (q f : ℕ) → q < part_count s → f < field_count → is_new (field_of s q f).role ≡ true → Named q f
  named_new q f h l n = named q f h l (or-true (is_use (field_of s q f).role) _ n)

  pub named_use : (q f : ℕ) → q < part_count s → f < field_count → is_use (field_of s q f).role ≡ true → Named q f
  named_use q f h l u = named q f h l (or_first (is_use (field_of s q f).role) _ u)
