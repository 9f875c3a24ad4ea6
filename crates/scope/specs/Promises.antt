-- What the tables of names in reach keep while they are filled: what the functions ask and give, no part of what is
-- promised.
use Rattle.std.specs.Prelude.{◌≡◌, Bool, ◌&&◌, List, ℕ, suc, ◌+◌, ◌*◌, ◌≤◌, ◌<◌, eqb, get_or, length}
use Rattle.prelude.specs.Sets.{IsSet}
use Rattle.layout.specs.Layout.{most_parts, name_count, part_count}
use Rattle.layout.specs.Entries.{is_session}
use Rattle.fields.specs.Roles.{is_child, is_new}
use Rattle.fields.specs.Fields.{field_count, field_of}
use Rattle.uses.specs.Uses.{used}
use Rattle.scope.specs.Reach.{in_reach}

-- field f of part p uses part q, which comes before p
pub record FieldUses (s : List ℕ) (p f q : ℕ) : Type 0 where
  pub known : p < part_count s
  pub inside : f < field_count
  pub same : used s p f ≡ q
  pub before : q < p

-- field f of part p uses the body of a declaration of x
abbrev pub opens : List ℕ → ℕ → ℕ → ℕ → Bool
opens s p f x = is_child (field_of s p f).role && (is_new (field_of s p 0).role && eqb (field_of s p 0).value x)

-- the set of the names in reach in part q
abbrev pub IsReach : List ℕ → ℕ → ℕ → Type 0
IsReach s q set = IsSet (name_count s) (λ x. in_reach s x q) set

-- a table that keeps it
abbrev pub KeepsReachAt : List ℕ → ℕ → List ℕ → Type 0
KeepsReachAt s q sets = IsReach s q (get_or sets q 0)

-- one that keeps them in the last part, and in the parts that the fields from field f of part p on use
pub record KeepsReachFrom (s : List ℕ) (p f : ℕ) (sets : List ℕ) : Type 0 where
  pub long : length sets ≡ most_parts
  pub last : (q : ℕ) → suc q ≡ part_count s → IsSet (name_count s) (is_session s) (get_or sets q 0)
  pub passed :
      (m g q : ℕ) → field_count * p + f ≤ field_count * m + g → FieldUses s m g q →
      KeepsReachAt s q sets
