-- How the walks find a node's children: no part of what is promised.
use Rattle.std.specs.Prelude.{◌≡◌, Bool, cond, ℕ, ◌+◌}
use Rattle.layout.specs.declared.parts.Part.{Part}
use Rattle.fields.specs.declared.children.Children.{Children}
use Rattle.fields.specs.declared.children.Children.TheVariants.{None, One, Two}
use Rattle.fields.specs.Roles.{node_rows, role_in, is_child}

-- field f of a node of this kind holds a child
abbrev pub has_child : ℕ → ℕ → Bool
has_child kind f = is_child (role_in node_rows kind f)

-- how many children a node of this kind has
abbrev pub child_count : ℕ → ℕ
child_count kind = cond (has_child kind 0) 1 0 + cond (has_child kind 1) 1 0 + cond (has_child kind 2) 1 0

-- the children of a node: a first child stands in the first field that holds one, a second in the field after it
unfoldable pub first_child : Part → ℕ
first_child p = cond (has_child p.kind 0) p.a (cond (has_child p.kind 1) p.b p.c)

unfoldable pub second_child : Part → ℕ
second_child p = cond (has_child p.kind 0) p.b (cond (has_child p.kind 1) p.c 0)

-- these are the children of a node
abbrev pub AreChildren : Part → Children → Type 0
AreChildren p None = child_count p.kind ≡ 0
AreChildren p (One x) = (child_count p.kind ≡ 1) × (x ≡ first_child p)
AreChildren p (Two x y) = (child_count p.kind ≡ 2) × ((x ≡ first_child p) × (y ≡ second_child p))
