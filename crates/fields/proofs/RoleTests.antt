-- A role, by the tests of it.
use mathlib.Core.Path.{◌≡◌}
use mathlib.Core.Bool.{true}
use native.Mathlib.Omega.{arith}
use Rattle.fields.specs.declared.roles.Role.{Role}
use Rattle.fields.specs.declared.roles.Role.TheVariants.{Expression, Child}
use Rattle.fields.specs.Roles.{is_expression, is_child}

pub expression_lem : (r : Role) → is_expression r ≡ true → r ≡ Expression
expression_lem r e = grind arith

pub child_lem : (r : Role) → is_child r ≡ true → r ≡ Child
child_lem r e = grind arith
