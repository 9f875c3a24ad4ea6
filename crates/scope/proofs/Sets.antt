-- A set of names as a number, collected name by name.
use mathlib.Core.Path.{◌≡◌}
use mathlib.Core.Bool.{Bool, true, false, ◌&&◌, ◌||◌}
use Prim.Native.Nat.{ℕ, ◌+◌, ◌≤◌}
use native.Mathlib.Omega.{arith}
use lib.Dec.{eqb, ltb}
use Rattle.std.proofs.lemmas.Bool.Decides.{nat_tests}
use Rattle.prelude.specs.Sets.{has, IsSet}
use Rattle.prelude.proofs.Sets.{has_zero}

-- a loop that collects the names of which f holds: none of them, with name x, without it, all
abbrev pub up_to : ℕ → (ℕ → Bool) → ℕ → Bool
up_to x f y = ltb y x && f y

module _ (f : ℕ → Bool) where
  pub collect_none : (n : ℕ) → IsSet n (up_to 0 f) 0
  collect_none n y h = grind (arith, nat_tests, has_zero)

  pub collect_with :
      (n x set more : ℕ) → f x ≡ true → IsSet n (λ y. eqb x y || has set y) more → IsSet n (up_to x f) set →
      IsSet n (up_to (x + 1) f) more
  collect_with n x set more e one h y l = let a = one y l in let b = h y l in grind (arith, nat_tests)

  pub collect_without : (n x set : ℕ) → f x ≡ false → IsSet n (up_to x f) set → IsSet n (up_to (x + 1) f) set
  collect_without n x set e h y l = let b = h y l in grind (arith, nat_tests)

  pub collect_all : (n x set : ℕ) → n ≤ x → (m : ℕ) → n ≤ m → IsSet m (up_to x f) set → IsSet n f set
  collect_all n x set h m k all y l = let b = all y (omega arith) in grind (arith, nat_tests)
