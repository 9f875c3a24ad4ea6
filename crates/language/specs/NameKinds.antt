-- RR-5594, 2.1: variables and signals are two disjoint sets of names. Here a name is a kind and a number.
use Rattle.std.specs.Prelude.{ℕ, Bool, false, cond, not, eqb}

pub data Kind : Type 0 where
  var sig : Kind

-- the names k x and j y are one
unfoldable pub same : Kind → ℕ → Kind → ℕ → Bool
same var x var y = eqb x y
same var x sig y = false
same sig x var y = false
same sig x sig y = eqb x y

-- {x : b} f: f, but b at the name k x
abbrev pub put : {B : Type 0} → (Kind → ℕ → B) → Kind → ℕ → B → Kind → ℕ → B
put f k x b j y = cond (same k x j y) b (f j y)

-- a name of a file is of this kind, by whether it is a signal there
abbrev pub is_of : Kind → Bool → Bool
is_of var is_signal = not is_signal
is_of sig is_signal = is_signal
