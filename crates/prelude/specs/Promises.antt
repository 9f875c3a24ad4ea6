-- What searches ask and answer, and what functions answer that may refuse: no part of what is promised.
use Rattle.std.specs.Prelude.{◌≡◌, Bool, true, false, cond, ℕ, ◌<◌, ltb, Option, Some, None, Result, Ok, Err}
use Rattle.prelude.specs.Search.{first}
use Rattle.prelude.specs.declared.Refusal.{Refusal}
use Rattle.prelude.specs.Refusals.{passes}

-- the test may be called at every number below n
abbrev pub Covers : (ℕ → Type 0) → ℕ → Type 0
Covers pre n = (i : ℕ) → i < n → pre i

-- what the test answers at a number below n is what f says of it
abbrev pub Computes : (ℕ → Bool → Type 0) → ℕ → (ℕ → Bool) → Type 0
Computes post n f = (i : ℕ) → i < n → (b : Bool) → post i b → b ≡ f i

-- the smallest number below n at which the test holds, if there is one
abbrev pub found : (ℕ → Bool) → ℕ → Option ℕ
found f n = cond (ltb (first f n) n) (Some (first f n)) None

-- what a function answers that gives x where nothing is refused: x, or the refusal
abbrev pub outcome : {X : Type 0} → Refusal → X → Result X Refusal
outcome r x = cond (passes r) (Ok x) (Err r)

-- what a function answers that may refuse: the refusal, or where nothing is refused something of which P holds
abbrev pub Answers : {X : Type 0} → Refusal → (X → Type 0) → Result X Refusal → Type 0
Answers r P (Ok x) = (passes r ≡ true) × P x
Answers r P (Err e) = (passes r ≡ false) × (e ≡ r)
