-- Recursion over a table in which each entry refers to earlier ones: course-of-values recursion.
-- A tree is read off a file so, since operands and children have smaller numbers than their parent.
use Rattle.std.specs.Prelude.{List, [], ◌∷◌, ◌++◌, ℕ, zero, suc}

-- the first n values, each made of its number and the values before it
unfoldable pub course {ℓ} : {A : Type ℓ} → (ℕ → List A → A) → ℕ → List A
course f zero = []
course f (suc n) = course f n ++ (f n (course f n) ∷ [])

-- value n
unfoldable pub entry {ℓ} : {A : Type ℓ} → (ℕ → List A → A) → ℕ → A
entry f n = f n (course f n)
