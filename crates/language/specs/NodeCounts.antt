-- How many nodes a process has, of every kind or of some.
use Rattle.std.specs.Prelude.{Bool, true, cond, ℕ, suc, ◌+◌}
use Rattle.language.specs.Kinds as kinds
use Rattle.language.specs.Syntax.{Proc, nil, assign, let_in, if_then_else, while, sequence, emit, local, watching, when, parallel}

-- one more than n, if the test holds
abbrev one_if : Bool → ℕ → ℕ
one_if test n = cond test (suc n) n

module _ {L : Type 0} where
  -- how many nodes of a process have a kind with the test
  unfoldable pub counted : Proc L → (ℕ → Bool) → ℕ
  counted nil f = one_if (f kinds.nil) 0
  counted (assign x e) f = one_if (f kinds.assign) 0
  counted (let_in x δ e p) f = one_if (f kinds.let_in) (counted p f)
  counted (if_then_else e p q) f = one_if (f kinds.if_then_else) (counted p f + counted q f)
  counted (while e p) f = one_if (f kinds.while) (counted p f)
  counted (sequence p q) f = one_if (f kinds.sequence) (counted p f + counted q f)
  counted (emit a) f = one_if (f kinds.emit) 0
  counted (local a δ p) f = one_if (f kinds.local) (counted p f)
  counted (watching a p) f = one_if (f kinds.watching) (counted p f)
  counted (when a p) f = one_if (f kinds.when) (counted p f)
  counted (parallel p q) f = one_if (f kinds.parallel) (counted p f + counted q f)

  -- how many nodes a process has
  abbrev pub size : Proc L → ℕ
  size p = counted p (λ kind. true)
