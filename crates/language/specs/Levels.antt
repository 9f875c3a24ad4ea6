-- 01, 'Write level and test level'.
use Rattle.std.specs.Prelude.{Bool, true, ◌&&◌}
use Rattle.lattice.specs.Lattice.{Lattice}
use Rattle.language.specs.Syntax.{Names, Exp, constant, register, binary, negated, Proc, nil, assign, let_in, if_then_else, while, sequence, emit, local, watching, when, parallel}

module _ {L : Type 0} (𝓛 : Lattice L) (names : Names L) where
  -- 'An expression's level is the join of its registers' levels, bottom if none.'
  unfoldable pub exp_level : Exp → L
  exp_level (constant v) = 𝓛.bottom
  exp_level (register x) = names.level x
  exp_level (binary o a b) = 𝓛.join (exp_level a) (exp_level b)
  exp_level (negated a) = exp_level a

  -- 'W is the meet of what a node may write'
  unfoldable pub write_level : Proc L → L
  write_level nil = 𝓛.top
  write_level (assign x e) = names.level x
  write_level (let_in x δ e p) = write_level p
  write_level (if_then_else e p q) = 𝓛.meet (write_level p) (write_level q)
  write_level (while e p) = write_level p
  write_level (sequence p q) = 𝓛.meet (write_level p) (write_level q)
  write_level (emit a) = names.level a
  write_level (local a δ p) = write_level p
  write_level (watching a p) = write_level p
  write_level (when a p) = write_level p
  write_level (parallel p q) = 𝓛.meet (write_level p) (write_level q)

  -- 'T the join of what it tests'
  unfoldable pub test_level : Proc L → L
  test_level nil = 𝓛.bottom
  test_level (assign x e) = 𝓛.bottom
  test_level (let_in x δ e p) = test_level p
  test_level (if_then_else e p q) = 𝓛.join (exp_level e) (𝓛.join (test_level p) (test_level q))
  test_level (while e p) = 𝓛.join (exp_level e) (test_level p)
  test_level (sequence p q) = 𝓛.join (test_level p) (test_level q)
  test_level (emit a) = 𝓛.bottom
  test_level (local a δ p) = test_level p
  test_level (watching a p) = 𝓛.join (names.level a) (test_level p)
  test_level (when a p) = 𝓛.join (names.level a) (test_level p)
  test_level (parallel p q) = 𝓛.join (test_level p) (test_level q)

  -- what the node itself needs: 'D at or below the name's level', 'D ≤ W', 'the joined T ≤ W', 'T of a ≤ W of b'
  unfoldable pub need : Proc L → Bool
  need nil = true
  need (assign x e) = 𝓛.leq (exp_level e) (names.level x)
  need (let_in x δ e p) = 𝓛.leq (exp_level e) (names.level x)
  need (if_then_else e p q) = 𝓛.leq (exp_level e) (𝓛.meet (write_level p) (write_level q))
  need (while e p) = 𝓛.leq (𝓛.join (exp_level e) (test_level p)) (write_level p)
  need (sequence p q) = 𝓛.leq (test_level p) (write_level q)
  need (emit a) = true
  need (local a δ p) = true
  need (watching a p) = 𝓛.leq (names.level a) (write_level p)
  need (when a p) = 𝓛.leq (names.level a) (write_level p)
  need (parallel p q) = 𝓛.leq (test_level p) (write_level q) && 𝓛.leq (test_level q) (write_level p)

  -- every node's need holds
  unfoldable pub needs : Proc L → Bool
  needs nil = need nil
  needs (assign x e) = need (assign x e)
  needs (let_in x δ e p) = need (let_in x δ e p) && needs p
  needs (if_then_else e p q) = need (if_then_else e p q) && (needs p && needs q)
  needs (while e p) = need (while e p) && needs p
  needs (sequence p q) = need (sequence p q) && (needs p && needs q)
  needs (emit a) = need (emit a)
  needs (local a δ p) = need (local a δ p) && needs p
  needs (watching a p) = need (watching a p) && needs p
  needs (when a p) = need (when a p) && needs p
  needs (parallel p q) = need (parallel p q) && (needs p && needs q)
