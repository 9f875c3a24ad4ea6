-- 02 (e), 'What the script would need': the flows between levels that the needs of 01's list rest on, with no lattice.
-- As there, a test is the expression of an if or a while or the signal of a when or a watching; a write is an
-- assignment or an emission, to an owned name too. A declaration is neither.
use Rattle.std.specs.Prelude.{Bool, false, ◌&&◌, ◌||◌, ℕ, eqb}
use Rattle.language.specs.Syntax.{Names, Exp, constant, register, binary, negated, Proc, nil, assign, let_in, if_then_else, while, sequence, emit, local, watching, when, parallel}

module _ (names : Names ℕ) where
  -- i is the level of name x
  abbrev pub is_level : ℕ → ℕ → Bool
  is_level x i = eqb (names.level x) i

  -- i is a register level of the expression
  unfoldable pub reads : Exp → ℕ → Bool
  reads (constant v) i = false
  reads (register x) i = is_level x i
  reads (binary o a b) i = reads a i || reads b i
  reads (negated a) i = reads a i

  -- i is a tested level
  unfoldable pub tests : Proc ℕ → ℕ → Bool
  tests nil i = false
  tests (assign x e) i = false
  tests (let_in x δ e p) i = tests p i
  tests (if_then_else e p q) i = reads e i || (tests p i || tests q i)
  tests (while e p) i = reads e i || tests p i
  tests (sequence p q) i = tests p i || tests q i
  tests (emit a) i = false
  tests (local a δ p) i = tests p i
  tests (watching a p) i = is_level a i || tests p i
  tests (when a p) i = is_level a i || tests p i
  tests (parallel p q) i = tests p i || tests q i

  -- j is a written level
  unfoldable pub writes : Proc ℕ → ℕ → Bool
  writes nil j = false
  writes (assign x e) j = is_level x j
  writes (let_in x δ e p) j = writes p j
  writes (if_then_else e p q) j = writes p j || writes q j
  writes (while e p) j = writes p j
  writes (sequence p q) j = writes p j || writes q j
  writes (emit a) j = is_level a j
  writes (local a δ p) j = writes p j
  writes (watching a p) j = writes p j
  writes (when a p) j = writes p j
  writes (parallel p q) j = writes p j || writes q j

  -- what the node itself needs: 'each register level of an assigned or let expression to that name; each tested level
  -- to each written level, wherever a node's need joins them'
  unfoldable pub needs_flow : Proc ℕ → ℕ → ℕ → Bool
  needs_flow nil i j = false
  needs_flow (assign x e) i j = reads e i && is_level x j
  needs_flow (let_in x δ e p) i j = reads e i && is_level x j
  needs_flow (if_then_else e p q) i j = reads e i && (writes p j || writes q j)
  needs_flow (while e p) i j = (reads e i || tests p i) && writes p j
  needs_flow (sequence p q) i j = tests p i && writes q j
  needs_flow (emit a) i j = false
  needs_flow (local a δ p) i j = false
  needs_flow (watching a p) i j = is_level a i && writes p j
  needs_flow (when a p) i j = is_level a i && writes p j
  needs_flow (parallel p q) i j = (tests p i && writes q j) || (tests q i && writes p j)

  -- some node needs it: 'data must be let flow' from level i to level j
  unfoldable pub must_flow : Proc ℕ → ℕ → ℕ → Bool
  must_flow nil i j = needs_flow nil i j
  must_flow (assign x e) i j = needs_flow (assign x e) i j
  must_flow (let_in x δ e p) i j = needs_flow (let_in x δ e p) i j || must_flow p i j
  must_flow (if_then_else e p q) i j = needs_flow (if_then_else e p q) i j || (must_flow p i j || must_flow q i j)
  must_flow (while e p) i j = needs_flow (while e p) i j || must_flow p i j
  must_flow (sequence p q) i j = needs_flow (sequence p q) i j || (must_flow p i j || must_flow q i j)
  must_flow (emit a) i j = needs_flow (emit a) i j
  must_flow (local a δ p) i j = needs_flow (local a δ p) i j || must_flow p i j
  must_flow (watching a p) i j = needs_flow (watching a p) i j || must_flow p i j
  must_flow (when a p) i j = needs_flow (when a p) i j || must_flow p i j
  must_flow (parallel p q) i j = needs_flow (parallel p q) i j || (must_flow p i j || must_flow q i j)
