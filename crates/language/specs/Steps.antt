-- 01, 'Steps': suspension, moves, instant changes.
use Rattle.std.specs.Prelude.{ℕ, Bool, false, cond, not, ◌&&◌, ◌||◌, List, ℤ, pos, get_or, set, length}
use Rattle.prelude.specs.Table.{table}
use Rattle.values.specs.Values.{sum, difference, product, quotient, holds, truth, less_than, equal_to, negation}
use Rattle.language.specs.Syntax.{Names, Operator, add, subtract, multiply, divide, less, equal, Exp, constant, register, binary, negated, Proc, nil, assign, let_in, if_then_else, while, sequence, emit, local, watching, when, parallel, is_nil}

-- The values: one number for each name. The report's store S is what its registers hold; a signal is in the report's
-- environment E if what it holds is not 0.
abbrev pub held : List ℤ → ℕ → ℤ
held s x = get_or s x (pos 0)

abbrev pub present : List ℤ → ℕ → Bool
present s a = holds (held s a)

abbrev pub apply : Operator → ℤ → ℤ → ℤ
apply add a b = sum a b
apply subtract a b = difference a b
apply multiply a b = product a b
apply divide a b = quotient a b
apply less a b = less_than a b
apply equal a b = equal_to a b

-- S(e)
unfoldable pub evaluate : Exp → (ℕ → ℤ) → ℤ
evaluate (constant v) S = v
evaluate (register x) S = S x
evaluate (binary o a b) S = apply o (evaluate a S) (evaluate b S)
evaluate (negated a) S = negation (evaluate a S)

unfoldable pub value : Exp → List ℤ → ℤ
value e s = evaluate e (held s)

-- 'A test holds if nonzero'
abbrev pub test : Exp → List ℤ → Bool
test e s = holds (value e s)

-- What a step writes for a reader to see: 'a let writes none'.
pub data Output : Type 0 where
  silent : Output
  assigned : ℕ → ℤ → Output
  emitted : ℕ → Output

-- what a move or a step leaves, and what it writes
pub record StepResult (L : Type 0) : Type 0 where
  pub process : Proc L
  pub values : List ℤ
  pub output : Output

module _ {L : Type 0} where
  abbrev pub leaves : Proc L → List ℤ → StepResult L
  leaves p s = record { process = p; values = s; output = silent }

  -- the result of a part's step, in its context
  abbrev pub inside : (Proc L → Proc L) → StepResult L → StepResult L
  inside context r = record { process = context r.process; values = r.values; output = r.output }

  -- 'Suspended: when with signal absent or body suspended; watching with body suspended; sequence with first part
  -- suspended; parallel with both suspended.'
  unfoldable pub suspended : Proc L → List ℤ → Bool
  suspended nil s = false
  suspended (assign x e) s = false
  suspended (let_in x δ e p) s = false
  suspended (if_then_else e p q) s = false
  suspended (while e p) s = false
  suspended (sequence p q) s = suspended p s
  suspended (emit a) s = false
  suspended (local a δ p) s = false
  suspended (watching a p) s = suspended p s
  suspended (when a p) s = not (present s a) || suspended p s
  suspended (parallel p q) s = suspended p s && suspended q s

  -- the move of a process that is neither nil nor suspended
  unfoldable pub move : Proc L → List ℤ → StepResult L
  move nil s = leaves nil s
  -- 'assignment and emission leave nil; let sets its name, local makes its signal absent, each leaves its body'
  move (assign x e) s = record { process = nil; values = set s x (value e s); output = assigned x (value e s) }
  move (emit a) s = record { process = nil; values = set s a (pos 1); output = emitted a }
  move (let_in x δ e p) s = leaves p (set s x (value e s))
  move (local a δ p) s = leaves p (set s a (pos 0))
  -- 'if leaves a branch; while leaves body then itself, or nil'
  move (if_then_else e p q) s = leaves (cond (test e s) p q) s
  move (while e p) s = leaves (cond (test e s) (sequence p (while e p)) nil) s
  -- 'nil before a sequence is dropped; nil watching goes'
  move (sequence p q) s = cond (is_nil p) (leaves q s) (inside (λ p'. sequence p' q) (move p s))
  move (watching a p) s = cond (is_nil p) (leaves nil s) (inside (watching a) (move p s))
  -- 'when with its signal present moves its body, and goes if that is nil'
  move (when a p) s = cond (is_nil p) (leaves nil s) (inside (when a) (move p s))
  -- 'a parallel moves its left part, drops a nil left part, and trades places if the left is suspended and the right
  -- is not'
  move (parallel p q) s =
      cond
      (is_nil p)
      (leaves q s)
      (cond (suspended p s) (leaves (parallel q p) s) (inside (λ p'. parallel p' q) (move p s)))

  -- 'watching becomes nil if its signal was present, else its body changes; when changes its body only if its signal
  -- was present; a sequence changes its first part; a parallel both'
  unfoldable pub change : Proc L → List ℤ → Proc L
  change nil s = nil
  change (assign x e) s = assign x e
  change (let_in x δ e p) s = let_in x δ e p
  change (if_then_else e p q) s = if_then_else e p q
  change (while e p) s = while e p
  change (sequence p q) s = sequence (change p s) q
  change (emit a) s = emit a
  change (local a δ p) s = local a δ p
  change (watching a p) s = cond (present s a) nil (watching a (change p s))
  change (when a p) s = cond (present s a) (when a (change p s)) (when a p)
  change (parallel p q) s = parallel (change p s) (change q s)

-- The signals that the instrument makes present, for each instant: 02 (a), 'its listed signals'.
abbrev pub Inputs : Type 0
Inputs = ℕ → ℕ → Bool

-- ∅: no signal; and none in any instant
abbrev pub no_signal : ℕ → Bool
no_signal a = false

abbrev pub no_inputs : Inputs
no_inputs i = no_signal

module _ {L : Type 0} (names : Names L) (listed : ℕ → Bool) where
  -- What an instant begins with for which these signals are listed: 'Then every signal is absent', but 'on entering an
  -- instant its listed signals are present'.
  unfoldable pub instant_start : List ℤ → List ℤ
  instant_start s = table (λ x. cond (names.is_signal x) (truth (listed x)) (held s x)) (length s)

  -- 'If the whole is suspended, the step is an instant change.' The listed signals are those of the instant that it
  -- enters: they are present 'in the same step as the change and without a log line'.
  unfoldable pub step : Proc L → List ℤ → StepResult L
  step p s = cond (suspended p s) (leaves (change p s) (instant_start s)) (move p s)
