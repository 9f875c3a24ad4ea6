-- What the shape of a process tells: whether a watching stands in it, which names it leaves alone.
use Rattle.std.specs.Prelude.{Bool, true, false, not, ◌&&◌, ◌||◌, ℕ, eqb}
use Rattle.language.specs.Syntax.{Proc, nil, assign, let_in, if_then_else, while, sequence, emit, local, watching, when, parallel}

module _ {L : Type 0} where
  -- a watching stands in a process; where none does, an instant change leaves it as it is
  unfoldable pub watches : Proc L → Bool
  watches nil = false
  watches (assign x e) = false
  watches (let_in x δ e p) = watches p
  watches (if_then_else e p q) = watches p || watches q
  watches (while e p) = watches p
  watches (sequence p q) = watches p || watches q
  watches (emit a) = false
  watches (local a δ p) = watches p
  watches (watching a p) = true
  watches (when a p) = watches p
  watches (parallel p q) = watches p || watches q

  -- p sets no register a and declares no name a: at most it makes a signal a present
  unfoldable pub leaves_alone : ℕ → Proc L → Bool
  leaves_alone a nil = true
  leaves_alone a (assign x e) = not (eqb x a)
  leaves_alone a (let_in x δ e p) = not (eqb x a) && leaves_alone a p
  leaves_alone a (if_then_else e p q) = leaves_alone a p && leaves_alone a q
  leaves_alone a (while e p) = leaves_alone a p
  leaves_alone a (sequence p q) = leaves_alone a p && leaves_alone a q
  leaves_alone a (emit b) = true
  leaves_alone a (local x δ p) = not (eqb x a) && leaves_alone a p
  leaves_alone a (watching b p) = leaves_alone a p
  leaves_alone a (when b p) = leaves_alone a p
  leaves_alone a (parallel p q) = leaves_alone a p && leaves_alone a q
