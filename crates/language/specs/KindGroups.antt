-- The kind of a process, the groups of kinds that levels and lines tell apart, and the children.
use Rattle.std.specs.Prelude.{Bool, ◌||◌, List, [], ◌∷◌, ℕ, eqb}
use Rattle.language.specs.Syntax as syntax
use Rattle.language.specs.Syntax.{Proc}
use Rattle.language.specs.Kinds.{nil, assign, let_in, if_then_else, while, sequence, emit, local, watching, when, parallel}

unfoldable pub kind_of : {L : Type 0} → Proc L → ℕ
kind_of syntax.nil = nil
kind_of (syntax.assign x e) = assign
kind_of (syntax.let_in x δ e p) = let_in
kind_of (syntax.if_then_else e p q) = if_then_else
kind_of (syntax.while e p) = while
kind_of (syntax.sequence p q) = sequence
kind_of (syntax.emit a) = emit
kind_of (syntax.local a δ p) = local
kind_of (syntax.watching a p) = watching
kind_of (syntax.when a p) = when
kind_of (syntax.parallel p q) = parallel

-- a value goes into a name: assign, let
abbrev pub has_value : ℕ → Bool
has_value kind = eqb kind assign || eqb kind let_in

-- an expression is tested: if, while
abbrev pub has_condition : ℕ → Bool
has_condition kind = eqb kind if_then_else || eqb kind while

-- a signal is tested: watching, when
abbrev pub has_wait : ℕ → Bool
has_wait kind = eqb kind watching || eqb kind when

abbrev pub has_test : ℕ → Bool
has_test kind = has_condition kind || has_wait kind

abbrev pub has_signal : ℕ → Bool
has_signal kind = (eqb kind emit || eqb kind local) || has_wait kind

-- a name is written: assign, emit
abbrev pub has_write : ℕ → Bool
has_write kind = eqb kind assign || eqb kind emit

-- the children of a process
unfoldable pub children_of : {L : Type 0} → Proc L → List (Proc L)
children_of syntax.nil = []
children_of (syntax.assign x e) = []
children_of (syntax.let_in x δ e p) = p ∷ []
children_of (syntax.if_then_else e p q) = p ∷ q ∷ []
children_of (syntax.while e p) = p ∷ []
children_of (syntax.sequence p q) = p ∷ q ∷ []
children_of (syntax.emit a) = []
children_of (syntax.local a δ p) = p ∷ []
children_of (syntax.watching a p) = p ∷ []
children_of (syntax.when a p) = p ∷ []
children_of (syntax.parallel p q) = p ∷ q ∷ []
