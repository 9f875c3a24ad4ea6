-- The kinds of nodes, in the order of their numbers: what the fields of each are for, and which process they make.
use Rattle.std.specs.Prelude.{List, [], ◌∷◌, ℕ, get_or}
use Rattle.language.specs.Syntax.{Exp, Proc, nil, assign, let_in, if_then_else, while, sequence, emit, local, watching, when, parallel}

-- what a field is for
pub data Role : Type 0 where
  nothing name expression part : Role

-- what the fields of a node hold: a name, with its level, or an expression in field a; an expression or the second part in
-- field b; the first part
pub record Fields : Type 0 where
  pub a : ℕ
  pub level : ℕ
  pub tested : Exp
  pub stored : Exp
  pub one : Proc ℕ
  pub two : Proc ℕ

pub record Row : Type 0 where
  pub a : Role
  pub b : Role
  pub first : Role
  pub makes : Fields → Proc ℕ

abbrev row : Role → Role → Role → (Fields → Proc ℕ) → Row
row a b first makes = record { a = a; b = b; first = first; makes = makes }

-- the fields a, b and the first child, and the process; a declaration carries its name's level
abbrev pub node_rows : List Row
node_rows =
    row nothing nothing nothing (λ f. nil)
    ∷ row name expression nothing (λ f. assign f.a f.stored)
    ∷ row name expression part (λ f. let_in f.a f.level f.stored f.one)
    ∷ row expression part part (λ f. if_then_else f.tested f.one f.two)
    ∷ row expression nothing part (λ f. while f.tested f.one)
    ∷ row nothing part part (λ f. sequence f.one f.two)
    ∷ row name nothing nothing (λ f. emit f.a)
    ∷ row name nothing part (λ f. local f.a f.level f.one)
    ∷ row name nothing part (λ f. watching f.a f.one)
    ∷ row name nothing part (λ f. when f.a f.one)
    ∷ row nothing part part (λ f. parallel f.one f.two)
    ∷ []

abbrev pub row_of : ℕ → Row
row_of kind = get_or node_rows kind (row nothing nothing nothing (λ f. nil))
