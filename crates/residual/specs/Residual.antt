-- What is left of a running process, as one byte for each of its nodes, in pre-order: the node's own byte, then those of
-- its first part, then those of its second.
use Rattle.std.specs.Prelude.{List, [], ◌∷◌, ℕ, suc, get_or, take, drop}
use Rattle.language.specs.Syntax.{Proc, nil, assign, let_in, if_then_else, while, sequence, emit, local, watching, when, parallel}
use Rattle.language.specs.NodeCounts.{size}

-- a node's own byte
abbrev pub own : List ℕ → ℕ
own st = get_or st 0 0

module _ {L : Type 0} where
  -- the bytes of the first part p, and those of the part after it
  abbrev pub first_of : Proc L → List ℕ → List ℕ
  first_of p st = take (size p) (drop 1 st)

  abbrev pub second_of : Proc L → List ℕ → List ℕ
  second_of p st = drop (suc (size p)) st

  -- the form that the own byte chooses; past the forms of its kind a node is nil
  abbrev pub chosen : List ℕ → List (Proc L) → Proc L
  chosen st forms = get_or forms (own st) nil

  -- The forms of each kind. 0 is the process as it is written, around what is left of its parts.
  unfoldable pub residual : Proc L → List ℕ → Proc L
  residual nil st = nil
  residual (assign x e) st = chosen st (assign x e ∷ [])
  residual (let_in x δ e p) st =
      let a : Proc L = residual p (first_of p st) in
      chosen st (let_in x δ e a ∷ a ∷ [])
  residual (if_then_else e p q) st =
      let a : Proc L = residual p (first_of p st) in
      let b : Proc L = residual q (second_of p st) in
      chosen st (if_then_else e a b ∷ a ∷ b ∷ [])
  -- a loop's next round begins with its body as it is written
  residual (while e p) st =
      let a : Proc L = residual p (first_of p st) in
      chosen st (while e p ∷ sequence a (while e p) ∷ [])
  residual (sequence p q) st =
      let a : Proc L = residual p (first_of p st) in
      let b : Proc L = residual q (second_of p st) in
      chosen st (sequence a b ∷ b ∷ [])
  residual (emit a) st = chosen st (emit a ∷ [])
  residual (local x δ p) st =
      let a : Proc L = residual p (first_of p st) in
      chosen st (local x δ a ∷ a ∷ [])
  residual (watching x p) st = chosen st (watching x (residual p (first_of p st)) ∷ [])
  residual (when x p) st = chosen st (when x (residual p (first_of p st)) ∷ [])
  residual (parallel p q) st =
      let a : Proc L = residual p (first_of p st) in
      let b : Proc L = residual q (second_of p st) in
      chosen st (parallel a b ∷ parallel b a ∷ a ∷ b ∷ [])
