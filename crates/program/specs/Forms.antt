-- The forms of each kind of node, in the order of residual/specs/Residual.antt: what is in front, and what stands around it.
use Rattle.std.specs.Prelude.{Bool, cond, ◌||◌, List, [], ◌∷◌, ℕ, ◌+◌, ◌-◌, ◌*◌, eqb, leb, get_or, take, drop}
use Rattle.packing.specs.Packing.{size_in}
use Rattle.program.specs.declared.forms.Front.{Front}
use Rattle.program.specs.Program.{node_word, kind_at, first_at, second_at}

-- nil
abbrev pub nothing : ℕ
nothing = 0

-- the node's own move is next: assign, let, if, while, emit, local
abbrev pub itself : ℕ
itself = 1

-- the first part alone, or the second
abbrev pub first : ℕ
first = 2

abbrev pub second : ℕ
second = 3

-- the first part, and after it something else
abbrev pub before : ℕ
before = 4

-- the first part, watching a signal, or under a when
abbrev pub watched : ℕ
watched = 5

abbrev pub guarded : ℕ
guarded = 6

-- the first part in parallel with the second, or the other way round
abbrev pub beside : ℕ
beside = 7

abbrev pub turned : ℕ
turned = 8

-- a node's own byte when it is over: past the forms of every kind, so that it is nil
abbrev pub over : ℕ
over = 4

abbrev pub form_rows : List (List ℕ)
form_rows =
    []
    ∷ (itself ∷ [])
    ∷ (itself ∷ first ∷ [])
    ∷ (itself ∷ first ∷ second ∷ [])
    ∷ (itself ∷ before ∷ [])
    ∷ (before ∷ second ∷ [])
    ∷ (itself ∷ [])
    ∷ (itself ∷ first ∷ [])
    ∷ (watched ∷ [])
    ∷ (guarded ∷ [])
    ∷ (beside ∷ turned ∷ first ∷ second ∷ [])
    ∷ []

-- the form of a node of this kind with this byte of its own
abbrev pub form_of : ℕ → ℕ → ℕ
form_of kind tag = get_or (get_or form_rows kind []) tag nothing

-- the second part is in front
abbrev pub from_second : ℕ → Bool
from_second form = eqb form second || eqb form turned

module _ (words : List ℕ) (k : ℕ) where
  -- The first part of node k in front, or the second, with this form: its node, and where its bytes stand among those of
  -- node k, of which there are so many.
  abbrev pub first_front : ℕ → Front
  first_front form =
      record { form = form; child = first_at words k; from = 1; to = 1 + size_in (node_word words k) }

  abbrev pub second_front : ℕ → ℕ → Front
  second_front form len =
      record { form = form; child = second_at words k; from = 1 + size_in (node_word words k); to = len }

  -- The part in front, by the node's own byte. Where no part is in front it is of no meaning, and 0.
  unfoldable pub front_of : ℕ → ℕ → Front
  front_of tag len =
      let form : ℕ = form_of (kind_at words k) tag in
      cond (leb form itself) (record { form = form; child = 0; from = 0; to = 0 })
      (cond (from_second form) (second_front form len) (first_front form))

  -- the other part of a parallel whose part in front has this form
  unfoldable pub rear_of : ℕ → ℕ → Front
  rear_of form len = cond (eqb form beside) (second_front turned len) (first_front beside)

-- the bytes of the part in front
abbrev pub part_in : Front → List ℕ → List ℕ
part_in f st = take (f.to - f.from) (drop f.from st)

-- the forms of a kind, as they stand in a word
abbrev pub forms_of : ℕ → ℕ
forms_of kind = form_of kind 0 + 16 * form_of kind 1 + 256 * form_of kind 2 + 4096 * form_of kind 3
