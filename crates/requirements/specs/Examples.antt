-- Script files by example: a file, and the flows that its script needs.
use Rattle.std.specs.Prelude.{Bool, true, false, ◌&&◌, List, [], ◌∷◌, ◌++◌, ℕ, ◌-◌, eqb, length, replicate}
use Rattle.book.specs.LevelBook.{most_levels}
use Rattle.layout.specs.Entries.{session}
use Rattle.layout.specs.Files.{name, part, file}
use Rattle.language.specs.Kinds as kind
use Rattle.requirements.specs.Flows.{flows_of}

abbrev register : ℕ → List ℕ
register level = name 0 level session

abbrev signal : ℕ → List ℕ
signal level = name 1 level session

-- expressions: 0; the value of register 0
abbrev zero : List ℕ
zero = part 0 0 0 0

abbrev value : List ℕ
value = part 1 0 0 0

abbrev nil : List ℕ
nil = part kind.nil 0 0 0

pub record Example : Type 0 where
  pub bytes : List ℕ
  pub sets : List ℕ

-- a script with these names, expressions and nodes; the sets of the first levels, those of the others being empty
abbrev given : List (List ℕ) → List (List ℕ) → List (List ℕ) → List ℕ → Example
given names expressions nodes sets =
    record { bytes = file names expressions nodes; sets = sets ++ replicate (most_levels - length sets) 0 }

-- the number after a name is its level
abbrev pub files : List Example
files =
    given [] [] (nil ∷ []) []
    -- y1 := x0; y0 := x1; y1 := x1
    ∷ given (register 0 ∷ register 1 ∷ []) (value ∷ []) (part kind.assign 1 0 0 ∷ []) (2 ∷ [])
    ∷ given (register 1 ∷ register 0 ∷ []) (value ∷ []) (part kind.assign 1 0 0 ∷ []) (0 ∷ 1 ∷ [])
    ∷ given (register 1 ∷ register 1 ∷ []) (value ∷ []) (part kind.assign 1 0 0 ∷ []) []
    -- if x1 then y0 := 0 else z2 := 0
    ∷ given (register 1 ∷ register 0 ∷ register 2 ∷ []) (zero ∷ zero ∷ value ∷ [])
    (part kind.assign 1 0 0 ∷ part kind.assign 2 1 0 ∷ part kind.if_then_else 2 0 1 ∷ [])
    (0 ∷ 5 ∷ [])
    -- (when a2 do nil); emit b0, and the other way round
    ∷ given (signal 2 ∷ signal 0 ∷ []) []
    (nil ∷ part kind.when 0 0 0 ∷ part kind.emit 1 0 0 ∷ part kind.sequence 1 2 0 ∷ [])
    (0 ∷ 0 ∷ 1 ∷ [])
    ∷ given (signal 2 ∷ signal 0 ∷ []) []
    (nil ∷ part kind.when 0 0 0 ∷ part kind.emit 1 0 0 ∷ part kind.sequence 2 1 0 ∷ [])
    []
    -- while x1 do (when a2 do emit b0)
    ∷ given (register 1 ∷ signal 2 ∷ signal 0 ∷ []) (value ∷ [])
    (part kind.emit 2 0 0 ∷ part kind.when 1 0 0 ∷ part kind.while 0 1 0 ∷ [])
    (0 ∷ 1 ∷ 1 ∷ [])
    -- while x0 do (emit b1; (when a2 do nil)): what the body tests flows to what it writes, too
    ∷ given (register 0 ∷ signal 2 ∷ signal 1 ∷ []) (value ∷ [])
    (nil ∷ part kind.when 1 0 0 ∷ part kind.emit 2 0 0 ∷ part kind.sequence 2 1 0 ∷ part kind.while 0 3 0 ∷ [])
    (2 ∷ 0 ∷ 2 ∷ [])
    -- (y0 := 0) parallel (if x1 then nil else nil)
    ∷ given (register 1 ∷ register 0 ∷ []) (zero ∷ value ∷ [])
    (part kind.assign 1 0 0 ∷ nil ∷ nil ∷ part kind.if_then_else 1 1 2 ∷ part kind.parallel 0 3 0 ∷ [])
    (0 ∷ 1 ∷ [])
    -- do (emit b0) watching a1
    ∷ given (signal 1 ∷ signal 0 ∷ []) [] (part kind.emit 1 0 0 ∷ part kind.watching 0 0 0 ∷ []) (0 ∷ 1 ∷ [])
    -- let z3 = x1 in y0 := z3
    ∷ given (register 1 ∷ register 0 ∷ name 0 3 1 ∷ []) (value ∷ part 1 2 0 0 ∷ [])
    (part kind.assign 1 1 0 ∷ part kind.let_in 2 0 0 ∷ [])
    (0 ∷ 8 ∷ 0 ∷ 1 ∷ [])
    -- local a15 in (when a15 do emit b0)
    ∷ given (name 1 15 2 ∷ signal 0 ∷ []) []
    (part kind.emit 1 0 0 ∷ part kind.when 0 0 0 ∷ part kind.local 0 1 0 ∷ [])
    (replicate 15 0 ++ (1 ∷ []))
    ∷ []

abbrev same : List ℕ → List ℕ → Bool
same [] [] = true
same [] (y ∷ ys) = false
same (x ∷ xs) [] = false
same (x ∷ xs) (y ∷ ys) = eqb x y && same xs ys

abbrev pub all_come_out : List Example → Bool
all_come_out [] = true
all_come_out (e ∷ es) = same (flows_of e.bytes) e.sets && all_come_out es
