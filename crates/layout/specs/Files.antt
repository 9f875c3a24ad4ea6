-- Script files written out by their entries: for the examples.
use Rattle.std.specs.Prelude.{List, [], ◌∷◌, ◌++◌, ℕ, ◌+◌, ◌/◌, ◌%◌, length}
use Rattle.layout.specs.Entries.{session}

abbrev pub two : ℕ → List ℕ
two n = n / 256 ∷ n % 256 ∷ []

-- an entry: a name; an expression or a node
abbrev pub name : ℕ → ℕ → ℕ → List ℕ
name kind level owner = kind ∷ level ∷ two owner

abbrev pub part : ℕ → ℕ → ℕ → ℕ → List ℕ
part kind a b c = kind ∷ 0 ∷ two a ++ (two b ++ two c)

abbrev pub all : List (List ℕ) → List ℕ
all [] = []
all (x ∷ xs) = x ++ all xs

abbrev pub tail : ℕ → ℕ → ℕ → List ℕ
tail expressions nodes end = two expressions ++ (two nodes ++ (two end ++ (83 ∷ 84 ∷ [])))

-- a file with a right tail
abbrev pub file : List (List ℕ) → List (List ℕ) → List (List ℕ) → List ℕ
file names expressions nodes =
    let a : ℕ = length (all names) in
    let b : ℕ = a + length (all expressions) in
    all names ++ (all expressions ++ (all nodes ++ tail a b (b + length (all nodes))))

-- a file with an entry of every kind
abbrev pub every : List ℕ
every =
    file
    (name 0 0 session ∷ name 1 0 session ∷ name 0 1 13 ∷ name 1 0 9 ∷ [])
    (part 0 0 65535 65535
    ∷ part 1 0 0 0
    ∷ part 2 0 1 0
    ∷ part 0 0 0 2
    ∷ part 3 2 3 0
    ∷ part 1 2 0 0
    ∷ part 0 0 0 3
    ∷ part 4 5 6 0
    ∷ part 1 2 0 0
    ∷ part 8 8 0 0
    ∷ part 1 2 0 0
    ∷ part 0 0 0 4
    ∷ part 5 10 11 0
    ∷ part 1 2 0 0
    ∷ part 0 0 0 5
    ∷ part 6 13 14 0
    ∷ part 1 2 0 0
    ∷ part 0 0 0 6
    ∷ part 7 16 17 0
    ∷ [])
    (part 1 0 12 0
    ∷ part 4 9 0 0
    ∷ part 1 0 15 0
    ∷ part 3 7 1 2
    ∷ part 6 3 0 0
    ∷ part 0 0 0 0
    ∷ part 9 3 5 0
    ∷ part 8 1 6 0
    ∷ part 5 4 7 0
    ∷ part 7 3 8 0
    ∷ part 10 3 9 0
    ∷ part 1 0 18 0
    ∷ part 5 10 11 0
    ∷ part 2 2 4 12
    ∷ [])
