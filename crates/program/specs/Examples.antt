-- A program that is no file: two nodes, each emitting a signal, one after the other.
use Rattle.std.specs.Prelude.{◌≡◌, true, false, List, [], ◌∷◌, ◌++◌, replicate, ℕ, ◌-◌}
use Rattle.packing.specs.Packing.{packed_name, packed_counts, packed_fields, packed_node}
use Rattle.language.specs.Syntax.{emit, sequence}
use Rattle.program.specs.Program.{node_start, script}
use Rattle.program.specs.Forms.{forms_of}

abbrev node_of : ℕ → ℕ → ℕ → ℕ → ℕ → ℕ
node_of kind a b first size = packed_node (forms_of kind) (packed_fields a b first size) kind

abbrev pub two_signals : List ℕ
two_signals =
    packed_counts 2 0 3
    ∷ packed_name 3 1 true true
    ∷ packed_name 5 1 false false
    ∷ (replicate (node_start - 3) 0 ++ (node_of 6 0 0 0 0 ∷ node_of 6 1 0 0 0 ∷ node_of 5 0 1 0 1 ∷ []))

abbrev pub TwoSignals : Type 0
TwoSignals = script two_signals ≡ sequence (emit 0) (emit 1)
