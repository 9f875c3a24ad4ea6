-- `read`: the bytes before index `end` are stored, and the others are those of `rest`.
use Rattle.std.proofs.Common.{◌≡◌, ◌+◌, length}
use Rattle.std.proofs.lemmas.List.Edits.{sets}
use Rattle.text.specs.Hex.{bytes_of, digits}
use Rattle.text.proofs.hex.read.Given as goal

abbrev pub invariant-loop-end : goal.invariant-loop-end
invariant-loop-end l = record {
  count : l.end + length (bytes_of (digits l.rest)) ≡ l.at + length (bytes_of (digits l.line));
  stored : sets l.out l.end (bytes_of (digits l.rest)) ≡ sets l.initial.out l.at (bytes_of (digits l.line));
}
