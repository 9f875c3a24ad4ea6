-- `say_lines`: the lines before this one have been printed.
use Rattle.std.proofs.Common.{◌≡◌, ◌*◌, length, drop, take}
use Rattle.std.specs.Io.KnownBytes.{Appends}
use Rattle.std.specs.Slice.Iter.{chunks_exact_rest, chunks_exact_size}
use Rattle.display.specs.Shown.{words_text}
use Rattle.display.proofs.say_lines.Given as goal

abbrev pub invariant-loop-line : goal.invariant-loop-line
invariant-loop-line g l = record {
  size : chunks_exact_size l.line-iterator ≡ 4;
  rest : chunks_exact_rest l.line-iterator ≡ drop (4 * length l.yielded) (take l.n l.log);
  printed : Appends (g.W.Write.contents l.initial.out) (g.W.Write.contents l.out) (words_text l.log (4 * length l.yielded));
}
