-- `read`: the room is full, and nothing is stored behind it.
use mathlib.Core.Path.{sym, ◌∙◌}
use Rattle.std.proofs.Common.{arith}
use Rattle.std.proofs.lemmas.Grind.{common_steps}
use Rattle.text.specs.Hex.{bytes_of, digits}
use Rattle.text.proofs.Digits.{sets_past}
use Rattle.text.proofs.hex.read.Goals as goal

pub returns : goal.returns
returns c =
    let inv = c.loop-end.invariant in
    record {
      within = omega arith;
      end = grind (arith, common_steps);
      written = sym (sets_past (bytes_of (digits c.loop-end.rest.now)) c.loop-end.out c.loop-end.end (omega arith)) ∙ inv.stored;
    }
