-- `read_full`: what a read takes from the reader comes behind what stands in the room.
use Rattle.std.proofs.Common.{rules, subst}
use Rattle.std.proofs.KnownBytes.{Consumes-trans}
use Rattle.std.specs.Io.KnownBytes.{Consumes}
use Rattle.text.proofs.Filling.{filled}
use Rattle.text.proofs.input.read_full.Goals as goal

pub loop-end-preserved : goal.loop-end-preserved
loop-end-preserved g c = record {
  within = search rules;
  bytes =
      subst (Consumes _ _) (filled _ _ _ _ _ c.loop-end.invariant.within c.in_ok-n.ensures.bound.0)
      (Consumes-trans _ _ _ _ _ c.loop-end.invariant.bytes c.in_ok-n.ensures.bytes.0);
}
