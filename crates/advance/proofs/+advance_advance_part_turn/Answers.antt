-- `advance`, `turn` and `advance_part`: by what comes next at the node.
use mathlib.Core.Path.{refl, ◌∙◌, subst}
use mathlib.Core.List.{List}
use Prim.Native.Nat.{ℕ, ◌-◌, ◌≤◌}
use native.Mathlib.Omega.{arith}
use borrow.Rule.Slice.PartMut.{put_same}
use borrow.Author.Rules.{Fits-under}
use lib.IntN.{ℤ}
use lib.ListN.{length}
use Rattle.residual.specs.Nodes.{Valued, At}
use Rattle.residual.proofs.Sights.{part_length}
use Rattle.moves.specs.declared.counts.Moved.{Moved}
use Rattle.moves.specs.Moves.{stays}
use Rattle.moves.specs.Promises.{node_at}
use Rattle.moves.proofs.Framing.{joined}
use Rattle.moves.proofs.Advancing.{path_time}
use Rattle.advance.proofs.Places.{itself_placed, long, part_falls, part_placed, Becomes, becomes, here_on, here_inside}
use Rattle.advance.proofs.Nexts.{stands_ends, way, within, at_part, moves_next, falls_by, bytes_long, part_came, node_came}
use Rattle.advance.proofs.+advance_advance_part_turn.Goals as goal

-- a program that can run has so few nodes that sums of places fit
few_bytes : (words : List ℕ) (k : ℕ) (st : List ℕ) (values : List ℤ) → Valued words values → At words k st → length st ≤ 256
few_bytes words k st values valued node =
    let ok = valued.runnable in omega (arith, node.whole, node.known, (ok.nodes k node.known).small, ok.few_nodes)

pub advance-loop-f-init : goal.advance-loop-f-init
advance-loop-f-init t c = record { path = stays; can = c.requires; logged = refl; placed = itself_placed _ _ _ c.requires.node }

pub advance-overflow_add-end : goal.advance-overflow_add-end
advance-overflow_add-end t c =
    let u = c.loop-f.invariant in
    let p = part_placed u.placed u.can.valued c.in-Inside.ensures.alone in
    Fits-under _ _ 1024 (omega (arith, p.within, few_bytes _ _ _ _ u.can.valued u.can.node)) tt

pub advance-overflow_add-start : goal.advance-overflow_add-start
advance-overflow_add-start t c =
    let u = c.loop-f.invariant in
    let p = part_placed u.placed u.can.valued c.in-Inside.ensures.alone in
    Fits-under _ _ 1024 (omega (arith, p.order, p.within, few_bytes _ _ _ _ u.can.valued u.can.node)) tt

pub advance-loop-f-smaller-in-Inside : goal.advance-loop-f-smaller-in-Inside
advance-loop-f-smaller-in-Inside t c =
    let u = c.loop-f.invariant in omega (arith, part_falls u.placed u.can.valued c.in-Inside.ensures.alone)

pub advance-loop-f-preserved-in-Inside : goal.advance-loop-f-preserved-in-Inside
advance-loop-f-preserved-in-Inside t c =
    let u = c.loop-f in
    let same = c.in-Inside.ensures in
    rw (same.same_bytes, put_same u.start (u.end - u.start) u.state, same.same_values, same.same_log)
    (here_inside u.invariant same.alone)

pub advance-loop-f-smaller : goal.advance-loop-f-smaller
advance-loop-f-smaller t c =
    let u = c.loop-f.invariant in
    let r = c.turn-r in
    let same = r.auto.state ∙ long u.placed in
    let g =
    subst (λ (m : Moved). Becomes u r.new.state r.new.values r.new.log same m) c.in-Again.is
    (becomes u r.new.state r.new.values r.new.log same c.in-Made.m c.in-Made.ensures)
    in
    omega (arith, g.some, path_time g.path u.can.counted.time)

pub advance-loop-f-preserved : goal.advance-loop-f-preserved
advance-loop-f-preserved t c =
    let u = c.loop-f.invariant in
    let r = c.turn-r in
    let same = r.auto.state ∙ long u.placed in
    here_on u r.new.state r.new.values r.new.log same
    (subst (λ (m : Moved). Becomes u r.new.state r.new.values r.new.log same m) c.in-Again.is
    (becomes u r.new.state r.new.values r.new.log same c.in-Made.m c.in-Made.ensures))
    r.auto.values r.auto.log

pub advance-returns-in-Rests : goal.advance-returns-in-Rests
advance-returns-in-Rests t c =
    let u = c.loop-f.invariant in
    let r = c.turn-r in
    let same = r.auto.state ∙ long u.placed in
    let g =
    subst (λ (m : Moved). Becomes u r.new.state r.new.values r.new.log same m) c.in-Rests.is
    (becomes u r.new.state r.new.values r.new.log same c.in-Made.m c.in-Made.ensures)
    in
    record { path = joined u.path g.path; ends = g.ends }

pub turn-slice_bounds-part-count : goal.turn-slice_bounds-part-count
turn-slice_bounds-part-count t c =
    (within _ _ _ _ _ _ c.requires.node (way _ _ _ _ _ _ c.in-Part.ensures (record { valued = c.requires.valued; node = c.requires.node }))).0

pub turn-slice_bounds-part-start : goal.turn-slice_bounds-part-start
turn-slice_bounds-part-start t c =
    (within _ _ _ _ _ _ c.requires.node (way _ _ _ _ _ _ c.in-Part.ensures (record { valued = c.requires.valued; node = c.requires.node }))).0

pub turn-slice_bounds-part-end : goal.turn-slice_bounds-part-end
turn-slice_bounds-part-end t c =
    (within _ _ _ _ _ _ c.requires.node (way _ _ _ _ _ _ c.in-Part.ensures (record { valued = c.requires.valued; node = c.requires.node }))).1

pub turn-advance_part-r-requires : goal.turn-advance_part-r-requires
turn-advance_part-r-requires t c =
    let at = c.requires.node in
    let w = way _ _ _ _ _ _ c.in-Part.ensures (record { valued = c.requires.valued; node = at }) in (
      omega (arith, falls_by _ _ _ _ _ _ at w),
      record {
        can = record { valued = c.requires.valued; node = at_part _ _ _ _ _ _ at w; counted = c.requires.counted };
        form = moves_next _ _ _ _ _ _ at w;
      },
    )

pub turn-leave-requires : goal.turn-leave-requires
turn-leave-requires t c =
    let pre = c.requires in
    let r = c.advance_part-r in
    let w = way _ _ _ _ _ _ c.in-Part.ensures (record { valued = pre.valued; node = pre.node }) in
    let same = r.auto.state ∙ part_length c.in-Part.f c.args.state.now (within _ _ _ _ _ _ pre.node w).1 in
    record {
      node =
          record {
            valued = record { runnable = pre.valued.runnable; named = r.auto.values ∙ pre.valued.named };
            node = record { known = pre.node.known; whole = bytes_long _ _ _ _ _ _ w r.new.state same ∙ pre.node.whole };
          };
      most = pre.counted.most;
      came = part_came _ _ _ _ _ _ w r.new.state same pre.counted r.new.values r.new.log r.result r.ensures;
    }

pub turn-returns-in-Rests : goal.turn-returns-in-Rests
turn-returns-in-Rests t c =
    let a = c.args in
    record {
      path = stays;
      ends =
          stands_ends _ _ _ (node_at a.program.now a.k a.state.now a.values.now a.log.now a.at) c.in-Rests.why c.in-Rests.ensures;
    }

pub turn-returns-in-Part : goal.turn-returns-in-Part
turn-returns-in-Part t c =
    let pre = c.requires in
    let r = c.advance_part-r in
    let w = way _ _ _ _ _ _ c.in-Part.ensures (record { valued = pre.valued; node = pre.node }) in
    let same = r.auto.state ∙ part_length c.in-Part.f c.args.state.now (within _ _ _ _ _ _ pre.node w).1 in
    node_came _ _ _ _ _ _ w r.new.state same pre.counted r.new.values r.new.log r.ensures c.leave.ensures
