-- `move_own`: by the kind, if the limit is not reached.
use mathlib.Core.Path.{◌≡◌, sym, ap, ap₂, ◌∙◌, subst}
use mathlib.Core.Option.{Option}
use Prim.Native.Nat.{ℕ, ◌/◌, ◌<◌}
use native.Mathlib.Nat.{le_antisymm}
use native.Mathlib.Omega.{arith}
use mir.Syntax.{w32}
use mir.Val.{to_z, of_z}
use mir.Facts.{to_z-of_z}
use lib.ListN.{length, set}
use mathlib.Core.List.{List}
use lib.IntN.{ℤ}
use Rattle.language.specs.Calls.{Line}
use Rattle.moves.specs.declared.counts.Counts.{Counts}
use Rattle.program.specs.Program.{name_count, kind_at, process_of, seen_by}
use Rattle.residual.specs.Residual.{own}
use Rattle.residual.proofs.Residuals.{nil_at_four, some_bytes, own_set_at}
use Rattle.residual.proofs.Sights.{MovesItself, sight}
use Rattle.moves.specs.Promises.{CanMoveItself, WriterAt, needs_line, Writes, after_move, line_of, node_at}
use Rattle.moves.specs.Moves.{stays}
use Rattle.moves.proofs.Advancing.{goes_silently, stops_full, stops_written}
use Rattle.moves.proofs.OwnMoves.{is_itself, writer_is, is_silent, itself_live, name_known}
use Rattle.moves.proofs.move_own.Goals as goal
use Rattle.moves.proofs.move_own.Goals.{After-a_at-x, After-note, After-written-v, Then-is_writer}

-- the node is as its form tells
moves-itself :
    {words : List ℕ} {k : ℕ} {st : List ℕ} {values : List ℤ} {log : List ℕ} {limit : ℕ} {at : Counts} →
    CanMoveItself words k st values log limit at → (own st ≡ 0) × MovesItself (kind_at words k)
moves-itself {words} {k} {st} r = is_itself (sight words r.can.valued.runnable k r.can.node.known st r.can.node.whole) r.form

-- it is an assignment or an emission
writer-at :
    (c : Then-is_writer) →
    let a = c.args in
    WriterAt a.program.now a.k a.values.now c.kind_at-kind.result
writer-at c =
    let can = c.requires.can in
    record {
      valued = can.valued;
      known = can.node.known;
      kind = sym c.kind_at-kind.ensures;
      writer = writer_is _ (sym c.is_writer.ensures ∙ c.if-is_writer.true);
    }

pub returns-then-limit-at : goal.returns-then-limit-at
returns-then-limit-at c =
    let can = c.requires.can in
    record {
      path = stays;
      ends =
          record {
            live =
                itself_live can.valued can.node (moves-itself c.requires).0 (moves-itself c.requires).1;
            time = le_antisymm can.counted.time c.if-limit-at.true;
          };
    }

-- its name has a value
name-few : (c : After-a_at-x) → c.a_at-x.result < name_count c.args.program.now
name-few c =
    let can = c.requires.can in
    let w : WriterAt c.args.program.now c.args.k c.args.values.now c.kind_at-kind.result = record {
      valued = can.valued;
      known = can.node.known;
      kind = sym c.kind_at-kind.ensures;
      writer = writer_is _ (sym c.is_writer.ensures ∙ c.if-is_writer.true);
    } in
    omega (arith, c.a_at-x.ensures, name_known w)

-- the value, as it was given
writes :
    (c : After-written-v) →
    let a = c.args in
    Writes (kind_at a.program.now a.k) (node_at a.program.now a.k a.state.now a.values.now a.log.now a.at).process a.values.now c.a_at-x.result c.written-v.result
writes c =
    rw c.a_at-x.ensures (c.written-v.ensures c.args.state.now (some_bytes c.requires.can.node) (moves-itself c.requires).0)

pub written-v-requires : goal.written-v-requires
written-v-requires c = writer-at (goal.at.written-v-requires c).Then-is_writer

pub needs_line-needed-requires : goal.needs_line-needed-requires
needs_line-needed-requires c =
    let can = c.requires.can in
    let few = name-few (goal.at.needs_line-needed-requires c).After-a_at-x in
    (omega (arith, few, can.valued.runnable.few_names), omega (arith, few, can.valued.named))

pub note-requires : goal.note-requires
note-requires c =
    let can = c.requires.can in
    record {
      few = omega (arith, name-few (goal.at.note-requires c).After-a_at-x, can.valued.runnable.few_names);
      time = omega (arith, c.if-limit-at.false, can.counted.most);
      instants = can.counted.instants;
      space = can.counted.space;
    }

-- the line that the move calls for
abbrev line : (c : After-note) → Option Line
line c =
    let a = c.args in
    let x = c.a_at-x.result in
    line_of (needs_line (seen_by a.program.now) (kind_at a.program.now a.k) a.values.now x) a.at x c.written-v.result

-- it is the one that was noted, of the value as it was given
told :
    (c : After-note) →
    let a = c.args in
    line_of c.needs_line-needed.result a.at c.a_at-x.result (to_z w32 (of_z w32 c.written-v.result)) ≡ line c
told c =
    let a = c.args in
    ap₂ (λ b v. line_of b a.at c.a_at-x.result v)
    (subst (λ n. c.needs_line-needed.result ≡ needs_line (seen_by a.program.now) n a.values.now c.a_at-x.result) c.kind_at-kind.ensures c.needs_line-needed.ensures)
    (to_z-of_z {w = w32} (record { sfits = c.written-v.type_inv }))

pub returns-in_default : goal.returns-in_default
returns-in_default c =
    let a = c.args in
    let before = goal.at.returns-in_default c in
    let n = rw (told before.After-note) at c.in_default.ensures in
    let here = node_at a.program.now a.k a.state.now a.values.now a.log.now a.at in
    rw n.same
    (record {
      path = stays;
      ends = stops_full (seen_by a.program.now) a.limit (length a.log.now / 4) here (writes before.After-written-v) c.if-limit-at.false n.full;
    })

pub bounds-values-x : goal.bounds-values-x
bounds-values-x c = omega (arith, name-few (goal.at.bounds-values-x c).After-a_at-x, c.requires.can.valued.named)

pub bounds-state-0 : goal.bounds-state-0
bounds-state-0 c = some_bytes c.requires.can.node

pub returns-then-is_writer : goal.returns-then-is_writer
returns-then-is_writer c =
    let a = c.args in
    let before = goal.at.returns-then-is_writer c in
    let n = rw (told before.After-note) at c.in-Some.ensures in
    let here = node_at a.program.now a.k a.state.now a.values.now a.log.now a.at in
    stops_written (seen_by a.program.now) a.limit (length a.log.now / 4) here (writes before.After-written-v) c.if-limit-at.false n.fits
    (nil_at_four (process_of a.program.now a.k) _ (own_set_at a.state.now (some_bytes c.requires.can.node) 4))
    (ap (set a.values.now c.a_at-x.result) (to_z-of_z {w = w32} (record { sfits = c.written-v.type_inv })))
    n.written
    (c.after_move.ensures ∙ ap (after_move a.at) n.counted)

pub move_silently-requires : goal.move_silently-requires
move_silently-requires c =
    let can = c.requires.can in
    let itself = moves-itself c.requires in
    record {
      unmoved = record {
        valued = can.valued;
        node = can.node;
        kind = sym c.kind_at-kind.ensures;
        clear = itself.0;
      };
      silent =
          is_silent (subst MovesItself (sym c.kind_at-kind.ensures) itself.1) (sym c.is_writer.ensures ∙ c.if-is_writer.false);
    }

pub returns : goal.returns
returns c =
    let a = c.args in
    let here = node_at a.program.now a.k a.state.now a.values.now a.log.now a.at in
    rw c.after_move-2.ensures (goes_silently here c.if-limit-at.false c.move_silently.ensures)
