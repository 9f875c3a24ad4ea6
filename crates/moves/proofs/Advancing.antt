-- Moves that a node has made, from one system to another.
use mathlib.Core.Path.{◌≡◌, refl, ap, ◌∙◌, subst}
use mathlib.Core.Bool.{Bool, true, false}
use mathlib.Core.Option.{Option, none, some}
use mathlib.Core.List.{List}
use Prim.Native.Nat.{ℕ, suc, ◌/◌, ◌≤◌, ◌<◌}
use native.Mathlib.Nat.{le_refl}
use native.Mathlib.Omega.{arith}
use lib.IntN.{ℤ}
use lib.ListN.{length, set}
use borrow.Author.Tests.{ltb-true}
use Rattle.language.specs.Syntax.{Proc, nil, is_nil}
use Rattle.language.specs.Calls.{Line, line_if}
use Rattle.moves.specs.declared.counts.Counts.{Counts}
use Rattle.moves.specs.declared.counts.Reason.TheVariants.{Nil}
use Rattle.moves.specs.declared.counts.Moved.{Moved}
use Rattle.moves.specs.declared.counts.Moved.TheVariants.{Again, Rests}
use Rattle.moves.specs.Moves.{Running, log_after, lines_after, has_room, next_line, moved, Silent, MovePath, stays, moves, Goes, Stops, Comes, IsFull}
use Rattle.moves.specs.Promises.{Counted, CanMove, needs_line, Writes, running_with}
use Rattle.moves.proofs.Framing.{joined, silently, silent_move}

lines_fit : (room : ℕ) (l : Option Line) (n : ℕ) → n ≤ room → has_room room l n ≡ true → lines_after l n ≤ room
lines_fit room none n h e = h
lines_fit room (some l) n h e = ltb-true n room e

-- what moves do to the counts
module _ {seen : ℕ → Bool} {limit room : ℕ} where
  pub path_later : {at to : Running ℕ} → MovePath seen limit room at to → at.steps ≤ to.steps
  unfolding moved
  path_later {at} stays = le_refl at.steps
  path_later (moves r p) = omega (arith, path_later p)

  pub path_time : {at to : Running ℕ} → MovePath seen limit room at to → at.steps ≤ limit → to.steps ≤ limit
  unfolding moved
  path_time stays h = h
  path_time (moves r p) h = path_time p r.time

  path_space : {at to : Running ℕ} → MovePath seen limit room at to → at.lines ≤ room → to.lines ≤ room
  unfolding moved
  path_space stays h = h
  path_space {at} (moves r p) h = path_space p (lines_fit room (next_line seen at) at.lines h r.space)

  pub path_instants : {at to : Running ℕ} → MovePath seen limit room at to → to.instants ≡ at.instants
  unfolding moved
  path_instants stays = refl
  path_instants (moves r p) = path_instants p

-- what is counted stays within the limits
pub counted_on :
    {seen : ℕ → Bool} {limit n : ℕ} {p p' : Proc ℕ} {vs vs' : List ℤ} {log log' : List ℕ} {c d : Counts} →
    MovePath seen limit (n / 4) (running_with p vs log c) (running_with p' vs' log' d) → Counted limit log c →
    length log ≡ n → length log' ≡ length log → Counted limit log' d
counted_on path c e l =
    record {
      time = path_time path c.time;
      most = c.most;
      instants = omega (arith, path_instants path, c.instants, path_later path);
      space = omega (arith, path_space path (omega (arith, c.space, e)), e, l);
    }

-- a function of the run may be called again, with as many bytes and values
pub can_on :
    {words st st' log log' : List ℕ} {k limit : ℕ} {vs vs' : List ℤ} {c d : Counts} → CanMove words k st vs log limit c →
    length st' ≡ length st → length vs' ≡ length vs → Counted limit log' d → CanMove words k st' vs' log' limit d
can_on c b v d =
    record {
      valued = record { runnable = c.valued.runnable; named = v ∙ c.valued.named };
      node = record { known = c.node.known; whole = b ∙ c.node.whole };
      counted = d;
    }

module _ {seen : ℕ → Bool} {limit room : ℕ} where
  -- moves, and then what comes of them
  pub comes_on :
      {at mid : Running ℕ} (to : Counts → Running ℕ) (m : Moved) → MovePath seen limit room at mid →
      Comes seen limit room mid to m → Comes seen limit room at to m
  comes_on to (Again c) p g = record { path = joined p g.path; some = omega (arith, path_later p, g.some) }
  comes_on to (Rests why c) p g = record { path = joined p g.path; ends = g.ends }

  -- one move that calls for no line
  pub goes_silently :
      (at : Running ℕ) {p : Proc ℕ} {s : List ℤ} → at.steps < limit → Silent at.process at.values p s →
      Goes seen limit room at (silently p s at)
  goes_silently at t m = record { path = silent_move refl m t; some = omega arith }

-- an assignment or an emission
module _ (seen : ℕ → Bool) (limit room : ℕ) (at : Running ℕ) {n x : ℕ} {v : ℤ} (w : Writes n at.process at.values x v) (t : at.steps < limit) where
  abbrev line : Option Line
  line = line_if (needs_line seen n at.values x) at.steps at.instants x v

  same_room : {b : Bool} → has_room room line at.lines ≡ b → has_room room (next_line seen at) at.lines ≡ b
  same_room e = ap (λ z. has_room room z at.lines) (w.line seen at.steps at.instants) ∙ e

  -- its line has no room
  pub stops_full : has_room room line at.lines ≡ false → IsFull seen limit room at
  stops_full e = record { live = w.live; time = t; space = same_room e }

  -- its line is written
  module _ (e : has_room room line at.lines ≡ true) where
    written_path :
        MovePath seen limit room at
        (record {
          process = nil;
          values = set at.values x v;
          log = log_after line at.lines at.log;
          steps = suc at.steps;
          instants = at.instants;
          lines = lines_after line at.lines;
        })
    unfolding moved
    written_path =
        subst (MovePath seen limit room at) (rw (w.process, w.values, w.line seen at.steps at.instants))
        (moves (record { live = w.live; time = t; space = same_room e }) stays)

    pub stops_written :
        {p : Proc ℕ} {vs : List ℤ} {log : List ℕ} {c : Counts} → p ≡ nil → vs ≡ set at.values x v →
        log ≡ log_after line at.lines at.log →
        c ≡ record { steps = suc at.steps; instants = at.instants; lines = lines_after line at.lines } →
        Stops seen limit room at
        (record { process = p; values = vs; log = log; steps = c.steps; instants = c.instants; lines = c.lines }) Nil
    unfolding is_nil
    stops_written a b l d = rw (a, b, l, d) (record { path = written_path; ends = refl })
