-- What comes of a script that runs: moves and instant changes keep it; what it is where the script stops; and the words
-- of its log.
use mathlib.Core.Path.{◌≡◌, refl, sym, ap, ap₂, ◌∙◌}
use mathlib.Core.Bool.{Bool, true, false, cond, true≢false}
use mathlib.Core.Option.{Option, none, some}
use mathlib.Core.List.{List, [], ◌∷◌, ◌++◌}
use Prim.Native.Nat.{ℕ, zero, suc, ◌+◌, ◌-◌, ◌*◌, ◌≤◌, ◌<◌}
use native.Mathlib.Nat.{add-zero}
use native.Mathlib.Omega.{arith}
use lib.ListN.{length, drop, length-append}
use lib.Seq.{sets, sets-eq}
use borrow.Author.Tests.{ltb-true, ltb-false}
use Rattle.language.specs.Syntax.{Names, is_nil}
use Rattle.language.specs.Steps.{StepResult as Left, leaves, suspended, move, change, Inputs, instant_start, step}
use Rattle.language.specs.Calls.{Line, Ending, finished, spent, log_full, Stop, called_at, called_for, halts, noted, reach, words}
use Rattle.moves.specs.Moves.{Running, system, put_line, log_after, lines_after, has_room, next_line, moved, changed, Live, MovePath, stays, moves}
use Rattle.runner.specs.Outcome.{Outcome, written, recorded, outcome, stopped}
use Rattle.moves.proofs.Framing.{waits_some}
use Rattle.language.proofs.Stopping.{reach_onward}

-- a step that calls for this line, where there is room for it, and where there is none
module _ {L : Type 0} where
  noted_on :
      (room : ℕ) (c : Option Line) (n : ℕ) (log : List ℕ) (go : ℕ → Stop L) (full : Stop L) → has_room room c n ≡ true →
      recorded (lines_after c n) (log_after c n log) (go (room - lines_after c n))
      ≡ recorded n log (noted c (room - n) go full)
  unfolding noted written
  noted_on room none n log go full h = refl
  noted_on room (some l) n log go full h =
      let k : room - n ≡ suc (room - suc n) = omega (arith, ltb-true n room h) in
      let r : Stop L = go (room - suc n) in
      let e : suc n + length r.lines ≡ n + suc (length r.lines) = omega arith in
      rw (k, e)

  noted_full :
      (room : ℕ) (c : Option Line) (n : ℕ) (go : ℕ → Stop L) (full : Stop L) → has_room room c n ≡ false →
      noted c (room - n) go full ≡ full
  unfolding noted
  noted_full room none n go full h = absurd (true≢false h)
  noted_full room (some l) n go full h =
      let k : room - n ≡ 0 = omega (arith, ltb-false n room h) in rw k

module _ {L : Type 0} (names : Names L) (inputs : Inputs) (seen : ℕ → Bool) (limit room : ℕ) (at : Running L) where
  abbrev out : Running L → Outcome L
  out to = outcome names inputs seen limit room to

  -- the run from here
  abbrev rest : Stop L
  rest = reach names inputs seen (limit - at.steps) (room - at.lines) (system at)

  stops_here : (how : Ending) → rest ≡ halts how (system at) → out at ≡ stopped how at
  unfolding outcome written
  stops_here how e = rw (e, add-zero at.lines)

  pub outcome_finished : is_nil at.process ≡ true → out at ≡ stopped finished at
  unfolding reach
  outcome_finished h = stops_here finished (nothing (limit - at.steps))
    where
      nothing : (n : ℕ) → reach names inputs seen n (room - at.lines) (system at) ≡ halts finished (system at)
      nothing zero = rw h
      nothing (suc n) = rw h

  pub outcome_spent : is_nil at.process ≡ false → at.steps ≡ limit → out at ≡ stopped spent at
  unfolding reach
  outcome_spent h e = let k : limit - at.steps ≡ 0 = omega arith in stops_here spent (rw (k, h))

  module _ (t : at.steps < limit) where
    one_more : limit - at.steps ≡ suc (limit - suc at.steps)
    one_more = omega arith

    -- the run after a step, by what the step leaves and whether it is an instant change
    abbrev after : Left L → Bool → ℕ → Stop L
    after r b left =
        reach
        names
        inputs
        seen
        (limit - suc at.steps)
        left
        (record {
          process = r.process;
          values = r.values;
          steps = suc at.steps;
          instants = cond b (suc at.instants) at.instants;
        })

    abbrev goes : Left L → Bool → Stop L
    goes r b =
        noted (called_for seen (system at) r.output) (room - at.lines) (after r b) (halts log_full (system at))

    rest_goes :
        {r : Left L} {b : Bool} → is_nil at.process ≡ false → step names (inputs (suc at.instants)) at.process at.values ≡ r →
        suspended at.process at.values ≡ b → rest ≡ goes r b
    unfolding reach
    rest_goes h e w = rw (one_more, h) (ap₂ goes e w)

    rest_moves : Live at.process at.values → rest ≡ goes (move at.process at.values) false
    unfolding step
    rest_moves l = rest_goes l.some (rw l.moving) l.moving

    rest_changes :
        suspended at.process at.values ≡ true →
        rest ≡ goes (leaves (change at.process at.values) (instant_start names (inputs (suc at.instants)) at.values)) true
    unfolding step
    rest_changes w = rest_goes (waits_some at.process at.values w) (rw w) w

  pub outcome_full :
      Live at.process at.values → at.steps < limit → has_room room (next_line seen at) at.lines ≡ false →
      out at ≡ stopped log_full at
  outcome_full l t f = stops_here log_full (rest_moves t l ∙ noted_full room (next_line seen at) at.lines _ _ f)

  pub outcome_move :
      Live at.process at.values → at.steps < limit → has_room room (next_line seen at) at.lines ≡ true →
      out (moved seen at) ≡ out at
  unfolding outcome moved
  outcome_move l t f =
      noted_on room (next_line seen at) at.lines at.log (after t (move at.process at.values) false) _ f
      ∙ ap (recorded at.lines at.log) (sym (rest_moves t l))

  pub outcome_changes :
      suspended at.process at.values ≡ true → at.steps < limit → out (changed names inputs at) ≡ out at
  unfolding outcome called_at noted
  outcome_changes w t = ap (recorded at.lines at.log) (sym (rest_changes t w))

pub outcome_moves :
    {L : Type 0} (names : Names L) (inputs : Inputs) {seen : ℕ → Bool} {limit room : ℕ} {at to : Running L} →
    MovePath seen limit room at to → outcome names inputs seen limit room to ≡ outcome names inputs seen limit room at
outcome_moves names inputs stays = refl
outcome_moves names inputs {seen = seen} {limit = limit} {room = room} {at = at} (moves r p) =
    outcome_moves names inputs p ∙ outcome_move names inputs seen limit room at r.live r.time r.space

-- lines, and then more lines
written_both :
    (ls ms : List Line) (n : ℕ) (log : List ℕ) →
    written ms (n + length ls) (written ls n log) ≡ written (ls ++ ms) n log
unfolding written
written_both [] ms n log = rw (add-zero n)
written_both (l ∷ ls) ms n log =
    let e : n + suc (length ls) ≡ suc n + length ls = omega arith in
    rw e (written_both ls ms (suc n) (put_line l n log))

-- a run goes on from wherever a shorter one stopped
pub outcome_onward :
    {L : Type 0} (names : Names L) (inputs : Inputs) (seen : ℕ → Bool) (limit limit' room : ℕ) (at : Running L) → at.steps ≤ limit →
    limit ≤ limit' →
    outcome names inputs seen limit' room at ≡ outcome names inputs seen limit' room (outcome names inputs seen limit room at).at
unfolding outcome
outcome_onward names inputs seen limit limit' room at h k =
    let r = reach names inputs seen (limit - at.steps) (room - at.lines) (system at) in
    let q = reach names inputs seen (limit' - r.at.steps) (room - at.lines - length r.lines) r.at in
    let e : at.lines + (length r.lines + length q.lines) ≡ at.lines + length r.lines + length q.lines = omega arith in
    let d : room - at.lines - length r.lines ≡ room - (at.lines + length r.lines) = omega arith in
    ap (recorded at.lines at.log)
    (reach_onward names inputs seen (limit - at.steps) limit' (room - at.lines) (system at) (omega (arith, h, k)))
    ∙ rw (← written_both r.lines q.lines at.lines at.log, length-append r.lines q.lines, e, d)

-- the stores of `written`, word by word
written_sets : (ls : List Line) (n : ℕ) (log : List ℕ) → written ls n log ≡ sets log (4 * n) (words ls)
unfolding written words
written_sets [] n log = refl
written_sets (l ∷ ls) n log =
    let e : 4 * suc n ≡ suc (suc (suc (suc (4 * n)))) = omega arith in
    let a : 4 * n + 1 ≡ suc (4 * n) = omega arith in
    let b : 4 * n + 2 ≡ suc (suc (4 * n)) = omega arith in
    let c : 4 * n + 3 ≡ suc (suc (suc (4 * n))) = omega arith in
    written_sets ls (suc n) (put_line l n log) ∙ rw (e, a, b, c)

length_words : (ls : List Line) → length (words ls) ≡ 4 * length ls
unfolding words
length_words [] = refl
length_words (l ∷ ls) = omega (arith, length_words ls)

pub written_is :
    (ls : List Line) (log : List ℕ) → 4 * length ls ≤ length log →
    written ls 0 log ≡ words ls ++ drop (4 * length ls) log
written_is ls log h =
    let e : 0 + length (words ls) ≡ 4 * length ls = omega (arith, length_words ls) in
    written_sets ls 0 log ∙ sets-eq (words ls) log 0 (omega (arith, e)) ∙ ap (λ n. words ls ++ drop n log) e
