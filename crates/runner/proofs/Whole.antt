-- A whole run: where it comes to, from where it began and from where it has come to.
use mathlib.Core.Path.{◌≡◌, refl, sym, ap, ◌∙◌, subst}
use mathlib.Core.Bool.{true}
use mathlib.Core.List.{List}
use Prim.Native.Nat.{ℕ, zero, suc, ◌+◌, ◌/◌, ◌<◌}
use native.Mathlib.Nat.{add-zero}
use native.Mathlib.Omega.{arith}
use lib.IntN.{ℤ}
use lib.ListN.{length}
use Rattle.language.specs.Steps.{suspended}
use Rattle.program.specs.Program.{names_of, seen_by}
use Rattle.inputs.specs.Lists.{listed}
use Rattle.inputs.specs.Promises.{Cursor}
use Rattle.inputs.proofs.Lists.{listed_none}
use Rattle.moves.specs.declared.counts.Counts.{Counts}
use Rattle.moves.specs.declared.counts.Reason.{Reason}
use Rattle.moves.specs.declared.counts.Reason.TheVariants.{Nil, Suspended, Spent, Full}
use Rattle.moves.specs.declared.counts.Rested.{Rested}
use Rattle.moves.specs.Moves.{Running, changed, Stops, Ends}
use Rattle.moves.specs.Promises.{after_changes}
use Rattle.moves.proofs.Framing.{waits_some}
use Rattle.moves.proofs.Advancing.{counted_on, can_on}
use Rattle.runner.specs.declared.Ran.{Ran}
use Rattle.runner.specs.Outcome.{Outcome, stopped}
use Rattle.runner.specs.Promises.{root, script_at, CanRun, InstantMade, ending_by, meant, outcome_of, Idles, Runs}
use Rattle.runner.proofs.Idling.{idle_stays, values_stay, outcome_idle}
use Rattle.runner.proofs.Outcomes.{outcome_moves, outcome_finished, outcome_spent, outcome_full, outcome_changes}

module _ (words list : List ℕ) (limit : ℕ) (begun : Running ℕ) where
  abbrev room : ℕ
  room = length begun.log / 4

  -- a run that has come to these bytes, values, log and counts comes to the same as from where it began
  pub record Comes (st : List ℕ) (values : List ℤ) (log : List ℕ) (at : Counts) : Type 0 where
    pub same : outcome_of words list limit room (script_at words st values log at) ≡ outcome_of words list limit room begun
    pub can : CanRun words st values log limit at
    pub logged : length log ≡ length begun.log

  module _ {st : List ℕ} {values : List ℤ} {log : List ℕ} {at : Counts} (u : Comes st values log at) where
    -- after the moves of an instant
    module _ (st' : List ℕ) (values' : List ℤ) (log' : List ℕ) (r : Rested)
        (i : InstantMade words limit st values log at st' values' log' r) where
      here : Stops (seen_by words) limit room (script_at words st values log at) (script_at words st' values' log' r.at) r.why
      here =
          subst
          (λ n.
          Stops (seen_by words) limit (n / 4) (script_at words st values log at) (script_at words st' values' log' r.at) r.why)
          u.logged
          i

      pub comes_on :
          length st' ≡ length st → length values' ≡ length values → length log' ≡ length log →
          Comes st' values' log' r.at
      comes_on b v l =
          record {
            same = outcome_moves (names_of words) (listed list) here.path ∙ u.same;
            can = can_on u.can b v (counted_on i.path u.can.counted refl l);
            logged = l ∙ u.logged;
          }

      pub ends_so : Ends (seen_by words) limit room (script_at words st' values' log' r.at) r.why
      ends_so = here.ends

    -- after an instant change
    pub comes_changed :
        {st' : List ℕ} {values' : List ℤ} {at' : Counts} →
        suspended (script_at words st values log at).process values ≡ true → at.steps < limit →
        length st' ≡ length st → length values' ≡ length values →
        script_at words st' values' log at' ≡ changed (names_of words) (listed list) (script_at words st values log at) →
        Comes st' values' log at'
    comes_changed w l b v e =
        let steps = ap (λ (x : Running ℕ). x.steps) e in
        let instants = ap (λ (x : Running ℕ). x.instants) e in
        let lines = ap (λ (x : Running ℕ). x.lines) e in
        let c = u.can in
        record {
          same =
              ap (outcome_of words list limit room) e
              ∙ outcome_changes (names_of words) (listed list) (seen_by words) limit room (script_at words st values log at) w l
              ∙ u.same;
          can =
              can_on c b v
              (record {
                time = omega (arith, steps, l);
                most = c.counted.most;
                instants = omega (arith, steps, instants, c.counted.instants);
                space = omega (arith, lines, c.counted.space);
              });
          logged = u.logged;
        }

    -- suspended, for n instants in which nothing changes
    module _ (w : suspended (script_at words st values log at).process values ≡ true) (c : ℕ)
        (here : Cursor list at.instants c) where
      idle_same :
          (n : ℕ) → Idles words values list c limit at n →
          outcome_of words list limit room (script_at words st values log (after_changes at n))
          ≡ outcome_of words list limit room (script_at words st values log at)
      idle_same zero i = rw (add-zero at.steps, add-zero at.instants)
      idle_same (suc n) i =
          let none = i.absent (omega arith) in
          let can = u.can in
          outcome_idle (names_of words) (listed list) (seen_by words) limit room log at w
          (idle_stays (names_of words) values none words can.valued.runnable (λ x. refl) (root words) can.node.known st)
          (suc n)
          (λ k l.
          values_stay (names_of words) values none (listed list (suc (at.instants + k)))
          (listed_none list at.instants (suc (at.instants + k)) (at.instants + suc n) c here i.cursor
          (omega arith) (omega arith)))
          i.time

      pub comes_idle : (n : ℕ) → Idles words values list c limit at n → Comes st values log (after_changes at n)
      comes_idle n i =
          let can = u.can in
          record {
            same = idle_same n i ∙ u.same;
            can =
                can_on can refl refl
                (record {
                  time = i.time;
                  most = can.counted.most;
                  instants = omega (arith, can.counted.instants);
                  space = can.counted.space;
                });
            logged = u.logged;
          }

    -- where it stops
    pub stops_there :
        (why : Reason) → Ends (seen_by words) limit room (script_at words st values log at) why →
        (why ≡ Suspended → at.steps ≡ limit) →
        outcome_of words list limit room begun ≡ stopped (ending_by why) (script_at words st values log at)
    stops_there why e w = sym u.same ∙ here why e w
      where
        script : Running ℕ
        script = script_at words st values log at

        here :
            (why : Reason) → Ends (seen_by words) limit room script why → (why ≡ Suspended → at.steps ≡ limit) →
            outcome_of words list limit room script ≡ stopped (ending_by why) script
        here Nil e w = outcome_finished (names_of words) (listed list) (seen_by words) limit room script e
        here Suspended e w =
            outcome_spent (names_of words) (listed list) (seen_by words) limit room script (waits_some script.process values e)
            (w refl)
        here Spent e w =
            outcome_spent (names_of words) (listed list) (seen_by words) limit room script e.live.some e.time
        here Full e w =
            outcome_full (names_of words) (listed list) (seen_by words) limit room script e.live e.time e.space

-- what the run returns and leaves
pub runs_to :
    {words list st st₀ : List ℕ} {values values₀ : List ℤ} {log log₀ : List ℕ} {at₀ at : Counts} {limit : ℕ}
    (u : Comes words list limit (script_at words st₀ values₀ log₀ at₀) st values log at) (why : Reason) →
    Ends (seen_by words) limit (length log₀ / 4) (script_at words st values log at) why →
    (why ≡ Suspended → at.steps ≡ limit) → {r : Ran} → meant r.ending ≡ ending_by why → r.at ≡ at →
    Runs words list limit st₀ values₀ log₀ at₀ st values log r
runs_to {words} {list} {st} {values = values} {log = log} {at = at} {limit = limit} u why e w {r} n a =
    let o = stops_there words list limit _ u why e w in
    rw a
    (record {
      ending = n ∙ ap (λ (z : Outcome ℕ). z.ending) (sym o);
      left = ap (λ (z : Outcome ℕ). z.at) (sym o);
      again = u.can;
    })
