-- A run asks only about names that have a value: which are signals, which the session's, and of those that the script
-- writes, which are seen.
use mathlib.Core.Path.{◌≡◌, refl, ap, ◌∙◌}
use mathlib.Core.Bool.{Bool, cond}
use mathlib.Core.List.{List, [], ◌∷◌}
use Prim.Native.Nat.{ℕ, zero, suc, ◌<◌}
use native.Mathlib.Omega.{arith}
use lib.IntN.{ℤ}
use lib.ListN.{length, length-set}
use Rattle.prelude.proofs.Bools.{by_cases}
use Rattle.prelude.proofs.Tables.{table_same}
use Rattle.language.specs.Syntax.{Names, Proc, nil, assign, let_in, if_then_else, while, sequence, emit, local, watching, when, parallel, is_nil}
use Rattle.language.specs.Steps.{Output, silent, assigned, emitted, StepResult, leaves, suspended, change, move, Inputs, instant_start, step}
use Rattle.language.specs.Calls.{System, Stop, called_at, called_for, given_back, returned, output, next, behind, reach, run}
use Rattle.language.proofs.Stores.{instant_length}
use Rattle.language.proofs.Safe.{Uses, step_uses}
use Rattle.language.proofs.Stopping.{both_stay, both_go}

-- P of every name that is assigned or emitted
abbrev pub WritesOnly : {L : Type 0} → (ℕ → Type 0) → Proc L → Type 0
WritesOnly P = Uses (λ x. Unit {0}) P (λ x. Unit {0})

-- P of the name that an output shows
abbrev Shows : (ℕ → Type 0) → Output → Type 0
Shows P silent = Unit {0}
Shows P (assigned x v) = P x
Shows P (emitted a) = P a

module _ {L : Type 0} (P : ℕ → Type 0) where
  -- an outcome with n values that shows only such names
  abbrev Keeps : ℕ → StepResult L → Type 0
  Keeps n r = (length r.values ≡ n) × Shows P r.output

  move_keeps : (p : Proc L) (s : List ℤ) → WritesOnly P p → Keeps (length s) (move p s)
  unfolding move
  move_keeps nil s h = (refl, tt)
  move_keeps (assign x e) s h = (length-set s x _, h)
  move_keeps (let_in x δ e p) s h = (length-set s x _, tt)
  move_keeps (if_then_else e p q) s h = (refl, tt)
  move_keeps (while e p) s h = (refl, tt)
  move_keeps (sequence p q) s h = by_cases (Keeps (length s)) (is_nil p) (λ _. (refl, tt)) (λ _. move_keeps p s h.0)
  move_keeps (emit a) s h = (length-set s a _, h)
  move_keeps (local a δ p) s h = (length-set s a _, tt)
  move_keeps (watching a p) s h = by_cases (Keeps (length s)) (is_nil p) (λ _. (refl, tt)) (λ _. move_keeps p s h.1)
  move_keeps (when a p) s h = by_cases (Keeps (length s)) (is_nil p) (λ _. (refl, tt)) (λ _. move_keeps p s h.1)
  move_keeps (parallel p q) s h =
      by_cases (Keeps (length s)) (is_nil p) (λ _. (refl, tt))
      (λ _. by_cases (Keeps (length s)) (suspended p s) (λ _. (refl, tt)) (λ _. move_keeps p s h.0))

  step_keeps :
      (names : Names L) (listed : ℕ → Bool) (p : Proc L) (s : List ℤ) → WritesOnly P p →
      Keeps (length s) (step names listed p s)
  unfolding step
  step_keeps names listed p s h =
      by_cases (Keeps (length s)) (suspended p s) (λ _. (instant_length names listed s, tt)) (λ _. move_keeps p s h)

-- Names and readers that agree on the first n names.
module _ {L : Type 0} (names names' : Names L) (inputs : Inputs) (seen seen' : ℕ → Bool) (n : ℕ)
    (signals : (x : ℕ) → x < n → names.is_signal x ≡ names'.is_signal x)
    (sessions : (x : ℕ) → x < n → names.is_session x ≡ names'.is_session x)
    (sights : (x : ℕ) → x < n → seen x ≡ seen' x) where
  back_same : (s : List ℤ) → length s ≡ n → given_back names s ≡ given_back names' s
  unfolding given_back
  back_same s e = table_same _ _ (length s) (λ x l. rw (sessions x (omega (arith, e, l))))

  step_same :
      (listed : ℕ → Bool) (p : Proc L) (s : List ℤ) → length s ≡ n → step names listed p s ≡ step names' listed p s
  unfolding step instant_start
  step_same listed p s e =
      ap (λ z. cond (suspended p s) (leaves (change p s) z) (move p s))
      (table_same _ _ (length s) (λ x l. rw (signals x (omega (arith, e, l)))))

  called_same : (at : System L) (o : Output) → Shows (λ x. x < n) o → called_for seen at o ≡ called_for seen' at o
  unfolding called_at
  called_same at silent h = refl
  called_same at (assigned x v) h = rw (sights x h)
  called_same at (emitted a) h = rw (sights a h)

  -- the same stop, with n values
  record Same (r r' : Stop L) : Type 0 where
    same : r ≡ r'
    long : length r.at.values ≡ n

  runs_same :
      (k room : ℕ) (at : System L) → length at.values ≡ n → WritesOnly (λ x. x < n) at.process →
      Same (reach names inputs seen k room at) (reach names' inputs seen' k room at)
  runs_same zero room at e w =
      both_stay names names' inputs inputs seen seen' Same at at refl (λ _. record { same = refl; long = e }) room
  runs_same (suc k) room at e w =
      let listed = inputs (suc at.instants) in
      let h = step_keeps (λ x. x < n) names listed at.process at.values w in
      let q = step_same listed at.process at.values e in
      both_go names names' inputs inputs seen seen' Same at at refl (λ _. record { same = refl; long = e })
      (called_same at (output names inputs at) h.1 ∙ ap (λ (r : StepResult L). called_for seen' at r.output) q)
      (λ l r r' _ u. record { same = ap (behind (l ∷ [])) u.same; long = u.long })
      k k room
      (λ left.
      let u = runs_same k left (next names inputs at) (h.0 ∙ e) (step_uses _ _ _ names listed at.process at.values w) in
      record {
        same =
            u.same
            ∙ ap
            (λ (r : StepResult L).
            reach names' inputs seen' k left
            (record {
              process = r.process;
              values = r.values;
              steps = suc at.steps;
              instants = cond (suspended at.process at.values) (suc at.instants) at.instants;
            }))
            q;
        long = u.long;
      })

  -- a run asks only about these names
  module _ (k room : ℕ) (at : System L) (e : length at.values ≡ n) (w : WritesOnly (λ x. x < n) at.process) where
    pub reach_alike : reach names inputs seen k room at ≡ reach names' inputs seen' k room at
    reach_alike = (runs_same k room at e w).same

    pub run_alike : run names inputs seen k room at ≡ run names' inputs seen' k room at
    run_alike =
        let r = reach names inputs seen k room at in
        (λ i.
        record {
          ending = r.ending;
          steps = r.at.steps;
          instants = r.at.instants;
          lines = r.lines;
          values = back_same r.at.values (runs_same k room at e w).long i;
        })
        ∙ ap (returned names') reach_alike
