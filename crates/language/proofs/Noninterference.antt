-- Whole runs from two systems that a reader of the low names cannot tell apart; and what a higher limit adds to a run.
use Prim.Native.Nat.{ℕ, zero, suc, ◌+◌, ◌≤◌}
use native.Mathlib.Omega.{arith}
use mathlib.Core.Path.{◌≡◌, refl, ap, sym, ◌∙◌, subst}
use mathlib.Core.Bool.{Bool, true, false, Bool-discrete}
use mathlib.Core.Logic.Dec
use mathlib.Core.Logic.{inr}
use mathlib.Core.Option.{some}
use mathlib.Core.List.{List, [], ◌∷◌}
use borrow.Author.Tests.{le-leb, lt-leb}
use Rattle.language.specs.Syntax.{Names, Proc, nil, assign, let_in, if_then_else, while, sequence, emit, local, watching, when, parallel, is_nil}
use Rattle.language.specs.Steps.{held, Inputs}
use Rattle.language.specs.Calls.{Line, Ending, finished, System, Stop, called_for, output, next, halts, reach}
use Rattle.language.specs.Results.{stamped_up_to}
use Rattle.language.proofs.Stopping.{both_stay, both_go}
use Rattle.language.proofs.Safe.{Quiet, Safe, step_safe}
use Rattle.language.proofs.Lockstep.{Twins, LowInputs, Stamped, called_stamped, steps_alike, steps_quietly}

module _ {L : Type 0} (names : Names L) (low : ℕ → Bool) where
  -- whether a process writes nothing low
  quiet? : (p : Proc L) → Dec (Quiet names low p)
  quiet? nil = yes tt
  quiet? (assign x e) = Bool-discrete (low x) false
  quiet? (let_in x δ e p) = Dec.and (Bool-discrete (names.is_session x) false) (quiet? p)
  quiet? (if_then_else e p q) =
      Dec.of_iff (λ u. (λ x o. tt, u.0, u.1), λ u. (u.1, u.2)) (Dec.and (quiet? p) (quiet? q))
  quiet? (while e p) = Dec.and (yes (λ x o. tt)) (quiet? p)
  quiet? (sequence p q) = Dec.and (quiet? p) (quiet? q)
  quiet? (emit a) = Bool-discrete (low a) false
  quiet? (local a δ p) = Dec.and (Bool-discrete (names.is_session a) false) (quiet? p)
  quiet? (watching a p) = Dec.and (yes tt) (quiet? p)
  quiet? (when a p) = Dec.and (yes tt) (quiet? p)
  quiet? (parallel p q) = Dec.and (quiet? p) (quiet? q)

  -- Stops that a reader of the low names cannot tell apart: the same lines, and the session's low registers alike.
  pub record Same (r r' : Stop L) : Type 0 where
    pub lines : r.lines ≡ r'.lines
    pub registers :
        (x : ℕ) → low x ≡ true → names.is_session x ≡ true → names.is_signal x ≡ false →
        held r.at.values x ≡ held r'.at.values x

  halted :
      {at at' : System L} {e e' : Ending} → ((x : ℕ) → low x ≡ true → held at.values x ≡ held at'.values x) →
      Same (halts e at) (halts e' at')
  halted h = record { lines = refl; registers = λ x l w i. h x l }

  -- a process that writes nothing low runs as if it stood still
  still :
      (I : Inputs) (n room : ℕ) (at : System L) → Quiet names low at.process →
      Same (reach names I low n room at) (halts finished at)
  still I zero room at h =
      both_stay names names I I low low (λ r _. Same r (halts finished at)) at at refl (λ _. halted (λ x l. refl)) room
  still I (suc n) room at h =
      let c = steps_quietly names low I at h in
      both_go names names I I low low (λ r _. Same r (halts finished at)) at at refl (λ _. halted (λ x l. refl)) refl
      (λ l _ _ e _. let z : ◌≡◌ {A = ℕ} 0 1 = cc c.line in absurd (omega arith)) n n room
      (λ left.
      let r = still I n left (next names I at) c.quiet in
      record { lines = r.lines; registers = λ x l w i. r.registers x l w i ∙ c.registers x l w i })

  pub agree :
      (I J : Inputs) → LowInputs names low I J → (n room : ℕ) (at at' : System L) → Twins names low at at' →
      Safe names low at.process → Same (reach names I low n room at) (reach names J low n room at')
  agree I J same zero room at at' q s =
      both_stay names names I J low low Same at at' (ap is_nil q.process) (λ e. halted q.values.agree) room
  agree I J same (suc n) room at at' q s =
      elim (quiet? at.process) [
        | yes h ↦
            let r = still I (suc n) room at h in
            let r' = still J (suc n) room at' (subst (Quiet names low) q.process h) in
            record {
              lines = r.lines ∙ sym r'.lines;
              registers = λ x l w i. r.registers x l w i ∙ q.values.agree x l ∙ sym (r'.registers x l w i);
            }
        | no z ↦
            let r = steps_alike names low I J same at at' q s (inr z) in
            both_go names names I J low low Same at at' (ap is_nil q.process) (λ e. halted q.values.agree) r.line
            (λ l _ _ _ u. record { lines = ap (λ ls. l ∷ ls) u.lines; registers = u.registers }) n n room
            (λ left.
            agree I J same n left (next names I at) (next names J at') r.twins
            (step_safe names low (I (suc at.instants)) at.process at.values s))
      ]

  -- the lines that are stamped N or less
  abbrev early : ℕ → List Line → List Line
  early = stamped_up_to (λ l. l.step)

  -- one run, whatever its inputs
  module _ (I : Inputs) where
    -- a line is stamped with its step
    stamp : (at : System L) {l : Line} → called_for low at (output names I at) ≡ some l → l.step ≡ suc at.steps
    stamp at e = subst (Stamped names low (suc at.steps)) e (called_stamped names low at (output names I at))

    -- all lines from here on are stamped above N
    late : (N n room : ℕ) (at : System L) → N ≤ at.steps → early N (reach names I low n room at).lines ≡ []
    unfolding stamped_up_to
    late N zero room at h = both_stay names names I I low low (λ r _. early N r.lines ≡ []) at at refl (λ _. refl) room
    late N (suc n) room at h =
        both_go names names I I low low (λ r _. early N r.lines ≡ []) at at refl (λ _. refl) refl
        (λ l r _ c e. rw (lt-leb l.step N (omega (arith, stamp at c))) e) n n room
        (λ left. late N n left (next names I at) (omega arith))

    -- a run with a higher limit has these lines, and then others
    pub prefix :
        (n m N room : ℕ) (at : System L) → at.steps + n ≡ N → n ≤ m →
        (reach names I low n room at).lines ≡ early N (reach names I low m room at).lines
    unfolding stamped_up_to
    prefix zero m N room at k h =
        both_stay names names I I low low (λ r _. r.lines ≡ []) at at refl (λ _. refl) room
        ∙ sym (late N m room at (omega arith))
    prefix (suc n) zero N room at k h = absurd (omega arith)
    prefix (suc n) (suc m) N room at k h =
        both_go names names I I low low (λ r r'. r.lines ≡ early N r'.lines) at at refl (λ _. refl) refl
        (λ l r r' c e. rw (le-leb l.step N (omega (arith, stamp at c))) (ap (λ ls. l ∷ ls) e)) n m room
        (λ left. prefix n m N left (next names I at) (omega arith) (omega arith))
