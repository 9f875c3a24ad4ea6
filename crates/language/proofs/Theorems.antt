-- The results of specs/Results.antt.
use Prim.Native.Nat.{ℕ}
use native.Mathlib.Nat.{zero-add}
use mathlib.Core.Path.{◌≡◌, refl, sym, ap, ◌∙◌}
use mathlib.Core.Bool.{Bool, true, false}
use mathlib.Core.List.{List}
use lib.IntN.{ℤ}
use Rattle.lattice.specs.Lattice.{Lattice, Laws}
use Rattle.language.specs.Syntax.{Names, Proc}
use Rattle.language.specs.Scope.{Scoped}
use Rattle.language.specs.Levels.{write_level, test_level, needs}
use Rattle.language.specs.Steps.{held, Inputs, instant_start}
use Rattle.language.specs.Calls.{System, starts, readable, reach}
use Rattle.language.specs.Typing.{environment, Below, Typed}
use Rattle.language.specs.Results.{AllAbsent, StepsAgree, RunsAgree, RunsJoin, LevelsAgree, FlowsAgree, StartsAgree, NonInterference}
use Rattle.language.proofs.Needs.{Needs, needs_hold, hold_needs}
use Rattle.language.proofs.Typing.{derives, derived, environment_covers, environment_agrees}
use Rattle.language.proofs.Figures.{step_is, step_only, nil_rests}
use Rattle.language.proofs.Executions.{run_is, run_only}
use Rattle.language.proofs.Stopping.{reach_onward, reach_once}
use Rattle.language.proofs.Stores.{given_back_session}
use Rattle.language.proofs.Lockstep.{Twins}
use Rattle.language.proofs.Noninterference.{Same, agree, prefix}
use Rattle.language.proofs.Flows.{safe_of}
use Rattle.language.proofs.RequiredFlows.{needs_agrees}

pub all_absent : {L : Type 0} (names : Names L) → AllAbsent names
unfolding instant_start
all_absent names i s = refl

pub steps_agree : {L : Type 0} (names : Names L) (inputs : Inputs) (at : System L) → StepsAgree names inputs at
steps_agree names inputs at =
    record {
      allowed =
          step_is names inputs at;
      only = λ o to d. step_only names inputs at d;
      nil_rests = λ h o to d. nil_rests names inputs at h d;
    }

pub runs_agree :
    {L : Type 0} (names : Names L) (inputs : Inputs) (seen : ℕ → Bool) (n room : ℕ) (at : System L) →
    RunsAgree names inputs seen n room at
runs_agree names inputs seen n room at =
    record { path = run_is names inputs seen n room at; only = run_only names inputs seen n room at }

pub runs_join :
    {L : Type 0} (names : Names L) (inputs : Inputs) (seen : ℕ → Bool) (n room : ℕ) (at : System L) →
    RunsJoin names inputs seen n room at
runs_join names inputs seen n room at =
    record {
      joins = λ limit. reach_onward names inputs seen n limit room at;
      once = reach_once names inputs seen room at;
    }

module _
    {L : Type 0} (𝓛 : Lattice L) (laws : Laws 𝓛) (names : Names L) (p : Proc L) (scope : ℕ → Bool)
    (scoped : Scoped names scope p)
  where
    pub levels_agree : LevelsAgree 𝓛 names (environment names scope) p
    levels_agree =
        record {
          accepts =
              (λ h. (write_level 𝓛 names p, test_level 𝓛 names p, derive h), λ d. hold_needs 𝓛 names p (read d.2).0);
          derivable = derive;
          tightest = λ θ σ d. ((read d).1, (read d).2);
        }
      where
        derive :
            needs 𝓛 names p ≡ true →
            Typed 𝓛 (environment names scope) p (write_level 𝓛 names p) (test_level 𝓛 names p)
        derive h = derives 𝓛 laws names p _ scope (environment_covers names scope) scoped (needs_hold 𝓛 names p h)

        read :
            {θ σ : L} → Typed 𝓛 (environment names scope) p θ σ →
            Needs 𝓛 names p × Below 𝓛 θ (write_level 𝓛 names p) × Below 𝓛 (test_level 𝓛 names p) σ
        read d = derived 𝓛 laws names d scope (environment_agrees names scope) scoped

pub flows_agree : (𝓛 : Lattice ℕ) → Laws 𝓛 → (names : Names ℕ) (p : Proc ℕ) → FlowsAgree 𝓛 names p
flows_agree 𝓛 laws names p =
    let h = needs_agrees 𝓛 laws names p in record { allowed = h.allowed; absent = h.absent }

module _
    {L : Type 0} (𝓛 : Lattice L) (laws : Laws 𝓛) (names : Names L) (p : Proc L)
    (scoped : Scoped names names.is_session p)
  where
    -- two starts that agree below a reader are low-equal
    starts_twins :
        (reader : L) (s t : List ℤ) → StartsAgree 𝓛 names reader s t →
        Twins names (readable 𝓛 names reader) (starts p s) (starts p t)
    starts_twins reader s t h =
        record {
          process = refl;
          values = record { lengths = h.lengths; agree = λ x l. equal x l (names.is_session x) refl };
          steps = refl;
          instants = refl;
        }
      where
        equal :
            (x : ℕ) → readable 𝓛 names reader x ≡ true → (b : Bool) → names.is_session x ≡ b → held s x ≡ held t x
        equal x l true k = h.session x k l
        equal x l false k = (h.owned x k).0 ∙ sym (h.owned x k).1

    pub noninterference : needs 𝓛 names p ≡ true → (reader : L) → NonInterference 𝓛 names reader p
    noninterference h reader s t q I J same room n m l =
        record {
          shorter = both.lines ∙ prefix names low J n m n room (starts p t) (zero-add n) l;
          equal = λ e. both.lines ∙ ap (λ j. (reach names J low j room (starts p t)).lines) e;
          registers =
              λ e x w i u.
              given_back_session names _ x w
              ∙ both.registers x u w i
              ∙ ap (λ j. held (reach names J low j room (starts p t)).at.values x) e
              ∙ sym (given_back_session names _ x w);
        }
      where
        low : ℕ → Bool
        low = readable 𝓛 names reader

        both : Same names low (reach names I low n room (starts p s)) (reach names J low n room (starts p t))
        both =
            agree names low I J same n room (starts p s) (starts p t) (starts_twins reader s t q)
            (safe_of 𝓛 laws names reader p names.is_session scoped (needs_hold 𝓛 names p h))
