-- A run in place makes the report's steps. The statements stand in specs/Results.antt.
use Prim.Native.Nat.{ℕ, suc, ◌+◌}
use native.Mathlib.Omega.{arith}
use mathlib.Core.Path.{◌≡◌, refl, sym, subst, ap, ap₂, ◌∙◌}
use mathlib.Core.Bool.{Bool, true, false, true≢false, false≢true}
use mathlib.Core.Option.{none, some}
use mathlib.Core.Logic.{⊎_elim}
use mathlib.Core.List.{List, [], ◌++◌, Option-to_list}
use lib.ListN.{length}
use Rattle.values.specs.Values.{holds}
use Rattle.language.specs.Syntax.{Names, Proc, nil, is_nil}
use Rattle.language.specs.NameKinds.{Kind, var, sig, put}
use Rattle.language.specs.Typing.{Environment, environment}
use Rattle.language.specs.Steps.{held, present, Output, Inputs}
use Rattle.language.specs.Calls.{Line, Ending, System, Run, called_for}
use Rattle.language.specs.Instants as inplace
use Rattle.language.specs.Paths as paths
use Rattle.language.proofs.NameKinds.{other}
use Rattle.language.proofs.Stores.{given_back_session}
use Rattle.language.proofs.Theorems.{steps_agree}
use Rattle.report.specs.Names.{Renaming, Renamed, r_nil, r_assign, r_let, r_if, r_while, r_sequence, r_emit, r_local, r_watching, r_when, r_parallel}
use Rattle.report.specs.Configurations.{Configuration, Begins, InputsWithin}
use Rattle.report.specs.Moves.{Move, ASSIGN-OP, SEQ-OP₁, SEQ-OP₂, LET-OP, COND-OP₁, COND-OP₂, WHILE-OP₁, WHILE-OP₂, EMIT-OP, LOCAL-OP, WATCH-OP₁, WATCH-OP₂, WHEN-OP₁, WHEN-OP₂, PAR-OP₁, PAR-OP₂, PAR-OP₃}
use Rattle.report.specs.Instants.{Step, MOVE, INSTANT-OP}
use Rattle.report.specs.Paths.{NamedLine, lines_for, ExecutionPath, here, more}
use Rattle.report.specs.Scope.{Script}
use Rattle.report.specs.Results.{SameLines, no_lines, one_more, Alike, HasPath, EndsAs, Reported}
use Rattle.report.proofs.Progress.{NamesBelow, CanStep, can_step, nil_terminated}
use Rattle.report.proofs.Steps.{Joined, Fixed, step_back, fixed_on, sees, lines_too, Along, walk}
use Rattle.report.proofs.Starts.{start_joined, start_fixed}

module _ {L : Type 0} where
  nil_back : {ρ : Renaming} {p : Proc L} → Renamed ρ p nil → is_nil p ≡ true
  unfolding is_nil
  nil_back r_nil = refl

  nil_there : {ρ : Renaming} {p P : Proc L} → Renamed ρ p P → is_nil p ≡ true → P ≡ nil
  unfolding is_nil
  nil_there r_nil e = refl
  nil_there (r_assign q r) e = absurd (false≢true e)
  nil_there (r_let q c d) e = absurd (false≢true e)
  nil_there (r_if q d f) e = absurd (false≢true e)
  nil_there (r_while q d) e = absurd (false≢true e)
  nil_there (r_sequence d f) e = absurd (false≢true e)
  nil_there (r_emit q) e = absurd (false≢true e)
  nil_there (r_local c d) e = absurd (false≢true e)
  nil_there (r_watching q d) e = absurd (false≢true e)
  nil_there (r_when q d) e = absurd (false≢true e)
  nil_there (r_parallel d f) e = absurd (false≢true e)

  -- Γ stays finite: a move extends it by at most one name
  with_name_lem : (Γ : Environment L) (m : ℕ) (k : Kind) (z : ℕ) (δ : L) → NamesBelow m Γ → NamesBelow (m + suc z)
      (put Γ k z (some δ))
  with_name_lem Γ m k z δ h j x l = rw (other k z j x (λ e q. omega arith)) (h j x (omega arith))

  move_finite :
      {Γ : Environment L} {S : ℕ → _} {E : ℕ → Bool} {Γ' : Environment L} {S' : ℕ → _} {E' : ℕ → Bool}
      {p p' : Proc L} {o : Output} (m : ℕ) →
      Move Γ S E p o Γ' S' E' p' → NamesBelow m Γ → (m' : ℕ) × NamesBelow m' Γ'
  move_finite m ASSIGN-OP h = (m, h)
  move_finite m SEQ-OP₁ h = (m, h)
  move_finite m (SEQ-OP₂ f) h = move_finite m f h
  move_finite {Γ} m (LET-OP {x' = z} {δ = δ} u s) h = (m + suc z, with_name_lem Γ m var z δ h)
  move_finite m (COND-OP₁ e) h = (m, h)
  move_finite m (COND-OP₂ e) h = (m, h)
  move_finite m (WHILE-OP₁ e) h = (m, h)
  move_finite m (WHILE-OP₂ e) h = (m, h)
  move_finite m EMIT-OP h = (m, h)
  move_finite {Γ} m (LOCAL-OP {a' = z} {δ = δ} u s) h = (m + suc z, with_name_lem Γ m sig z δ h)
  move_finite m WATCH-OP₁ h = (m, h)
  move_finite m (WATCH-OP₂ f) h = move_finite m f h
  move_finite m (WHEN-OP₁ e) h = (m, h)
  move_finite m (WHEN-OP₂ e f) h = move_finite m f h
  move_finite m PAR-OP₁ h = (m, h)
  move_finite m (PAR-OP₂ f) h = move_finite m f h
  move_finite m (PAR-OP₃ f g) h = (m, h)

  step_finite :
      {inputs : Inputs} {C D : Configuration L} {o : Output} (m : ℕ) → Step inputs C o D →
      NamesBelow m C.environment → (m' : ℕ) × NamesBelow m' D.environment
  step_finite m (MOVE f) h = move_finite m f h
  step_finite m (INSTANT-OP f g) h = (m, h)

  path_finite :
      {below : L → Bool} {inputs : Inputs} {n : ℕ} {C D : Configuration L} {ms : List NamedLine} (m : ℕ) →
      ExecutionPath below inputs n C ms D → NamesBelow m C.environment → (m' : ℕ) × NamesBelow m' D.environment
  path_finite m here h = (m, h)
  path_finite m (more f fs) h = let u = step_finite m f h in path_finite u.0 fs u.1

  same_length :
      {names : Names L} {Γ : Environment L} {origin : Renaming} {ls : List Line} {ms : List NamedLine} →
      SameLines names Γ origin ls ms → length ls ≡ length ms
  same_length no_lines = refl
  same_length (one_more u v) = ap suc (same_length v)

module _ {L : Type 0} (names : Names L) (inputs : Inputs) where
  -- the steps in place leave no choice
  one_step :
      {at to to' : System L} {o o' : Output} → inplace.Step names inputs at o to → inplace.Step names inputs at o' to' →
      (o ≡ o') × (to ≡ to')
  one_step {at} d e =
      let u = (steps_agree names inputs at).only _ _ d in
      let w = (steps_agree names inputs at).only _ _ e in
      (sym u.0 ∙ w.0, sym u.1 ∙ w.1)

  one_path :
      {seen : ℕ → Bool} {m : ℕ} {at last last' : System L} {ls ls' : List Line} →
      paths.Path names inputs seen m at ls last → paths.Path names inputs seen m at ls' last' → (ls ≡ ls') × (last ≡ last')
  one_path paths.here paths.here = (refl, refl)
  one_path {seen} {at = at} (paths.more d r) (paths.more e q) =
      let u = one_step d e in
      let w = one_path r (rw (← u.1) at q) in
      (ap₂ ◌++◌ (ap (λ o. Option-to_list (called_for seen at o)) u.0) w.0, w.1)

  nil_stuck : {at to : System L} {o : Output} → inplace.Step names inputs at o to → is_nil at.process ≡ true → ⊥
  nil_stuck {at} d e = (steps_agree names inputs at).nil_rests e _ _ d

  module _ (n : ℕ) where
    -- a configuration beside a system that is not nil is alive
    alive :
        {F : Kind → ℕ → Bool} {ρ origin : Renaming} {at : System L} {C : Configuration L} (m : ℕ) →
        Joined names n F ρ origin at C → NamesBelow m C.environment → (is_nil at.process ≡ true → ⊥) →
        CanStep inputs m C
    alive {ρ = ρ} {at = at} {C = C} m j h not-nil =
        ⊎_elim
        (λ e. absurd (not-nil (nil_back (subst (Renamed ρ at.process) e j.tied.renamed))))
        (λ u. u)
        (can_step inputs m C h)

    module _ (below : L → Bool) (Γ : Environment L) (within : InputsWithin Γ inputs) where
      -- beside each path in place the report has one
      find :
          {m : ℕ} {at last : System L} {ls : List Line} → paths.Path names inputs (sees names n below Γ) m at ls last →
          {F : Kind → ℕ → Bool} {ρ origin : Renaming} {C : Configuration L} → Joined names n F ρ origin at C →
          Fixed names n Γ F ρ at → (b : ℕ) → NamesBelow b C.environment → HasPath below inputs m C
      find paths.here {C = C} j x b h = record { lines = []; last = C; path = here }
      find (paths.more d r) j x b h =
          let u = alive b j h (nil_stuck d) in
          let v = step_back names n within u.alive.step j x in
          let o = one_step v.step d in
          let w = find r (subst (λ z. Joined names n v.F' v.ρ' v.origin' z u.alive.next) o.1 v.joined)
          (subst (Fixed names n Γ v.F' v.ρ') o.1 (fixed_on names n v x)) (suc b) u.names in
          record { lines = _; last = w.last; path = more u.alive.step w.path }

      -- where they have come to is alike
      alike_of :
          {m : ℕ} {origin : Renaming} {at : System L} {C : Configuration L} {ms : List NamedLine} {D : Configuration L}
          (a : Along names n below Γ inputs m origin at C ms D) → Alike names Γ a.lines a.last ms D
      alike_of {D = D} a =
          let j = a.joined in
          let g = j.tied.agree in
          let x = a.fixed in
          record {
            origin = a.origin';
            renaming = a.ρ;
            lines = a.same;
            steps = j.steps;
            instants = j.instants;
            store = λ y δ h. ap D.store (sym (x.kept var y δ h)) ∙ sym (g.store y (x.made var y δ h));
            signals = λ y δ h. ap D.signals (sym (x.kept sig y δ h)) ∙ sym (g.signals y (x.made sig y δ h));
            residual = j.tied.renamed;
            session =
                λ k y δ h.
                (x.kept k y δ h, ap (a.origin' k) (sym (x.kept k y δ h)) ∙ g.back k y (x.made k y δ h));
            inverse = λ k y f. g.back k y (j.tied.made k y f);
          }

      -- why a run ends, of the configuration beside it
      ends_of :
          {F : Kind → ℕ → Bool} {ρ origin : Renaming} {limit room made lines : ℕ} {how : Ending} {at : System L}
          {C : Configuration L} (b : ℕ) →
          NamesBelow b C.environment → Joined names n F ρ origin at C → Fixed names n Γ F ρ at →
          paths.RunEnds names inputs (sees names n below Γ) limit room at how made lines →
          EndsAs below inputs how C made limit
      unfolding Option-to_list
      ends_of {C = C} b h j x (paths.NIL-REACHED e) = nil_terminated inputs C (nil_there j.tied.renamed e)
      ends_of b h j x (paths.LIMIT-REACHED e) = ((alive b j h (λ t. true≢false (sym t ∙ e))).alive, refl)
      ends_of {ρ = ρ} {origin = origin} {at = at} {C = C} b h j x (paths.LOG-FULL {o = o} {l = l} less d e) =
          ((alive b j h (nil_stuck d)).alive, less, one_line)
        where
          one_line : (O : Output) (D : Configuration L) → Step inputs C O D → length (lines_for below C O) ≡ 1
          one_line O D f =
              let v = step_back names n within f j x in
              let q : called_for (sees names n below Γ) at v.out ≡ some l =
              ap (called_for (sees names n below Γ) at) (one_step v.step d).0 ∙ e
              in
              sym (same_length (lines_too names n below Γ j x origin (λ k z δ g. refl) v.output))
              ∙ ap (λ z. length (Option-to_list z)) q

-- Demand 2 in the report's own terms, for a script and any configuration that it begins with
module _
    {L : Type 0} {names : Names L} {scope : ℕ → Bool} {n : ℕ} {at : System L} {C : Configuration L}
    (script : Script names scope n at.process) (size : length at.values ≡ n)
    (begins : Begins (environment names scope) at C) {inputs : Inputs}
    (within : InputsWithin (environment names scope) inputs) (below : L → Bool)
  where
    abbrev Γ : Environment L
    Γ = environment names scope

    finite : NamesBelow n C.environment
    finite k x l = rw begins.environment (go (scope x) refl)
      where
        go : (b : Bool) → scope x ≡ b → Γ k x ≡ none
        go true e = absurd (omega (arith, (script.sessions x e).1))
        go false e = rw e

    along :
        {m : ℕ} {ms : List NamedLine} {D : Configuration L} → ExecutionPath below inputs m C ms D →
        Along names n below Γ inputs m (λ k y. y) at C ms D
    along f = walk names n below Γ within f (start_joined script size begins) (start_fixed script size begins)

    in_session : (k : Kind) (x : ℕ) (δ : L) → Γ k x ≡ some δ → names.is_session x ≡ true
    in_session k x δ = go (scope x) refl
      where
        go : (b : Bool) → scope x ≡ b → Γ k x ≡ some δ → names.is_session x ≡ true
        go true e h = (script.sessions x e).0
        go false e h = let q : none ≡ some δ = rw e at h in let z : ◌≡◌ {A = ℕ} 0 1 = cc in absurd (omega arith)

    module _ {limit room : ℕ} {r : Run} (run : paths.IsRun names inputs (sees names n below Γ) limit room at r)
        (zero-steps : at.steps ≡ 0) where
      made_is : run.made ≡ r.steps
      made_is = omega (arith, run.steps, zero-steps)

      path : paths.Path names inputs (sees names n below Γ) r.steps at r.lines run.last
      path = rw (← made_is) run.path

      module _ (ms : List NamedLine) (D : Configuration L) (f : ExecutionPath below inputs r.steps C ms D) where
        beside : (r.lines ≡ (along f).lines) × (run.last ≡ (along f).last)
        beside = one_path names inputs path (along f).path

        the_same : Alike names Γ r.lines run.last ms D
        the_same = rw (beside.0, beside.1) (alike_of names inputs n below Γ within (along f))

        ending : EndsAs below inputs r.ending D r.steps limit
        ending =
            let u = path_finite n f finite in
            rw (← made_is)
            (ends_of names inputs n below Γ within u.0 u.1 (along f).joined (along f).fixed (rw beside.1 at run.why))

      pub reported : Reported names Γ inputs below limit at C r
      reported =
          record {
            last = run.last;
            path = path;
            exists =
                find names inputs n below Γ within path (start_joined script size begins) (start_fixed script size begins) n
                finite;
            alike = the_same;
            instants = λ ms D f. (the_same ms D f).instants ∙ sym run.instants;
            store =
                λ ms D f x δ h.
                (the_same ms D f).store x δ h
                ∙ sym (ap (λ v. held v x) run.values ∙ given_back_session names run.last.values x
                (in_session var x δ h));
            signals =
                λ ms D f a δ h.
                (the_same ms D f).signals a δ h
                ∙ sym (ap (λ v. present v a) run.values ∙ ap holds
                (given_back_session names run.last.values a (in_session sig a δ h)));
            ends = ending;
          }
