-- Each path of the report goes beside the one path in place.
use Prim.Native.Nat.{ℕ, suc}
use mathlib.Core.Path.{◌≡◌, refl, sym, ap, ap₂, subst, ◌∙◌}
use mathlib.Core.Bool.{Bool, true, false, cond, not, ◌&&◌}
use mathlib.Core.Option.{Option, none, some}
use mathlib.Core.List.{List, [], ◌++◌, Option-to_list}
use lib.IntN.{ℤ}
use Rattle.language.specs.Syntax.{Names}
use Rattle.language.specs.NameKinds.{Kind, var, sig}
use Rattle.language.specs.Scope.{Declared}
use Rattle.language.specs.Typing.{Environment}
use Rattle.language.specs.Steps.{present, Output, silent, Inputs, instant_start}
use Rattle.language.specs.Calls.{Line, System, line_if, called_at, called_for}
use Rattle.language.specs.Instants as inplace
use Rattle.language.specs.Paths as paths
use Rattle.report.specs.Names.{Renaming}
use Rattle.report.specs.Configurations.{Configuration, InputsWithin}
use Rattle.report.specs.Instants.{Step, MOVE, INSTANT-OP}
use Rattle.report.specs.Paths.{NamedLine, named, is_seen, lines_for, ExecutionPath, here, more}
use Rattle.report.specs.Results.{SameLine, SameLines, no_lines, one_more}
use Rattle.report.proofs.Memory.{Agree, defined, agree_instant}
use Rattle.report.proofs.Waiting.{Signals, suspended_back, changed_back}
use Rattle.report.proofs.Matching.{SameOutput, no_output, an_assignment, an_emission, changed_carries, Grown, grown_same, grown_then, Tied, back}

module _ {L : Type 0} (names : Names L) (n : ℕ) where
  -- a system in place and a configuration of the report that correspond
  pub record Joined (F : Kind → ℕ → Bool) (ρ origin : Renaming) (at : System L) (C : Configuration L) : Type 0 where
    pub tied :
        Tied names n F ρ origin at.process at.values C.environment C.store C.signals C.process
    pub steps : C.steps ≡ at.steps
    pub instants : C.instants ≡ at.instants

  -- a session name keeps its name: Γ is the environment of the session's names
  pub record Fixed (Γ : Environment L) (F : Kind → ℕ → Bool) (ρ : Renaming) (at : System L) : Type 0 where
    pub made : (k : Kind) (x : ℕ) (δ : L) → Γ k x ≡ some δ → F k x ≡ true
    pub kept : (k : Kind) (x : ℕ) (δ : L) → Γ k x ≡ some δ → ρ k x ≡ x
    pub free : (k : Kind) (x : ℕ) (δ : L) → Declared k x at.process → Γ k x ≡ some δ → ⊥

  -- Names of the session alone are listed: a signal of the script is listed if the report's name for it is, and no name
  -- is that the report does not have.
  module _ {Γ Γ' : Environment L} {F : Kind → ℕ → Bool} {ρ origin : Renaming} {at : System L} {s : List ℤ} {S : ℕ → ℤ}
      {E : ℕ → Bool} (x : Fixed Γ F ρ at) (g : Agree names n F ρ origin s Γ' S E) (I : ℕ → Bool)
      (within : (a : ℕ) → Γ sig a ≡ none → I a ≡ false)
    where
      listed_within : (a : ℕ) → Γ' sig a ≡ none → I a ≡ false
      listed_within a u = go (Γ sig a) refl
        where
          go : (v : Option L) → Γ sig a ≡ v → I a ≡ false
          go none e = within a e
          go (some δ) e =
              absurd (defined Γ' sig sig a (ρ sig a) _ u (g.dom sig a (x.made sig a δ e)) refl (sym (x.kept sig a δ e)))

      -- no session signal is the report's name for another name
      own : (a : ℕ) (δ : L) → F sig a ≡ true → Γ sig (ρ sig a) ≡ some δ → ρ sig a ≡ a
      own a δ f e =
          sym (g.back sig (ρ sig a) (x.made sig (ρ sig a) δ e))
          ∙ ap (origin sig) (x.kept sig (ρ sig a) δ e)
          ∙ g.back sig a f

      listed_same : (a : ℕ) → F sig a ≡ true → I a ≡ I (ρ sig a)
      listed_same a f = go (Γ sig a) (Γ sig (ρ sig a)) refl refl
        where
          go : (v w : Option L) → Γ sig a ≡ v → Γ sig (ρ sig a) ≡ w → I a ≡ I (ρ sig a)
          go (some δ) w e d = ap I (sym (x.kept sig a δ e))
          go none none e d = within a e ∙ sym (within (ρ sig a) d)
          go none (some δ) e d = ap I (sym (own a δ f d))

  -- the step in place that corresponds to one of the report, to D
  pub record Stepped (inputs : Inputs) (F : Kind → ℕ → Bool) (ρ origin : Renaming) (at : System L) (C : Configuration L) (O : Output)
      (D : Configuration L) : Type 0 where
    pub F' : Kind → ℕ → Bool
    pub ρ' : Renaming
    pub origin' : Renaming
    pub out : Output
    pub to : System L
    pub step : inplace.Step names inputs at out to
    pub output : SameOutput F ρ out O
    pub joined : Joined F' ρ' origin' to D
    pub decl : (k : Kind) (y : ℕ) → Declared k y to.process → Declared k y at.process
    pub grows : (k : Kind) (y : ℕ) → F k y ≡ true → F' k y ≡ true
    pub stays : (k : Kind) (y : ℕ) → (Declared k y at.process → ⊥) → ρ' k y ≡ ρ k y
    pub grown : Grown C.environment D.environment origin origin'

  pub step_back :
      {inputs : Inputs} {Γ : Environment L} {F : Kind → ℕ → Bool} {ρ origin : Renaming} {at : System L}
      {C D : Configuration L} {O : Output} → InputsWithin Γ inputs →
      Step inputs C O D → Joined F ρ origin at C → Fixed Γ F ρ at → Stepped inputs F ρ origin at C O D
  step_back within (MOVE f) j x =
      let w = j.tied in
      let u = back names n f w.renamed w.agree w.made w.clean w.carries in
      record {
        F' = u.F';
        ρ' = u.ρ';
        origin' = u.origin';
        out = u.out;
        to = _;
        step = inplace.MOVE u.move;
        output = u.output;
        joined =
            record {
              tied =
                  record {
                    renamed = u.renamed;
                    agree = u.agree;
                    made = u.made;
                    clean = u.kept.clean;
                    carries = u.carries;
                  };
              steps = ap suc j.steps;
              instants = j.instants;
            };
        decl = u.kept.decl;
        grows = u.grows;
        stays = u.stays;
        grown = u.grown;
      }
  step_back {inputs = inputs} {F = F} {ρ = ρ} {origin = origin} {at = at} {C = C} within (INSTANT-OP f g) j x =
      let w = j.tied in
      let I : ℕ → Bool = inputs (suc C.instants) in
      let signals : Signals (present at.values) C.signals ρ at.process = λ a z. w.agree.signals a (w.made sig a z) in
      let u = changed_back (present at.values) C.signals g w.renamed signals w.clean in
      record {
        F' = F;
        ρ' = ρ;
        origin' = origin;
        out = silent;
        to = _;
        step =
            inplace.INSTANT-OP (suspended_back (present at.values) C.signals f w.renamed signals) u.change;
        output = no_output;
        joined =
            record {
              tied =
                  record {
                    renamed = u.renamed;
                    agree =
                        subst (λ i. Agree names n F ρ origin (instant_start names (inputs (suc i)) at.values) C.environment C.store I)
                        j.instants
                        (agree_instant w.agree I (listed_same x w.agree I (within _)) (listed_within x w.agree I (within _)));
                    made = λ k y z. w.made k y (u.free k y z);
                    clean = u.kept.clean;
                    carries = changed_carries names n u.change w.carries;
                  };
              steps = ap suc j.steps;
              instants = ap suc j.instants;
            };
        decl = u.kept.decl;
        grows = λ k y z. z;
        stays = λ k y z. refl;
        grown = grown_same C.environment origin;
      }

  pub fixed_on :
      {inputs : Inputs} {Γ : Environment L} {F : Kind → ℕ → Bool} {ρ origin : Renaming} {at : System L}
      {C D : Configuration L} {O : Output} →
      (u : Stepped inputs F ρ origin at C O D) → Fixed Γ F ρ at → Fixed Γ u.F' u.ρ' u.to
  fixed_on u x =
      record {
        made = λ k y δ h. u.grows k y (x.made k y δ h);
        kept = λ k y δ h. u.stays k y (λ d. x.free k y δ d h) ∙ x.kept k y δ h;
        free = λ k y δ d h. x.free k y δ (u.decl k y d) h;
      }

  module _ (below : L → Bool) (Γ : Environment L) where
    -- 'a name at or below the reader's level'
    abbrev pub sees : ℕ → Bool
    sees x = below (names.level x)

    -- the lines that two corresponding steps call for
    module _ {F : Kind → ℕ → Bool} {ρ origin : Renaming} {at : System L} {C : Configuration L}
        (j : Joined F ρ origin at C) (x : Fixed Γ F ρ at) (last : Renaming)
        (same : (k : Kind) (z : ℕ) (δ : L) → C.environment k z ≡ some δ → last k z ≡ origin k z)
      where
        -- a line for each, or none
        line_too :
            (k : Kind) (y y' : ℕ) (v w : ℤ) → F k y ≡ true → y' ≡ ρ k y → v ≡ w →
            SameLine names Γ last
            (record { step = suc at.steps; instant = at.instants; name = y; value = v })
            (record { kind = k; line = record { step = suc C.steps; instant = C.instants; name = y'; value = w } })
        line_too k y y' v w f q e =
            let g = j.tied.agree in
            record {
              steps = ap suc (sym j.steps);
              instants = sym j.instants;
              values = e;
              kinds = g.kinded k y f;
              origins =
                  sym (ap (last k) q ∙ same k (ρ k y) _ (g.dom k y f) ∙ g.back k y f);
              session = λ δ h. q ∙ x.kept k y δ h;
            }

        one_or_none :
            (b : Bool) (k : Kind) (l m : Line) → SameLine names Γ last l (record { kind = k; line = m }) →
            SameLines names Γ last (Option-to_list (cond b (some l) none)) (named k (cond b (some m) none))
        unfolding Option-to_list
        one_or_none true k l m h = one_more h no_lines
        one_or_none false k l m h = no_lines

        -- the lines of a name of this kind, if both need one or neither does
        lines_of :
            (k : Kind) (y y' : ℕ) (v w : ℤ) → F k y ≡ true → y' ≡ ρ k y → v ≡ w → {b b' : Bool} → b ≡ b' →
            SameLines names Γ last (Option-to_list (line_if b at.steps at.instants y v))
            (named k (line_if b' C.steps C.instants y' w))
        lines_of k y y' v w f q e {b} h = rw (← h) (one_or_none b k _ _ (line_too k y y' v w f q e))

        -- the report's E has the signals that are present
        present_too : (y y' : ℕ) → F sig y ≡ true → y' ≡ ρ sig y → present at.values y ≡ C.signals y'
        present_too y y' f q = j.tied.agree.signals y f ∙ ap C.signals (sym q)

        seen_too :
            (k : Kind) (y y' : ℕ) → F k y ≡ true → y' ≡ ρ k y → sees y ≡ is_seen below (C.environment k y')
        seen_too k y y' f q = sym (ap (is_seen below) (ap (C.environment k) q ∙ j.tied.agree.dom k y f))

        pub lines_too :
            {o O : Output} → SameOutput F ρ o O →
            SameLines names Γ last (Option-to_list (called_for sees at o)) (lines_for below C O)
        unfolding called_at Option-to_list
        lines_too no_output = no_lines
        lines_too (an_assignment {x = y} {x' = y'} {v = v} {w = w} f q e) =
            lines_of var y y' v w f q e (seen_too var y y' f q)
        lines_too (an_emission {a = y} {a' = y'} f q) =
            lines_of sig y y' _ _ f q refl (ap₂ (λ b c. b && not c) (seen_too sig y y' f q) (present_too y y' f q))

    append_lines :
        {origin : Renaming} {ls ls' : List Line} {ms ms' : List NamedLine} → SameLines names Γ origin ls ms →
        SameLines names Γ origin ls' ms' → SameLines names Γ origin (ls ++ ls') (ms ++ ms')
    append_lines no_lines w = w
    append_lines (one_more u v) w = one_more u (append_lines v w)

    -- a path in place beside one of the report, and how their ends correspond
    pub record Along (inputs : Inputs) (m : ℕ) (origin : Renaming) (at : System L) (C : Configuration L) (ms : List NamedLine)
        (D : Configuration L) : Type 0 where
      pub lines : List Line
      pub last : System L
      pub path : paths.Path names inputs sees m at lines last
      pub F : Kind → ℕ → Bool
      pub ρ : Renaming
      pub origin' : Renaming
      pub joined : Joined F ρ origin' last D
      pub fixed : Fixed Γ F ρ last
      pub same : SameLines names Γ origin' lines ms
      pub grown : Grown C.environment D.environment origin origin'

    pub walk :
        {inputs : Inputs} → InputsWithin Γ inputs → {m : ℕ} {C D : Configuration L} {ms : List NamedLine} →
        ExecutionPath below inputs m C ms D → {F : Kind → ℕ → Bool} {ρ origin : Renaming} {at : System L} →
        Joined F ρ origin at C → Fixed Γ F ρ at → Along inputs m origin at C ms D
    walk within {C = C} here {F} {ρ} {origin} {at} j x =
        record {
          lines = [];
          last = at;
          path = paths.here;
          F = F;
          ρ = ρ;
          origin' = origin;
          joined = j;
          fixed = x;
          same = no_lines;
          grown = grown_same C.environment origin;
        }
    walk within (more f fs) {at = at} j x =
        let u = step_back within f j x in
        let r = walk within fs u.joined (fixed_on u x) in
        record {
          lines = Option-to_list (called_for sees at u.out) ++ r.lines;
          last = r.last;
          path = paths.more u.step r.path;
          F = r.F;
          ρ = r.ρ;
          origin' = r.origin';
          joined = r.joined;
          fixed = r.fixed;
          same =
              append_lines
              (lines_too j x r.origin'
              (λ k z δ h. r.grown.origins k z δ (u.grown.levels k z δ h) ∙ u.grown.origins k z δ h)
              u.output)
              r.same;
          grown = grown_then u.grown r.grown;
        }
