-- Each step of the report is the step in place, up to the names of what is declared.
use Prim.Native.Nat.{ℕ, ◌<◌}
use mathlib.Core.Path.{◌≡◌, refl, sym, ap, ◌∙◌}
use mathlib.Core.Bool.{Bool, true, false}
use mathlib.Core.Option.{none, some}
use mathlib.Core.Logic.{◌⊎◌, inl, inr, ⊎_elim}
use mathlib.Core.List.{List}
use lib.IntN.{ℤ}
use Rattle.prelude.proofs.Bools.{by_cases}
use Rattle.values.specs.Values.{holds}
use Rattle.language.specs.Syntax.{Names, Exp, Occurs, Proc, nil, assign, let_in, if_then_else, while, sequence, emit, local, watching, when, parallel}
use Rattle.language.specs.NameKinds.{Kind, var, sig, same, put, is_of}
use Rattle.language.specs.Scope.{Declared}
use Rattle.language.specs.Typing.{Environment}
use Rattle.language.specs.Steps.{held, present, evaluate, value, Output, silent, assigned, emitted}
use Rattle.language.specs.Moves as inplace
use Rattle.language.specs.Instants.{Changed, WATCH-PRESENT, WATCH-ABSENT, WHEN-PRESENT, WHEN-ABSENT, SEQ-CHANGED, PAR-CHANGED}
use Rattle.language.proofs.NameKinds.{same_self, put_true, other, either}
use Rattle.report.specs.Names.{Free, CapturesNone, Substituted, Renaming, renamed_in, Renamed, r_nil, r_assign, r_let, r_if, r_while, r_sequence, r_emit, r_local, r_watching, r_when, r_parallel}
use Rattle.report.specs.Moves.{Move, ASSIGN-OP, SEQ-OP₁, SEQ-OP₂, LET-OP, COND-OP₁, COND-OP₂, WHILE-OP₁, WHILE-OP₂, EMIT-OP, LOCAL-OP, WATCH-OP₁, WATCH-OP₂, WHEN-OP₁, WHEN-OP₂, PAR-OP₁, PAR-OP₂, PAR-OP₃}
use Rattle.report.proofs.Renames.{evaluate_renamed, same_ren, ren_then, under_twice}
use Rattle.report.proofs.Clean.{Clean, Kept, kept_sequence, kept_parallel, kept_watching, kept_when, kept_nil}
use Rattle.report.proofs.Memory.{Agree, defined, agree_let, agree_local, agree_assign, agree_emit}
use Rattle.report.proofs.Waiting.{suspended_back, suspended_forth}

-- what is written: nothing, or one value at names that correspond
pub data SameOutput (F : Kind → ℕ → Bool) (ρ : Renaming) : Output → Output → Type 0 where
  no_output : SameOutput F ρ silent silent
  an_assignment :
      {x x' : ℕ} {v w : ℤ} → F var x ≡ true → x' ≡ ρ var x → v ≡ w → SameOutput F ρ (assigned x v) (assigned x' w)
  an_emission : {a a' : ℕ} → F sig a ≡ true → a' ≡ ρ sig a → SameOutput F ρ (emitted a) (emitted a')

module _ {L : Type 0} where
  -- names of Γ stay, and so does what they were made for
  pub record Grown (Γ Γ' : Environment L) (origin origin' : Renaming) : Type 0 where
    pub levels : (k : Kind) (z : ℕ) (δ : L) → Γ k z ≡ some δ → Γ' k z ≡ some δ
    pub origins : (k : Kind) (z : ℕ) (δ : L) → Γ k z ≡ some δ → origin' k z ≡ origin k z

  pub grown_same : (Γ : Environment L) (origin : Renaming) → Grown Γ Γ origin origin
  grown_same Γ origin = record { levels = λ k z δ e. e; origins = λ k z δ e. refl }

  pub grown_then :
      {Γ Γ' Γ'' : Environment L} {o o' o'' : Renaming} → Grown Γ Γ' o o' → Grown Γ' Γ'' o' o'' → Grown Γ Γ'' o o''
  grown_then u w =
      record {
        levels = λ k z δ e. w.levels k z δ (u.levels k z δ e);
        origins = λ k z δ e. w.origins k z δ (u.levels k z δ e) ∙ u.origins k z δ e;
      }

  grown_put :
      (Γ : Environment L) (origin : Renaming) (k : Kind) (z x : ℕ) (δ : L) → Γ k z ≡ none →
      Grown Γ (put Γ k z (some δ)) origin (put origin k z x)
  grown_put Γ origin k z x δ u =
      record { levels = λ j w θ e. rw (apart j w θ e) e; origins = λ j w θ e. rw (apart j w θ e) }
    where
      apart : (j : Kind) (w : ℕ) (θ : L) → Γ j w ≡ some θ → same k z j w ≡ false
      apart j w θ e = other k z j w (defined Γ k j z w θ u e)

module _ {L : Type 0} (names : Names L) (n : ℕ) where
  -- a declaration of a name of this kind, with its level
  pub record Carried (k : Kind) (x : ℕ) (δ : L) : Type 0 where
    pub level : δ ≡ names.level x
    pub kinded : is_of k (names.is_signal x) ≡ true
    pub within : x < n

  abbrev pub Carries : Proc L → Type 0
  Carries nil = Unit {0}
  Carries (assign x e) = Unit {0}
  Carries (let_in x δ e p) = Carried var x δ × Carries p
  Carries (if_then_else e p q) = Carries p × Carries q
  Carries (while e p) = Carries p
  Carries (sequence p q) = Carries p × Carries q
  Carries (emit a) = Unit {0}
  Carries (local a δ p) = Carried sig a δ × Carries p
  Carries (watching a p) = Carries p
  Carries (when a p) = Carries p
  Carries (parallel p q) = Carries p × Carries q

  pub changed_carries : {E : ℕ → Bool} {p p' : Proc L} → Changed E p p' → Carries p → Carries p'
  changed_carries (WATCH-PRESENT e) c = tt
  changed_carries (WATCH-ABSENT e f) c = changed_carries f c
  changed_carries (WHEN-PRESENT e f) c = changed_carries f c
  changed_carries (WHEN-ABSENT e) c = c
  changed_carries (SEQ-CHANGED f) c = (changed_carries f c.0, c.1)
  changed_carries (PAR-CHANGED f f') c = (changed_carries f c.0, changed_carries f' c.1)

  -- a process in place and one of the report that correspond, with their memories
  pub record Tied (F : Kind → ℕ → Bool) (ρ origin : Renaming) (p : Proc L) (s : List ℤ) (Γ : Environment L) (S : ℕ → ℤ)
      (E : ℕ → Bool) (P : Proc L) : Type 0 where
    pub renamed : Renamed ρ p P
    pub agree : Agree names n F ρ origin s Γ S E
    pub made : (k : Kind) (y : ℕ) → Free k y p → F k y ≡ true
    pub clean : Clean p
    pub carries : Carries p

  -- the move in place that corresponds to one of the report
  pub record Moved (F : Kind → ℕ → Bool) (ρ origin : Renaming) (p : Proc L) (s : List ℤ) (Γ : Environment L) (O : Output)
      (Γ' : Environment L) (S' : ℕ → ℤ) (E' : ℕ → Bool) (P' : Proc L) : Type 0 where
    pub F' : Kind → ℕ → Bool
    pub ρ' : Renaming
    pub origin' : Renaming
    pub out : Output
    pub rest : Proc L
    pub values : List ℤ
    pub move : inplace.Move s p out rest values
    pub output : SameOutput F ρ out O
    pub renamed : Renamed ρ' rest P'
    pub agree : Agree names n F' ρ' origin' values Γ' S' E'
    pub made : (k : Kind) (y : ℕ) → Free k y rest → F' k y ≡ true
    pub carries : Carries rest
    pub kept : Kept p rest
    pub grows : (k : Kind) (y : ℕ) → F k y ≡ true → F' k y ≡ true
    pub stays : (k : Kind) (y : ℕ) → (Declared k y p → ⊥) → ρ' k y ≡ ρ k y
    pub grown : Grown Γ Γ' origin origin'

  -- a move that makes no name
  plain :
      {F : Kind → ℕ → Bool} {ρ origin : Renaming} {p rest : Proc L} {s values : List ℤ} {out O : Output}
      {Γ : Environment L}
      {S' : ℕ → ℤ} {E' : ℕ → Bool} {P' : Proc L} →
      inplace.Move s p out rest values → SameOutput F ρ out O → Renamed ρ rest P' →
      Agree names n F ρ origin values Γ S' E' →
      ((k : Kind) (y : ℕ) → Free k y rest → F k y ≡ true) → Carries rest → Kept p rest →
      Moved F ρ origin p s Γ O Γ S' E' P'
  plain {F} {ρ} {origin} {p} {rest} {s} {values} {out} {Γ = Γ} m w r g d c k =
      record {
        F' = F;
        ρ' = ρ;
        origin' = origin;
        out = out;
        rest = rest;
        values = values;
        move = m;
        output = w;
        renamed = r;
        agree = g;
        made = d;
        carries = c;
        kept = k;
        grows = λ k y f. f;
        stays = λ k y x. refl;
        grown = grown_same Γ origin;
      }

  -- a move inside a frame, which makes no names itself
  framed :
      {F : Kind → ℕ → Bool} {ρ origin : Renaming} {p : Proc L} {s : List ℤ} {Γ Γ' : Environment L} {O : Output} {S' : ℕ → ℤ}
      {E' : ℕ → Bool} {P' P'' : Proc L} (frame : Proc L → Proc L) (u : Moved F ρ origin p s Γ O Γ' S' E' P') →
      inplace.Move s (frame p) u.out (frame u.rest) u.values → Renamed u.ρ' (frame u.rest) P'' →
      ((k : Kind) (y : ℕ) → Free k y (frame u.rest) → u.F' k y ≡ true) → Carries (frame u.rest) →
      Kept (frame p) (frame u.rest) → ((k : Kind) (y : ℕ) → Declared k y p → Declared k y (frame p)) →
      Moved F ρ origin (frame p) s Γ O Γ' S' E' P''
  framed frame u m r d c k h =
      record {
        F' = u.F';
        ρ' = u.ρ';
        origin' = u.origin';
        out = u.out;
        rest = frame u.rest;
        values = u.values;
        move = m;
        output = u.output;
        renamed = r;
        agree = u.agree;
        made = d;
        carries = c;
        kept = k;
        grows = u.grows;
        stays = λ k y n. u.stays k y (λ z. n (h k y z));
        grown = u.grown;
      }

  -- the move of a process `whole` that declares x, for which the report takes w, and leaves its body
  declaring :
      {F : Kind → ℕ → Bool} {ρ origin : Renaming} {whole p P P' : Proc L} {s values : List ℤ} {Γ : Environment L}
      {S' : ℕ → ℤ} {E' : ℕ → Bool} (k : Kind) (x z w : ℕ) (δ : L) →
      inplace.Move s whole silent p values → Γ k w ≡ none → CapturesNone ρ k x z p → Renamed (put ρ k x z) p P →
      Substituted k z w P P' →
      Agree names n (put F k x true) (put ρ k x w) (put origin k w x) values (put Γ k w (some δ)) S' E' →
      ((j : Kind) (y : ℕ) → Free j y whole → F j y ≡ true) →
      ((j : Kind) (y : ℕ) → (same k x j y ≡ false) × Free j y p → Free j y whole) →
      ((j : Kind) (y : ℕ) → (same k x j y ≡ true) ⊎ Declared j y p → Declared j y whole) → Clean p → Carries p →
      Moved F ρ origin whole s Γ silent (put Γ k w (some δ)) S' E' P'
  declaring {F} {ρ} {origin} {p = p} {values = values} {Γ = Γ} k x z w δ m u cl d sb g f outer decl c l =
      record {
        F' = put F k x true;
        ρ' = put ρ k x w;
        origin' = put origin k w x;
        out = silent;
        rest = p;
        values = values;
        move = m;
        output = no_output;
        renamed = same_ren (ren_then d sb) _ (λ j y i. under_twice ρ (λ j u. u) k x z w j y (cl j y i));
        agree = g;
        made = λ j y i. by_cases (λ b. b ≡ true) (same k x j y) (λ h. refl) (λ h. f j y (outer j y (h, i)));
        carries = l;
        kept = record {
          decl = λ j y i. decl j y (inr i);
          free = λ j y i. ⊎_elim (λ h. inr (decl j y (inl h))) (λ h. inl (outer j y (h, i))) (either (same k x j y));
          clean = c;
        };
        grows = λ j y i. put_true F k x j y i;
        stays = λ j y n. by_cases (λ b. b ≡ ρ j y) (same k x j y) (λ h. absurd (n (decl j y (inl h)))) (λ h. refl);
        grown = grown_put Γ origin k w x δ u;
      }

  value_there :
      {F : Kind → ℕ → Bool} {ρ origin : Renaming} {s : List ℤ} {Γ : Environment L} {S : ℕ → ℤ} {E : ℕ → Bool}
      (e e' : Exp) →
      Agree names n F ρ origin s Γ S E → e' ≡ renamed_in (ρ var) e → ((x : ℕ) → Occurs x e → F var x ≡ true) →
      value e s ≡ evaluate e' S
  unfolding value
  value_there {ρ = ρ} {s = s} {S = S} e e' g q h =
      evaluate_renamed (ρ var) e (held s) S (λ x o. g.store x (h x o)) ∙ ap (λ z. evaluate z S) (sym q)

  pub back :
      {F : Kind → ℕ → Bool} {ρ origin : Renaming} {s : List ℤ} {Γ : Environment L} {S : ℕ → ℤ} {E : ℕ → Bool}
      {P P' p : Proc L} {Γ' : Environment L} {S' : ℕ → ℤ} {E' : ℕ → Bool} {O : Output} →
      Move Γ S E P O Γ' S' E' P' → Renamed ρ p P → Agree names n F ρ origin s Γ S E →
      ((k : Kind) (y : ℕ) → Free k y p → F k y ≡ true) → Clean p → Carries p → Moved F ρ origin p s Γ O Γ' S' E' P'
  back {s = s} ASSIGN-OP (r_assign {x = x} {x' = x'} {e = e} {e' = e'} q q') g m c l =
      let v = value_there e e' g q' (λ y o. m var y (inr (refl, o))) in
      let h = m var x (inl (same_self var x)) in
      plain {rest = nil} inplace.ASSIGN-OP (an_assignment h q v) r_nil (agree_assign g x x' _ _ h q v)
      (λ k y. absurd) tt (kept_nil _)
  back SEQ-OP₁ (r_sequence r_nil d) g m c l =
      plain inplace.SEQ-OP₁ no_output d g (λ k y f. m k y (inr f)) l.1
      (record { decl = λ k y z. inr z; free = λ k y f. inl (inr f); clean = c.2 })
  back (SEQ-OP₂ f) (r_sequence {q = q} d d') g m c l =
      let u = back f d g (λ k y z. m k y (inl z)) c.1 l.0 in
      framed (λ z. sequence z q) u (inplace.SEQ-OP₂ u.move)
      (r_sequence u.renamed (same_ren d' u.ρ' (λ k y z. sym (u.stays k y (λ w. c.0 k y w z)))))
      (λ k y. ⊎_elim (λ z. u.made k y z) (λ z. u.grows k y (m k y (inr z))))
      (u.carries, l.1) (kept_sequence q c u.kept) (λ k y z. inl z)
  back (LET-OP {x' = w} fresh sb) (r_let {x = x} {z = z} {δ = δ} {e = e} {e' = e'} q cl d) g m c l =
      let v = value_there e e' g q (λ y o. m var y (inl (refl, o))) in
      declaring var x z w δ inplace.LET-OP fresh cl d sb
      (agree_let g x w δ _ _ fresh l.0.level l.0.kinded l.0.within v)
      m (λ k y f. inr f) (λ k y z. z) c l.1
  back (COND-OP₁ h) (r_if {e = e} {e' = e'} q d d') g m c l =
      let v = value_there e e' g q (λ y o. m var y (inl (refl, o))) in
      plain (inplace.COND-OP₁ (ap holds v ∙ h)) no_output d g (λ k y f. m k y (inr (inl f))) l.0
      (record { decl = λ k y z. inl z; free = λ k y f. inl (inr (inl f)); clean = c.0 })
  back (COND-OP₂ h) (r_if {e = e} {e' = e'} q d d') g m c l =
      let v = value_there e e' g q (λ y o. m var y (inl (refl, o))) in
      plain (inplace.COND-OP₂ (ap holds v ∙ h)) no_output d' g (λ k y f. m k y (inr (inr f))) l.1
      (record { decl = λ k y z. inr z; free = λ k y f. inl (inr (inr f)); clean = c.1 })
  back (WHILE-OP₁ h) (r_while {e = e} {e' = e'} {p = p} q d) g m c l =
      let v = value_there e e' g q (λ y o. m var y (inl (refl, o))) in
      plain {rest = sequence p (while e p)} (inplace.WHILE-OP₁ (ap holds v ∙ h)) no_output (r_sequence d (r_while q d)) g
      (λ k y. ⊎_elim (λ f. m k y (inr f)) (λ f. m k y f))
      (l, l)
      (record {
        decl = λ k y. ⊎_elim (λ z. z) (λ z. z);
        free = λ k y. ⊎_elim (λ f. inl (inr f)) (λ f. inl f);
        clean = (c.0, c.1, c);
      })
  back (WHILE-OP₂ h) (r_while {e = e} {e' = e'} q d) g m c l =
      let v = value_there e e' g q (λ y o. m var y (inl (refl, o))) in
      plain {rest = nil} (inplace.WHILE-OP₂ (ap holds v ∙ h)) no_output r_nil g (λ k y. absurd) tt (kept_nil _)
  back EMIT-OP (r_emit {a = a} {a' = a'} q) g m c l =
      let h = m sig a (same_self sig a) in
      plain {rest = nil} inplace.EMIT-OP (an_emission h q) r_nil (agree_emit g a a' h q) (λ k y. absurd) tt (kept_nil _)
  back (LOCAL-OP {a' = w} fresh sb) (r_local {a = x} {z = z} {δ = δ} cl d) g m c l =
      declaring sig x z w δ inplace.LOCAL-OP fresh cl d sb
      (agree_local g x w δ fresh l.0.level l.0.kinded l.0.within)
      m (λ k y f. f) (λ k y z. z) c l.1
  back WATCH-OP₁ (r_watching q r_nil) g m c l =
      plain {rest = nil} inplace.WATCH-OP₁ no_output r_nil g (λ k y. absurd) tt (kept_nil _)
  back (WATCH-OP₂ f) (r_watching {a = a} q d) g m c l =
      let u = back f d g (λ k y z. m k y (inr z)) c.1 l in
      framed (watching a) u (inplace.WATCH-OP₂ u.move) (r_watching (q ∙ sym (u.stays sig a c.0)) u.renamed)
      (λ k y. ⊎_elim (λ z. u.grows k y (m k y (inl z))) (λ z. u.made k y z))
      u.carries (kept_watching a c u.kept) (λ k y z. z)
  back {E = E} (WHEN-OP₁ h) (r_when {a = a} q r_nil) g m c l =
      plain {rest = nil} (inplace.WHEN-OP₁
      (g.signals a (m sig a (inl (same_self sig a))) ∙ ap E (sym q) ∙ h)) no_output r_nil g
      (λ k y. absurd) tt (kept_nil _)
  back {E = E} (WHEN-OP₂ h f) (r_when {a = a} q d) g m c l =
      let u = back f d g (λ k y z. m k y (inr z)) c.1 l in
      framed (when a) u (inplace.WHEN-OP₂ (g.signals a (m sig a (inl (same_self sig a))) ∙ ap E (sym q) ∙ h) u.move)
      (r_when (q ∙ sym (u.stays sig a c.0)) u.renamed)
      (λ k y. ⊎_elim (λ z. u.grows k y (m k y (inl z))) (λ z. u.made k y z))
      u.carries (kept_when a c u.kept) (λ k y z. z)
  back PAR-OP₁ (r_parallel r_nil d) g m c l =
      plain inplace.PAR-OP₁ no_output d g (λ k y f. m k y (inr f)) l.1
      (record { decl = λ k y z. inr z; free = λ k y f. inl (inr f); clean = c.4 })
  back (PAR-OP₂ f) (r_parallel {q = q} d d') g m c l =
      let u = back f d g (λ k y z. m k y (inl z)) c.3 l.0 in
      framed (λ z. parallel z q) u (inplace.PAR-OP₂ u.move)
      (r_parallel u.renamed (same_ren d' u.ρ' (λ k y z. sym (u.stays k y (λ w. c.1 k y w z)))))
      (λ k y. ⊎_elim (λ z. u.made k y z) (λ z. u.grows k y (m k y (inr z))))
      (u.carries, l.1) (kept_parallel q c u.kept) (λ k y z. inl z)
  back {s = s} {E = E} (PAR-OP₃ f n) (r_parallel {p = p} {q = q} d d') g m c l =
      plain
      {rest = parallel q p}
      (inplace.PAR-OP₃
      (suspended_back (present s) E f d (λ a z. g.signals a (m sig a (inl z))))
      (λ w. n (suspended_forth (present s) E d' (λ a z. g.signals a (m sig a (inr z))) w)))
      no_output
      (r_parallel d' d)
      g
      (λ k y. ⊎_elim (λ z. m k y (inr z)) (λ z. m k y (inl z)))
      (l.1, l.0)
      (record {
        decl = λ k y. ⊎_elim inr inl;
        free = λ k y. ⊎_elim (λ z. inl (inr z)) (λ z. inl (inl z));
        clean = (λ k y z z'. c.0 k y z' z, c.2, c.1, c.4, c.3);
      })
