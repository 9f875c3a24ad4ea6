-- Suspension and instant changes of a process and of the process that a renaming makes of it.
use Prim.Native.Nat.{ℕ}
use mathlib.Core.Path.{◌≡◌, sym, ap, ◌∙◌}
use mathlib.Core.Bool.{Bool}
use mathlib.Core.Logic.{inl, inr, ⊎_elim}
use Rattle.language.specs.Syntax.{Proc, nil, sequence, watching, when, parallel}
use Rattle.language.specs.NameKinds.{Kind, sig}
use Rattle.language.proofs.NameKinds.{same_self}
use Rattle.report.specs.Names.{Free, Renaming, Renamed, r_nil, r_assign, r_let, r_if, r_while, r_sequence, r_emit, r_local, r_watching, r_when, r_parallel}
use Rattle.language.specs.Suspension.{Suspended, WHEN-SUS₁, WHEN-SUS₂, WATCH-SUS, SEQ-SUS, PAR-SUS}
use Rattle.language.specs.Instants.{Changed, WATCH-PRESENT, WATCH-ABSENT, WHEN-PRESENT, WHEN-ABSENT, SEQ-CHANGED, PAR-CHANGED}
use Rattle.report.proofs.Clean.{Clean, Kept, kept_sequence, kept_watching, kept_when, kept_nil, kept_same, kept_both}

module _ {L : Type 0} (D E : ℕ → Bool) where
  -- D and E have the same of the signals that are free in p
  abbrev pub Signals : Renaming → Proc L → Type 0
  Signals ρ p = (a : ℕ) → Free sig a p → D a ≡ E (ρ sig a)

  pub suspended_back : {ρ : Renaming} {P p : Proc L} → Suspended E P → Renamed ρ p P → Signals ρ p → Suspended D p
  suspended_back (WHEN-SUS₁ e) (r_when {a = a} q d) o = WHEN-SUS₁ (o a (inl (same_self sig a)) ∙ ap E (sym q) ∙ e)
  suspended_back (WHEN-SUS₂ f) (r_when q d) o = WHEN-SUS₂ (suspended_back f d (λ b g. o b (inr g)))
  suspended_back (WATCH-SUS f) (r_watching q d) o = WATCH-SUS (suspended_back f d (λ b g. o b (inr g)))
  suspended_back (SEQ-SUS f) (r_sequence d d') o = SEQ-SUS (suspended_back f d (λ b g. o b (inl g)))
  suspended_back (PAR-SUS f f') (r_parallel d d') o =
      PAR-SUS (suspended_back f d (λ b g. o b (inl g))) (suspended_back f' d' (λ b g. o b (inr g)))

  pub suspended_forth : {ρ : Renaming} {p P : Proc L} → Renamed ρ p P → Signals ρ p → Suspended D p →
      Suspended E P
  suspended_forth r_nil o f = elim f [ ]
  suspended_forth (r_assign q q') o f = elim f [ ]
  suspended_forth (r_let q c d) o f = elim f [ ]
  suspended_forth (r_if q d d') o f = elim f [ ]
  suspended_forth (r_while q d) o f = elim f [ ]
  suspended_forth (r_emit q) o f = elim f [ ]
  suspended_forth (r_local c d) o f = elim f [ ]
  suspended_forth (r_when {a = a} q d) o (WHEN-SUS₁ e) = WHEN-SUS₁
      (ap E q ∙ sym (o a (inl (same_self sig a))) ∙ e)
  suspended_forth (r_when q d) o (WHEN-SUS₂ f) = WHEN-SUS₂ (suspended_forth d (λ b g. o b (inr g)) f)
  suspended_forth (r_watching q d) o (WATCH-SUS f) = WATCH-SUS (suspended_forth d (λ b g. o b (inr g)) f)
  suspended_forth (r_sequence d d') o (SEQ-SUS f) = SEQ-SUS (suspended_forth d (λ b g. o b (inl g)) f)
  suspended_forth (r_parallel d d') o (PAR-SUS f f') =
      PAR-SUS (suspended_forth d (λ b g. o b (inl g)) f) (suspended_forth d' (λ b g. o b (inr g)) f')

  -- the instant change in place that corresponds to one of the report, to P
  pub record ChangedBack (ρ : Renaming) (p P : Proc L) : Type 0 where
    pub rest : Proc L
    pub change : Changed D p rest
    pub renamed : Renamed ρ rest P
    pub free : (k : Kind) (y : ℕ) → Free k y rest → Free k y p
    pub kept : Kept p rest

  pub changed_back :
      {ρ : Renaming} {P P' p : Proc L} → Changed E P P' → Renamed ρ p P → Signals ρ p → Clean p → ChangedBack ρ p P'
  changed_back (WATCH-PRESENT e) (r_watching {a = a} q d) o c =
      record {
        rest = nil;
        change = WATCH-PRESENT (o a (inl (same_self sig a)) ∙ ap E (sym q) ∙ e);
        renamed = r_nil;
        free = λ k y. absurd;
        kept = kept_nil _;
      }
  changed_back (WATCH-ABSENT e f) (r_watching {a = a} q d) o c =
      let u = changed_back f d (λ b g. o b (inr g)) c.1 in
      record {
        rest = watching a u.rest;
        change = WATCH-ABSENT (o a (inl (same_self sig a)) ∙ ap E (sym q) ∙ e) u.change;
        renamed = r_watching q u.renamed;
        free = λ k y. ⊎_elim inl (λ g. inr (u.free k y g));
        kept = kept_watching a c u.kept;
      }
  changed_back (WHEN-PRESENT e f) (r_when {a = a} q d) o c =
      let u = changed_back f d (λ b g. o b (inr g)) c.1 in
      record {
        rest = when a u.rest;
        change = WHEN-PRESENT (o a (inl (same_self sig a)) ∙ ap E (sym q) ∙ e) u.change;
        renamed = r_when q u.renamed;
        free = λ k y. ⊎_elim inl (λ g. inr (u.free k y g));
        kept = kept_when a c u.kept;
      }
  changed_back (WHEN-ABSENT e) (r_when {a = a} {p = p} q d) o c =
      record {
        rest = when a p;
        change = WHEN-ABSENT (o a (inl (same_self sig a)) ∙ ap E (sym q) ∙ e);
        renamed = r_when q d;
        free = λ k y g. g;
        kept = kept_same _ c;
      }
  changed_back (SEQ-CHANGED f) (r_sequence {q = q} d d') o c =
      let u = changed_back f d (λ b g. o b (inl g)) c.1 in
      record {
        rest = sequence u.rest q;
        change = SEQ-CHANGED u.change;
        renamed = r_sequence u.renamed d';
        free = λ k y. ⊎_elim (λ g. inl (u.free k y g)) inr;
        kept = kept_sequence q c u.kept;
      }
  changed_back (PAR-CHANGED f f') (r_parallel d d') o c =
      let u = changed_back f d (λ b g. o b (inl g)) c.3 in
      let w = changed_back f' d' (λ b g. o b (inr g)) c.4 in
      record {
        rest = parallel u.rest w.rest;
        change = PAR-CHANGED u.change w.change;
        renamed = r_parallel u.renamed w.renamed;
        free = λ k y. ⊎_elim (λ g. inl (u.free k y g)) (λ g. inr (w.free k y g));
        kept = kept_both c u.kept w.kept;
      }
