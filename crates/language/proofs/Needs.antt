-- The test `needs` as a statement about each part.
use mathlib.Core.Path.{◌≡◌}
use mathlib.Core.Bool.{true, ◌&&◌}
use Rattle.prelude.proofs.Bools.{and_intro, and_left, and_right}
use Rattle.lattice.specs.Lattice.{Lattice}
use Rattle.language.specs.Syntax.{Names, Proc, nil, assign, let_in, if_then_else, while, sequence, emit, local, watching, when, parallel}
use Rattle.language.specs.Typing.{Below}
use Rattle.language.specs.Levels.{write_level, test_level, need, needs}

module _ {L : Type 0} (𝓛 : Lattice L) (names : Names L) where
  abbrev Own : Proc L → Type 0
  Own p = need 𝓛 names p ≡ true

  abbrev pub Needs : Proc L → Type 0
  Needs nil = Own nil
  Needs (assign x e) = Own (assign x e)
  Needs (let_in x δ e p) = Own (let_in x δ e p) × Needs p
  Needs (if_then_else e p q) = Own (if_then_else e p q) × Needs p × Needs q
  Needs (while e p) = Own (while e p) × Needs p
  Needs (sequence p q) = Own (sequence p q) × Needs p × Needs q
  Needs (emit a) = Own (emit a)
  Needs (local a δ p) = Own (local a δ p) × Needs p
  Needs (watching a p) = Own (watching a p) × Needs p
  Needs (when a p) = Own (when a p) × Needs p
  Needs (parallel p q) = Own (parallel p q) × Needs p × Needs q

  one :
      (p q : Proc L) → (need 𝓛 names p && needs 𝓛 names q) ≡ true → (needs 𝓛 names q ≡ true → Needs q) →
      Own p × Needs q
  one p q h f = (and_left (need 𝓛 names p) (needs 𝓛 names q) h, f (and_right (need 𝓛 names p) (needs 𝓛 names q) h))

  two :
      (p q r : Proc L) → (need 𝓛 names p && (needs 𝓛 names q && needs 𝓛 names r)) ≡ true →
      (needs 𝓛 names q ≡ true → Needs q) → (needs 𝓛 names r ≡ true → Needs r) → Own p × Needs q × Needs r
  two p q r h f g =
      let parts = and_right (need 𝓛 names p) (needs 𝓛 names q && needs 𝓛 names r) h in (
        and_left (need 𝓛 names p) (needs 𝓛 names q && needs 𝓛 names r) h,
        f (and_left (needs 𝓛 names q) (needs 𝓛 names r) parts),
        g (and_right (needs 𝓛 names q) (needs 𝓛 names r) parts),
      )

  pub needs_hold : (p : Proc L) → needs 𝓛 names p ≡ true → Needs p
  unfolding needs
  needs_hold nil h = h
  needs_hold (assign x e) h = h
  needs_hold (let_in x δ e p) h = one (let_in x δ e p) p h (needs_hold p)
  needs_hold (if_then_else e p q) h = two (if_then_else e p q) p q h (needs_hold p) (needs_hold q)
  needs_hold (while e p) h = one (while e p) p h (needs_hold p)
  needs_hold (sequence p q) h = two (sequence p q) p q h (needs_hold p) (needs_hold q)
  needs_hold (emit a) h = h
  needs_hold (local a δ p) h = one (local a δ p) p h (needs_hold p)
  needs_hold (watching a p) h = one (watching a p) p h (needs_hold p)
  needs_hold (when a p) h = one (when a p) p h (needs_hold p)
  needs_hold (parallel p q) h = two (parallel p q) p q h (needs_hold p) (needs_hold q)

  -- the two needs of a parallel
  pub parallel_needs :
      (p q : Proc L) → Own (parallel p q) →
      Below 𝓛 (test_level 𝓛 names p) (write_level 𝓛 names q) × Below 𝓛 (test_level 𝓛 names q) (write_level 𝓛 names p)
  unfolding need
  parallel_needs p q h =
      let first = 𝓛.leq (test_level 𝓛 names p) (write_level 𝓛 names q) in
      let second = 𝓛.leq (test_level 𝓛 names q) (write_level 𝓛 names p) in
      (and_left first second h, and_right first second h)

  pub hold_needs : (p : Proc L) → Needs p → needs 𝓛 names p ≡ true
  unfolding needs
  hold_needs nil h = h
  hold_needs (assign x e) h = h
  hold_needs (let_in x δ e p) h = and_intro _ _ h.0 (hold_needs p h.1)
  hold_needs (if_then_else e p q) h = and_intro _ _ h.0 (and_intro _ _ (hold_needs p h.1) (hold_needs q h.2))
  hold_needs (while e p) h = and_intro _ _ h.0 (hold_needs p h.1)
  hold_needs (sequence p q) h = and_intro _ _ h.0 (and_intro _ _ (hold_needs p h.1) (hold_needs q h.2))
  hold_needs (emit a) h = h
  hold_needs (local a δ p) h = and_intro _ _ h.0 (hold_needs p h.1)
  hold_needs (watching a p) h = and_intro _ _ h.0 (hold_needs p h.1)
  hold_needs (when a p) h = and_intro _ _ h.0 (hold_needs p h.1)
  hold_needs (parallel p q) h = and_intro _ _ h.0 (and_intro _ _ (hold_needs p h.1) (hold_needs q h.2))
