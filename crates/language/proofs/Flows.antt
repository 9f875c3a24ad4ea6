-- Where the needs hold, a process is safe for every reader.
use Prim.Native.Nat.{ℕ}
use mathlib.Core.Path.{◌≡◌, refl, sym, ◌∙◌}
use mathlib.Core.Bool.{Bool, true, false, true≢false}
use mathlib.Core.Logic.{◌⊎◌, inl, inr}
use Rattle.prelude.proofs.Bools.{fails}
use Rattle.lattice.specs.Lattice.{Lattice, Laws}
use Rattle.language.specs.Syntax.{Names, Proc, nil, assign, let_in, if_then_else, while, sequence, emit, local, watching, when, parallel}
use Rattle.language.specs.Scope.{Scoped}
use Rattle.language.specs.Levels.{exp_level, write_level, test_level, need}
use Rattle.language.specs.Calls.{readable}
use Rattle.language.specs.Typing.{Below}
use Rattle.language.proofs.Orders.{via}
use Rattle.language.proofs.Needs.{Needs, parallel_needs}
use Rattle.language.proofs.Typing.{reads_below}
use Rattle.language.proofs.Safe.{LowTests, Quiet, Safe}

module _ {L : Type 0} (𝓛 : Lattice L) (laws : Laws 𝓛) (names : Names L) (reader : L) where
  abbrev low : ℕ → Bool
  low = readable 𝓛 names reader

  abbrev W : Proc L → L
  W = write_level 𝓛 names

  abbrev T : Proc L → L
  T = test_level 𝓛 names

  -- what stands above a level that the reader may not see is not seen either
  above : {a b : L} → Below 𝓛 a b → 𝓛.leq a reader ≡ false → 𝓛.leq b reader ≡ false
  above {a} {b} h n = fails (𝓛.leq b reader) (λ e. true≢false (sym (via 𝓛 laws h e) ∙ n))

  above_left : {a b : L} → 𝓛.leq (𝓛.meet a b) reader ≡ false → 𝓛.leq a reader ≡ false
  above_left h = above (laws.meet_left _ _) h

  above_right : {a b : L} → 𝓛.leq (𝓛.meet a b) reader ≡ false → 𝓛.leq b reader ≡ false
  above_right h = above (laws.meet_right _ _) h

  -- a process whose write level is not at or below the reader's is quiet
  quiet_of : (p : Proc L) (scope : ℕ → Bool) → Scoped names scope p → 𝓛.leq (W p) reader ≡ false → Quiet names low p
  unfolding write_level
  quiet_of nil scope u h = tt
  quiet_of (assign x e) scope u h = h
  quiet_of (let_in x δ e p) scope u h = (u.0.owned, quiet_of p _ u.2 h)
  quiet_of (if_then_else e p q) scope u h =
      (λ x o. tt, quiet_of p scope u.1 (above_left h), quiet_of q scope u.2 (above_right h))
  quiet_of (while e p) scope u h = (λ x o. tt, quiet_of p scope u.1 h)
  quiet_of (sequence p q) scope u h =
      (quiet_of p scope u.0 (above_left h), quiet_of q scope u.1 (above_right h))
  quiet_of (emit a) scope u h = h
  quiet_of (local a δ p) scope u h = (u.0.owned, quiet_of p _ u.1 h)
  quiet_of (watching a p) scope u h = (tt, quiet_of p scope u.1 h)
  quiet_of (when a p) scope u h = (tt, quiet_of p scope u.1 h)
  quiet_of (parallel p q) scope u h =
      (quiet_of p scope u.0 (above_left h), quiet_of q scope u.1 (above_right h))

  left_of : {a b c : L} → Below 𝓛 (𝓛.join a b) c → Below 𝓛 a c
  left_of h = via 𝓛 laws (laws.join_left _ _) h

  right_of : {a b c : L} → Below 𝓛 (𝓛.join a b) c → Below 𝓛 b c
  right_of h = via 𝓛 laws (laws.join_right _ _) h

  -- a process whose test level is at or below the reader's tests low names alone
  tests_of_lem : (p : Proc L) → Below 𝓛 (T p) reader → LowTests names low p
  unfolding test_level
  tests_of_lem nil h = tt
  tests_of_lem (assign x e) h = tt
  tests_of_lem (let_in x δ e p) h = (tt, tests_of_lem p h)
  tests_of_lem (if_then_else e p q) h =
      let parts = right_of h in
      (reads_below 𝓛 laws names e reader (left_of h), tests_of_lem p (left_of parts), tests_of_lem q (right_of parts))
  tests_of_lem (while e p) h = (reads_below 𝓛 laws names e reader (left_of h), tests_of_lem p (right_of h))
  tests_of_lem (sequence p q) h = (tests_of_lem p (left_of h), tests_of_lem q (right_of h))
  tests_of_lem (emit a) h = tt
  tests_of_lem (local a δ p) h = (tt, tests_of_lem p h)
  tests_of_lem (watching a p) h = (left_of h, tests_of_lem p (right_of h))
  tests_of_lem (when a p) h = (left_of h, tests_of_lem p (right_of h))
  tests_of_lem (parallel p q) h = (tests_of_lem p (left_of h), tests_of_lem q (right_of h))

  -- what is at or below a process's write level is low, or the process is quiet
  low_or_quiet :
      {X : Type 0} (a : L) (q : Proc L) (scope : ℕ → Bool) → Scoped names scope q → Below 𝓛 a (W q) →
      (Below 𝓛 a reader → X) →
      X ⊎ Quiet names low q
  low_or_quiet {X} a q scope u h f = go (𝓛.leq (W q) reader) (via 𝓛 laws h) (quiet_of q scope u)
    where
      go : (b : Bool) → (b ≡ true → Below 𝓛 a reader) → (b ≡ false → Quiet names low q) → X ⊎ Quiet names low q
      go true t e = inl (f (t refl))
      go false t e = inr (e refl)

  pub safe_of : (p : Proc L) (scope : ℕ → Bool) → Scoped names scope p → Needs 𝓛 names p → Safe names low p
  unfolding need write_level
  safe_of nil scope u h = tt
  safe_of (assign x e) scope u h = λ l. reads_below 𝓛 laws names e reader (via 𝓛 laws h l)
  safe_of (let_in x δ e p) scope u h =
      (λ l. reads_below 𝓛 laws names e reader (via 𝓛 laws h.0 l), safe_of p _ u.2 h.1)
  safe_of (if_then_else e p q) scope u h = (
    low_or_quiet (exp_level 𝓛 names e) (parallel p q) scope (u.1, u.2) h.0 (reads_below 𝓛 laws names e reader),
    safe_of p scope u.1 h.1,
    safe_of q scope u.2 h.2,
  )
  safe_of (while e p) scope u h = (
    low_or_quiet
        (𝓛.join (exp_level 𝓛 names e) (T p))
        p
        scope
        u.1
        h.0
        (λ l. (reads_below 𝓛 laws names e reader (left_of l), tests_of_lem p (right_of l))),
    safe_of p scope u.1 h.1,
  )
  safe_of (sequence p q) scope u h =
      (low_or_quiet _ q scope u.1 h.0 (tests_of_lem p), safe_of p scope u.0 h.1, safe_of q scope u.1 h.2)
  safe_of (emit a) scope u h = tt
  safe_of (local a δ p) scope u h = safe_of p _ u.1 h.1
  safe_of (watching a p) scope u h =
      (low_or_quiet (names.level a) p scope u.1 h.0 (λ l. l), safe_of p scope u.1 h.1)
  safe_of (when a p) scope u h =
      (low_or_quiet (names.level a) p scope u.1 h.0 (λ l. l), safe_of p scope u.1 h.1)
  safe_of (parallel p q) scope u h = (
    low_or_quiet _ q scope u.1 (parallel_needs 𝓛 names p q h.0).0 (tests_of_lem p),
    low_or_quiet _ p scope u.0 (parallel_needs 𝓛 names p q h.0).1 (tests_of_lem q),
    safe_of p scope u.0 h.1,
    safe_of q scope u.1 h.2,
  )
