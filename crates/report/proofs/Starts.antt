-- A script at its start corresponds to itself.
use Prim.Native.Nat.{ℕ, ◌<◌}
use native.Mathlib.Omega.{arith}
use mathlib.Core.Path.{◌≡◌, refl, sym, ap, ap₂, ◌∙◌}
use mathlib.Core.Bool.{Bool, true, false, cond, not, ◌&&◌, ◌||◌, true≢false}
use mathlib.Core.Option.{none, some}
use mathlib.Core.Logic.{inl, inr}
use lib.Dec.{eqb}
use lib.ListN.{length}
use borrow.Author.Tests.{eqb-true}
use Rattle.prelude.proofs.Bools.{by_cases, and_intro, and_left, and_right, or_cases}
use Rattle.language.specs.Syntax.{Names, Exp, constant, register, binary, negated, Proc, nil, assign, let_in, if_then_else, while, sequence, emit, local, watching, when, parallel}
use Rattle.language.specs.NameKinds.{Kind, var, sig, same, put, is_of}
use Rattle.language.specs.Typing.{Environment, environment}
use Rattle.language.specs.Scope.{with_name, ReadsIn, Scoped, Declared}
use Rattle.language.specs.Calls.{System}
use Rattle.language.proofs.NameKinds.{same_kind, same_number, same_self, one_kind}
use Rattle.report.specs.Names.{OccursIn, Free, renamed_in, Renamed, r_nil, r_assign, r_let, r_if, r_while, r_sequence, r_emit, r_local, r_watching, r_when, r_parallel}
use Rattle.report.specs.Configurations.{Configuration, Begins, begun}
use Rattle.report.specs.Scope.{Script}
use Rattle.report.proofs.Renames.{same_ren}
use Rattle.report.proofs.Clean.{once_clean}
use Rattle.report.proofs.Matching.{Carries}
use Rattle.report.proofs.Steps.{Joined, Fixed}

-- a process is itself, renamed by nothing
renamed_id : (e : Exp) → e ≡ renamed_in (λ y. y) e
unfolding renamed_in
renamed_id (constant v) = refl
renamed_id (register x) = refl
renamed_id (binary o a b) = ap₂ (binary o) (renamed_id a) (renamed_id b)
renamed_id (negated a) = ap negated (renamed_id a)

put_id : (k : Kind) (x : ℕ) (j : Kind) (y : ℕ) → y ≡ put (λ i u. u) k x x j y
put_id k x j y = by_cases (λ z. y ≡ z) (same k x j y) (λ e. sym (same_number k x j y e)) (λ e. refl)

module _ {L : Type 0} where
  itself : (p : Proc L) → Renamed (λ k y. y) p p
  itself nil = r_nil
  itself (assign x e) = r_assign refl (renamed_id e)
  itself (let_in x δ e p) = r_let (renamed_id e) (λ k y f h. h) (same_ren (itself p) _ (λ k y f. put_id var x k y))
  itself (if_then_else e p q) = r_if (renamed_id e) (itself p) (itself q)
  itself (while e p) = r_while (renamed_id e) (itself p)
  itself (sequence p q) = r_sequence (itself p) (itself q)
  itself (emit a) = r_emit refl
  itself (local a δ p) = r_local (λ k y f h. h) (same_ren (itself p) _ (λ k y f. put_id sig a k y))
  itself (watching a p) = r_watching refl (itself p)
  itself (when a p) = r_when refl (itself p)
  itself (parallel p q) = r_parallel (itself p) (itself q)

module _ {L : Type 0} (names : Names L) where
  -- k y is in the scope, and of its kind
  abbrev In : (ℕ → Bool) → Kind → ℕ → Type 0
  In scope k y = (scope y && is_of k (names.is_signal y)) ≡ true

  in_scope : (scope : ℕ → Bool) (j : Kind) (x : ℕ) (k : Kind) (y : ℕ) → scope x ≡ true → is_of j
      (names.is_signal x) ≡ true → same j x k y ≡ true → In scope k y
  in_scope scope j x k y s o h =
      rw (← same_kind j x k y h, ← same_number j x k y h) (and_intro _ _ s o)

  reads_scope : (scope : ℕ → Bool) (e : Exp) (k : Kind) (y : ℕ) → ReadsIn names scope e → OccursIn k y e → In scope k y
  reads_scope scope e k y r o =
      rw o.0 (and_intro _ _ (r y o.1).0 (ap not (r y o.1).1))

  -- a name that is free in the body of a declaration, and is not the declared one, is in the scope outside
  outside :
      (scope : ℕ → Bool) (j : Kind) (x : ℕ) (k : Kind) (y : ℕ) → is_of j (names.is_signal x) ≡ true →
      same j x k y ≡ false →
      In (with_name scope x) k y → In scope k y
  outside scope j x k y o n i =
      let kind : is_of k (names.is_signal y) ≡ true = and_right (eqb x y || scope y) _ i in
      and_intro (scope y) _
      (or_cases (eqb x y) (scope y) (and_left (eqb x y || scope y) (is_of k (names.is_signal y)) i)
      (λ e. absurd (clash (eqb-true x y e) kind))
      (λ s. s))
      kind
    where
      clash : x ≡ y → is_of k (names.is_signal y) ≡ true → ⊥
      clash e i' =
          let o' : is_of j (names.is_signal y) ≡ true = rw (← e) o in
          let z : j ≡ k = one_kind j k (names.is_signal y) o' i' in
          true≢false (sym (rw (z, e) (same_self k y)) ∙ n)

  free_scoped : (p : Proc L) (scope : ℕ → Bool) → Scoped names scope p → (k : Kind) (y : ℕ) → Free k y p → In scope k y
  free_scoped nil scope u k y h = elim h [ ]
  free_scoped (assign x e) scope u k y (inl h) = in_scope scope var x k y u.0.0 (ap not u.0.1) h
  free_scoped (assign x e) scope u k y (inr r) = reads_scope scope e k y u.1 r
  free_scoped (let_in x δ e p) scope u k y (inl r) = reads_scope scope e k y u.1 r
  free_scoped (let_in x δ e p) scope u k y (inr f) =
      outside scope var x k y (ap not u.0.kinded) f.0 (free_scoped p (with_name scope x) u.2 k y f.1)
  free_scoped (if_then_else e p q) scope u k y (inl r) = reads_scope scope e k y u.0 r
  free_scoped (if_then_else e p q) scope u k y (inr (inl f)) = free_scoped p scope u.1 k y f
  free_scoped (if_then_else e p q) scope u k y (inr (inr f)) = free_scoped q scope u.2 k y f
  free_scoped (while e p) scope u k y (inl r) = reads_scope scope e k y u.0 r
  free_scoped (while e p) scope u k y (inr f) = free_scoped p scope u.1 k y f
  free_scoped (sequence p q) scope u k y (inl f) = free_scoped p scope u.0 k y f
  free_scoped (sequence p q) scope u k y (inr f) = free_scoped q scope u.1 k y f
  free_scoped (emit a) scope u k y h = in_scope scope sig a k y u.0 u.1 h
  free_scoped (local a δ p) scope u k y f =
      outside scope sig a k y u.0.kinded f.0 (free_scoped p (with_name scope a) u.1 k y f.1)
  free_scoped (watching a p) scope u k y (inl h) = in_scope scope sig a k y u.0.0 u.0.1 h
  free_scoped (watching a p) scope u k y (inr f) = free_scoped p scope u.1 k y f
  free_scoped (when a p) scope u k y (inl h) = in_scope scope sig a k y u.0.0 u.0.1 h
  free_scoped (when a p) scope u k y (inr f) = free_scoped p scope u.1 k y f
  free_scoped (parallel p q) scope u k y (inl f) = free_scoped p scope u.0 k y f
  free_scoped (parallel p q) scope u k y (inr f) = free_scoped q scope u.1 k y f

  owned : (j : Kind) (x : ℕ) (k : Kind) (y : ℕ) → names.is_session x ≡ false → same j x k y ≡ true →
      names.is_session y ≡ false
  owned j x k y o h = rw (← same_number j x k y h) o

  -- what is declared is no session name
  declared_owned : (p : Proc L) (scope : ℕ → Bool) → Scoped names scope p → (k : Kind) (y : ℕ) → Declared k y p →
      names.is_session y ≡ false
  declared_owned nil scope u k y d = elim d [ ]
  declared_owned (assign x e) scope u k y d = elim d [ ]
  declared_owned (emit a) scope u k y d = elim d [ ]
  declared_owned (let_in x δ e p) scope u k y (inl h) = owned var x k y u.0.owned h
  declared_owned (let_in x δ e p) scope u k y (inr d) = declared_owned p (with_name scope x) u.2 k y d
  declared_owned (if_then_else e p q) scope u k y (inl d) = declared_owned p scope u.1 k y d
  declared_owned (if_then_else e p q) scope u k y (inr d) = declared_owned q scope u.2 k y d
  declared_owned (while e p) scope u k y d = declared_owned p scope u.1 k y d
  declared_owned (sequence p q) scope u k y (inl d) = declared_owned p scope u.0 k y d
  declared_owned (sequence p q) scope u k y (inr d) = declared_owned q scope u.1 k y d
  declared_owned (local a δ p) scope u k y (inl h) = owned sig a k y u.0.owned h
  declared_owned (local a δ p) scope u k y (inr d) = declared_owned p (with_name scope a) u.1 k y d
  declared_owned (watching a p) scope u k y d = declared_owned p scope u.1 k y d
  declared_owned (when a p) scope u k y d = declared_owned p scope u.1 k y d
  declared_owned (parallel p q) scope u k y (inl d) = declared_owned p scope u.0 k y d
  declared_owned (parallel p q) scope u k y (inr d) = declared_owned q scope u.1 k y d

  module _ (n : ℕ) where
    -- every declaration carries its name's level
    carries : (p : Proc L) (scope : ℕ → Bool) → Scoped names scope p → ((k : Kind) (y : ℕ) → Declared k y p → y < n) →
        Carries names n p
    carries nil scope u b = tt
    carries (assign x e) scope u b = tt
    carries (let_in x δ e p) scope u b = (
      record { level = u.0.carried; kinded = ap not u.0.kinded; within = b var x (inl (same_self var x)) },
      carries p (with_name scope x) u.2 (λ k y d. b k y (inr d)),
    )
    carries (if_then_else e p q) scope u b =
        (carries p scope u.1 (λ k y d. b k y (inl d)), carries q scope u.2 (λ k y d. b k y (inr d)))
    carries (while e p) scope u b = carries p scope u.1 b
    carries (sequence p q) scope u b =
        (carries p scope u.0 (λ k y d. b k y (inl d)), carries q scope u.1 (λ k y d. b k y (inr d)))
    carries (emit a) scope u b = tt
    carries (local a δ p) scope u b = (
      record { level = u.0.carried; kinded = u.0.kinded; within = b sig a (inl (same_self sig a)) },
      carries p (with_name scope a) u.1 (λ k y d. b k y (inr d)),
    )
    carries (watching a p) scope u b = carries p scope u.1 b
    carries (when a p) scope u b = carries p scope u.1 b
    carries (parallel p q) scope u b =
        (carries p scope u.0 (λ k y d. b k y (inl d)), carries q scope u.1 (λ k y d. b k y (inr d)))

module _
    {L : Type 0} {names : Names L} {scope : ℕ → Bool} {n : ℕ} {at : System L} {C : Configuration L}
    (script : Script names scope n at.process) (size : length at.values ≡ n)
    (begins : Begins (environment names scope) at C)
  where
    abbrev Γ : Environment L
    Γ = environment names scope

    -- the names that the report has at the start: the session's
    abbrev pub F₀ : Kind → ℕ → Bool
    F₀ k x = scope x && is_of k (names.is_signal x)

    has : (k : Kind) (x : ℕ) → F₀ k x ≡ true → Γ k x ≡ some (names.level x)
    has k x h = rw h

    only : (k : Kind) (x : ℕ) (δ : L) → Γ k x ≡ some δ → F₀ k x ≡ true
    only k x δ = go (F₀ k x)
      where
        go : (b : Bool) → cond b (some (names.level x)) none ≡ some δ → b ≡ true
        go true e = refl
        go false e = let z : ◌≡◌ {A = ℕ} 0 1 = cc in absurd (omega arith)

    -- no session name is declared
    undeclared : (k : Kind) (x : ℕ) → Declared k x at.process → F₀ k x ≡ true → ⊥
    undeclared k x d f =
        true≢false
        (sym (script.sessions x (and_left _ _ f)).0 ∙ declared_owned names at.process scope script.scoped k x d)

    free : (k : Kind) (y : ℕ) → Free k y at.process → F₀ k y ≡ true
    free = free_scoped names at.process scope script.scoped

    pub start_joined : Joined names n F₀ (λ k y. y) (λ k y. y) at C
    start_joined =
        record {
          tied =
              record {
                renamed = rw begins.process (itself at.process);
                agree =
                    record {
                      size = size;
                      within = λ k x f. (script.sessions x (and_left _ _ f)).1;
                      kinded = λ k x f. and_right (scope x) _ f;
                      back = λ k x f. refl;
                      dom = λ k x f. rw begins.environment (has k x f);
                      store = λ x f. sym (begins.store x _ (has var x f));
                      signals = λ a f. sym (begins.signals a _ (has sig a f));
                      absent = λ a u. begins.absent a (rw begins.environment at u);
                    };
                made = free;
                clean = once_clean at.process script.once (λ k y d f. undeclared k y d (free k y f));
                carries = carries names n at.process scope script.scoped script.declared;
              };
          steps = begins.steps;
          instants = begins.instants;
        }

    pub start_fixed : Fixed names n Γ F₀ (λ k y. y) at
    start_fixed =
        record {
          made = only;
          kept = λ k x δ h. refl;
          free = λ k x δ d h. undeclared k x d (only k x δ h);
        }

-- a configuration to begin with
pub begun_begins : {L : Type 0} (Γ : Environment L) (at : System L) → Begins Γ at (begun Γ at)
begun_begins Γ at =
    record {
      environment = refl;
      store = λ x δ h. refl;
      signals = λ a δ h. rw h;
      absent = λ a h. rw h;
      process = refl;
      steps = refl;
      instants = refl;
    }
