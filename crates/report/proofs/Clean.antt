-- What the scoping of a script leaves true of every residual: where a part with a declaration may be entered again, or
-- stands beside another part, the declared name is not free outside it.
use Prim.Native.Nat.{ℕ}
use mathlib.Core.Path.{◌≡◌, sym, subst₂}
use mathlib.Core.Bool.{true, false}
use mathlib.Core.Logic.{◌⊎◌, inl, inr, ⊎_elim}
use Rattle.language.specs.Syntax.{Proc, nil, assign, let_in, if_then_else, while, sequence, emit, local, watching, when, parallel}
use Rattle.language.specs.NameKinds.{Kind, var, sig, same}
use Rattle.language.specs.Scope.{Declared, Apart, Once}
use Rattle.language.proofs.NameKinds.{same_kind, same_number, same_self, either}
use Rattle.report.specs.Names.{Free}

decl_l : {X X' Y : Type 0} → (X' → X) → X' ⊎ Y → X ⊎ Y
decl_l f (inl a) = inl (f a)
decl_l f (inr a) = inr a

free_l : {X X' Y Z W : Type 0} → (X' → X ⊎ Z) → X' ⊎ Y → (X ⊎ Y) ⊎ (Z ⊎ W)
free_l f (inl a) = ⊎_elim (λ b. inl (inl b)) (λ b. inr (inl b)) (f a)
free_l f (inr a) = inl (inr a)

free_r : {X X' Y Z : Type 0} → (X' → X ⊎ Z) → Y ⊎ X' → (Y ⊎ X) ⊎ Z
free_r f (inl a) = inl (inl a)
free_r f (inr a) = ⊎_elim (λ b. inl (inr b)) (λ b. inr b) (f a)

module _ {L : Type 0} where
  abbrev pub NotIn : Proc L → Proc L → Type 0
  NotIn p q = (k : Kind) (y : ℕ) → Declared k y p → Free k y q → ⊥

  abbrev pub Clean : Proc L → Type 0
  Clean nil = Unit {0}
  Clean (assign x e) = Unit {0}
  Clean (let_in x l e p) = Clean p
  Clean (if_then_else e p q) = Clean p × Clean q
  Clean (while e p) = NotIn p (while e p) × Clean p
  Clean (sequence p q) = NotIn p q × Clean p × Clean q
  Clean (emit a) = Unit {0}
  Clean (local a l p) = Clean p
  Clean (watching a p) = (Declared sig a p → ⊥) × Clean p
  Clean (when a p) = (Declared sig a p → ⊥) × Clean p
  Clean (parallel p q) = Apart p q × NotIn p q × NotIn q p × Clean p × Clean q

  hit_decl : (kk : Kind) (x : ℕ) (k : Kind) (y : ℕ) (p : Proc L) → same kk x k y ≡ true → Declared k y p → Declared kk x p
  hit_decl kk x k y p h d = subst₂ (λ j u. Declared j u p) (sym (same_kind kk x k y h)) (sym (same_number kk x k y h)) d

  under_notin :
      (kk : Kind) (x : ℕ) (p : Proc L) → (Declared kk x p → ⊥) →
      ((k : Kind) (y : ℕ) → Declared k y p → same kk x k y ≡ false → Free k y p → ⊥) → NotIn p p
  under_notin kk x p n h k y d f = go (either (same kk x k y))
    where
      go : (same kk x k y ≡ true) ⊎ (same kk x k y ≡ false) → ⊥
      go (inl e) = n (hit_decl kk x k y p e d)
      go (inr e) = h k y d e f

  pub once_clean : (p : Proc L) → Once p → NotIn p p → Clean p
  once_clean nil o n = tt
  once_clean (assign x e) o n = tt
  once_clean (let_in x l e p) o n =
      once_clean p o.1 (under_notin var x p o.0 (λ k y d h f. n k y (inr d) (inr (h, f))))
  once_clean (if_then_else e p q) o n = (
    once_clean p o.1 (λ k y d f. n k y (inl d) (inr (inl f))),
    once_clean q o.2 (λ k y d f. n k y (inr d) (inr (inr f))),
  )
  once_clean (while e p) o n = (n, once_clean p o (λ k y d f. n k y d (inr f)))
  once_clean (sequence p q) o n = (
    λ k y d f. n k y (inl d) (inr f),
    once_clean p o.1 (λ k y d f. n k y (inl d) (inl f)),
    once_clean q o.2 (λ k y d f. n k y (inr d) (inr f)),
  )
  once_clean (emit a) o n = tt
  once_clean (local a l p) o n =
      once_clean p o.1 (under_notin sig a p o.0 (λ k y d h f. n k y (inr d) (h, f)))
  once_clean (watching a p) o n =
      (λ d. n sig a d (inl (same_self sig a)), once_clean p o (λ k y d f. n k y d (inr f)))
  once_clean (when a p) o n =
      (λ d. n sig a d (inl (same_self sig a)), once_clean p o (λ k y d f. n k y d (inr f)))
  once_clean (parallel p q) o n = (
    o.0,
    λ k y d f. n k y (inl d) (inr f),
    λ k y d f. n k y (inr d) (inl f),
    once_clean p o.1 (λ k y d f. n k y (inl d) (inl f)),
    once_clean q o.2 (λ k y d f. n k y (inr d) (inr f)),
  )

  -- What a step does to the names: declared ones may become free, none becomes declared.
  pub record Kept (p p' : Proc L) : Type 0 where
    pub decl : (k : Kind) (y : ℕ) → Declared k y p' → Declared k y p
    pub free : (k : Kind) (y : ℕ) → Free k y p' → Free k y p ⊎ Declared k y p
    pub clean : Clean p'

  pub kept_sequence : {p p' : Proc L} (q : Proc L) → Clean (sequence p q) → Kept p p' → Kept (sequence p q)
      (sequence p' q)
  kept_sequence q c m = record {
    decl = λ k y. decl_l (m.decl k y);
    free = λ k y. free_l (m.free k y);
    clean = (λ k y d f. c.0 k y (m.decl k y d) f, m.clean, c.2);
  }

  pub kept_parallel : {p p' : Proc L} (q : Proc L) → Clean (parallel p q) → Kept p p' → Kept (parallel p q)
      (parallel p' q)
  kept_parallel q c m = record {
    decl = λ k y. decl_l (m.decl k y);
    free = λ k y. free_l (m.free k y);
    clean = (
      λ k y d d'. c.0 k y (m.decl k y d) d',
      λ k y d f. c.1 k y (m.decl k y d) f,
      λ k y d f. ⊎_elim (λ g. c.2 k y d g) (λ g. c.0 k y g d) (m.free k y f),
      m.clean,
      c.4,
    );
  }

  pub kept_watching : {p p' : Proc L} (a : ℕ) → Clean (watching a p) → Kept p p' → Kept (watching a p) (watching a p')
  kept_watching a c m = record {
    decl = m.decl;
    free = λ k y. free_r (m.free k y);
    clean = (λ d. c.0 (m.decl sig a d), m.clean);
  }

  pub kept_when : {p p' : Proc L} (a : ℕ) → Clean (when a p) → Kept p p' → Kept (when a p) (when a p')
  kept_when a c m = record {
    decl = m.decl;
    free = λ k y. free_r (m.free k y);
    clean = (λ d. c.0 (m.decl sig a d), m.clean);
  }

  pub kept_nil : (p : Proc L) → Kept p nil
  kept_nil p = record { decl = λ k y. absurd; free = λ k y. absurd; clean = tt }

  pub kept_same : (p : Proc L) → Clean p → Kept p p
  kept_same p c = record { decl = λ k y d. d; free = λ k y f. inl f; clean = c }

  -- both parts of a parallel
  pub kept_both : {p p' q q' : Proc L} → Clean (parallel p q) → Kept p p' → Kept q q' → Kept (parallel p q)
      (parallel p' q')
  kept_both {q = q} c m w =
      let u = kept_parallel q c m in
      let v = u.clean in
      record {
        decl = λ k y. ⊎_elim (λ d. u.decl k y (inl d)) (λ d. inr (w.decl k y d));
        free =
            λ k y. ⊎_elim (λ f. u.free k y (inl f)) (λ f. ⊎_elim (λ g. inl (inr g)) (λ g. inr (inr g)) (w.free k y f));
        clean = (
          λ k y d d'. v.0 k y d (w.decl k y d'),
          λ k y d f. ⊎_elim (λ g. v.1 k y d g) (λ g. v.0 k y d g) (w.free k y f),
          λ k y d f. v.2 k y (w.decl k y d) f,
          v.3,
          w.clean,
        );
      }
