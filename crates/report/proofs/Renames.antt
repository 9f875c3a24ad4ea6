-- Renaming: it depends on the free names only, and it composes.
use Prim.Native.Nat.{ℕ}
use native.Mathlib.Omega.{arith}
use mathlib.Core.Path.{◌≡◌, refl, sym, subst, ap, ap₂, ◌∙◌}
use mathlib.Core.Bool.{Bool, true, false, cond}
use mathlib.Core.Logic.{inl, inr}
use lib.IntN.{ℤ}
use Rattle.values.specs.Values.{negation}
use Rattle.language.specs.Syntax.{Exp, constant, register, binary, negated, Occurs, here, left, right, under, Proc}
use Rattle.language.specs.NameKinds.{Kind, var, sig, same, put}
use Rattle.language.specs.Steps.{apply, evaluate}
use Rattle.language.proofs.NameKinds.{same_kind, same_number, same_self, same_at}
use Rattle.report.specs.Names.{OccursIn, Free, Renaming, renamed_in, Renamed, r_nil, r_assign, r_let, r_if, r_while, r_sequence, r_emit, r_local, r_watching, r_when, r_parallel}

-- renamings at the body of a declaration
pub under_same :
    (ρ σ : Renaming) (k : Kind) (x z : ℕ) (j : Kind) (y : ℕ) →
    (same k x j y ≡ false → ρ j y ≡ σ j y) → put ρ k x z j y ≡ put σ k x z j y
under_same ρ σ k x z j y h = go (same k x j y) refl
  where
    go : (b : Bool) → same k x j y ≡ b → cond b z (ρ j y) ≡ cond b z (σ j y)
    go true e = refl
    go false e = h e

pub under_twice :
    (ρ σ : Renaming) (k : Kind) (x z w : ℕ) (j : Kind) (y : ℕ) →
    (same k x j y ≡ false → same k z j (ρ j y) ≡ false) →
    put σ k z w j (put ρ k x z j y) ≡ put (λ i u. σ i (ρ i u)) k x w j y
under_twice ρ σ k x z w j y h = go (same k x j y) refl
  where
    go : (b : Bool) → same k x j y ≡ b → put σ k z w j (cond b z (ρ j y)) ≡ cond b w (σ j (ρ j y))
    go true e = rw (same_at k x j y z e)
    go false e = rw (h e)

hit_renamed :
    (ρ : Renaming) (k : Kind) (x x' : ℕ) (j : Kind) (y : ℕ) →
    x' ≡ ρ k x → same k x j y ≡ true → same k x' j (ρ j y) ≡ true
hit_renamed ρ k x x' j y q h =
    let kj = same_kind k x j y h in
    let xy = same_number k x j y h in
    let e : x' ≡ ρ j y = cc in
    rw e (same_at k x j y (ρ j y) h)

-- one renaming after the other
abbrev pub ◌then◌ : Renaming → Renaming → Renaming
◌then◌ ρ σ k y = σ k (ρ k y)

occurs_ren : (f : ℕ → ℕ) {x : ℕ} {e : Exp} → Occurs x e → Occurs (f x) (renamed_in f e)
unfolding renamed_in
occurs_ren f here = here
occurs_ren f (left o) = left (occurs_ren f o)
occurs_ren f (right o) = right (occurs_ren f o)
occurs_ren f (under o) = under (occurs_ren f o)

pub ren_same : (f g : ℕ → ℕ) (e : Exp) → ((x : ℕ) → Occurs x e → f x ≡ g x) → renamed_in f e ≡ renamed_in g e
unfolding renamed_in
ren_same f g (constant v) h = refl
ren_same f g (register x) h = ap register (h x here)
ren_same f g (binary o a b) h = ap₂ (binary o) (ren_same f g a (λ x i. h x (left i)))
    (ren_same f g b (λ x i. h x (right i)))
ren_same f g (negated a) h = ap negated (ren_same f g a (λ x i. h x (under i)))

pub ren_twice : (f g : ℕ → ℕ) (e : Exp) → renamed_in g (renamed_in f e) ≡ renamed_in (λ x. g (f x)) e
unfolding renamed_in
ren_twice f g (constant v) = refl
ren_twice f g (register x) = refl
ren_twice f g (binary o a b) = ap₂ (binary o) (ren_twice f g a) (ren_twice f g b)
ren_twice f g (negated a) = ap negated (ren_twice f g a)

pub evaluate_renamed :
    (f : ℕ → ℕ) (e : Exp) (S T : ℕ → ℤ) → ((x : ℕ) → Occurs x e → S x ≡ T (f x)) →
    evaluate e S ≡ evaluate (renamed_in f e) T
unfolding evaluate renamed_in
evaluate_renamed f (constant v) S T h = refl
evaluate_renamed f (register x) S T h = h x here
evaluate_renamed f (binary o a b) S T h =
    ap₂ (apply o) (evaluate_renamed f a S T (λ x i. h x (left i))) (evaluate_renamed f b S T (λ x i. h x (right i)))
evaluate_renamed f (negated a) S T h = ap negation (evaluate_renamed f a S T (λ x i. h x (under i)))

reads_ren : (ρ : Renaming) (k : Kind) (y : ℕ) (e e' : Exp) → e' ≡ renamed_in (ρ var) e → OccursIn k y e → OccursIn k (ρ k y) e'
reads_ren ρ var y e e' q r = (refl, subst (λ z. Occurs (ρ var y) z) (sym q) (occurs_ren (ρ var) r.1))
reads_ren ρ sig y e e' q r = let z : ◌≡◌ {A = ℕ} 0 1 = cc r.0 in absurd (omega arith)

exp_then : (ρ σ : Renaming) (e e' e'' : Exp) → e' ≡ renamed_in (ρ var) e → e'' ≡ renamed_in (σ var) e' → e'' ≡ renamed_in
    (◌then◌ ρ σ var) e
exp_then ρ σ e e' e'' q q' = q' ∙ ap (renamed_in (σ var)) q ∙ ren_twice (ρ var) (σ var) e

module _ {L : Type 0} where
  under_free :
      (ρ : Renaming) (k : Kind) (x z : ℕ) (k' : Kind) (y : ℕ) (p : Proc L) →
      same k x k' y ≡ false → Free k' (put ρ k x z k' y) p → Free k' (ρ k' y) p
  under_free ρ k x z k' y p h f = rw h at f

  pub free_ren : {ρ : Renaming} {p p' : Proc L} → Renamed ρ p p' → (k : Kind) (y : ℕ) → Free k y p → Free k (ρ k y) p'
  free_ren r_nil k y f = f
  free_ren {ρ} (r_assign {x = x} {x' = x'} {e = e} {e' = e'} q q') k y (inl h) = inl (hit_renamed ρ var x x' k y q h)
  free_ren {ρ} (r_assign {x = x} {x' = x'} {e = e} {e' = e'} q q') k y (inr r) = inr (reads_ren ρ k y e e' q' r)
  free_ren {ρ} (r_let {e = e} {e' = e'} q c d) k y (inl r) = inl (reads_ren ρ k y e e' q r)
  free_ren {ρ} (r_let {x = x} {z = z} {p' = p'} q c d) k y (inr f) =
      inr (c k y f.1 f.0, under_free ρ var x z k y p' f.0 (free_ren d k y f.1))
  free_ren {ρ} (r_if {e = e} {e' = e'} q d d') k y (inl r) = inl (reads_ren ρ k y e e' q r)
  free_ren (r_if q d d') k y (inr (inl f)) = inr (inl (free_ren d k y f))
  free_ren (r_if q d d') k y (inr (inr f)) = inr (inr (free_ren d' k y f))
  free_ren {ρ} (r_while {e = e} {e' = e'} q d) k y (inl r) = inl (reads_ren ρ k y e e' q r)
  free_ren (r_while q d) k y (inr f) = inr (free_ren d k y f)
  free_ren (r_sequence d d') k y (inl f) = inl (free_ren d k y f)
  free_ren (r_sequence d d') k y (inr f) = inr (free_ren d' k y f)
  free_ren {ρ} (r_emit {a = a} {a' = a'} q) k y h = hit_renamed ρ sig a a' k y q h
  free_ren {ρ} (r_local {a = a} {z = z} {p' = p'} c d) k y f =
      (c k y f.1 f.0, under_free ρ sig a z k y p' f.0 (free_ren d k y f.1))
  free_ren {ρ} (r_watching {a = a} {a' = a'} q d) k y (inl h) = inl (hit_renamed ρ sig a a' k y q h)
  free_ren (r_watching q d) k y (inr f) = inr (free_ren d k y f)
  free_ren {ρ} (r_when {a = a} {a' = a'} q d) k y (inl h) = inl (hit_renamed ρ sig a a' k y q h)
  free_ren (r_when q d) k y (inr f) = inr (free_ren d k y f)
  free_ren (r_parallel d d') k y (inl f) = inl (free_ren d k y f)
  free_ren (r_parallel d d') k y (inr f) = inr (free_ren d' k y f)

  abbrev pub Alike : Renaming → Renaming → Proc L → Type 0
  Alike ρ σ p = (k : Kind) (y : ℕ) → Free k y p → ρ k y ≡ σ k y

  pub same_ren : {ρ : Renaming} {p p' : Proc L} → Renamed ρ p p' → (σ : Renaming) → Alike ρ σ p → Renamed σ p p'
  same_ren r_nil σ h = r_nil
  same_ren {ρ} (r_assign {x = x} {e = e} q q') σ h =
      r_assign (q ∙ h var x (inl (same_self var x))) (q' ∙ ren_same (ρ var) (σ var) e (λ y o. h var y (inr (refl, o))))
  same_ren {ρ} (r_let {x = x} {z = z} {e = e} q c d) σ h =
      r_let
      (q ∙ ren_same (ρ var) (σ var) e (λ y o. h var y (inl (refl, o))))
      (λ k y f n. subst (λ w. same var z k w ≡ false) (h k y (inr (n, f))) (c k y f n))
      (same_ren d _ (λ k y f. under_same ρ σ var x z k y (λ n. h k y (inr (n, f)))))
  same_ren {ρ} (r_if {e = e} q d d') σ h =
      r_if
      (q ∙ ren_same (ρ var) (σ var) e (λ y o. h var y (inl (refl, o))))
      (same_ren d σ (λ k y f. h k y (inr (inl f))))
      (same_ren d' σ (λ k y f. h k y (inr (inr f))))
  same_ren {ρ} (r_while {e = e} q d) σ h =
      r_while (q ∙ ren_same (ρ var) (σ var) e (λ y o. h var y (inl (refl, o)))) (same_ren d σ (λ k y f. h k y (inr f)))
  same_ren (r_sequence d d') σ h = r_sequence (same_ren d σ (λ k y f. h k y (inl f)))
      (same_ren d' σ (λ k y f. h k y (inr f)))
  same_ren (r_emit {a = a} q) σ h = r_emit (q ∙ h sig a (same_self sig a))
  same_ren {ρ} (r_local {a = a} {z = z} c d) σ h =
      r_local
      (λ k y f n. subst (λ w. same sig z k w ≡ false) (h k y (n, f)) (c k y f n))
      (same_ren d _ (λ k y f. under_same ρ σ sig a z k y (λ n. h k y (n, f))))
  same_ren (r_watching {a = a} q d) σ h =
      r_watching (q ∙ h sig a (inl (same_self sig a))) (same_ren d σ (λ k y f. h k y (inr f)))
  same_ren (r_when {a = a} q d) σ h =
      r_when (q ∙ h sig a (inl (same_self sig a))) (same_ren d σ (λ k y f. h k y (inr f)))
  same_ren (r_parallel d d') σ h = r_parallel (same_ren d σ (λ k y f. h k y (inl f)))
      (same_ren d' σ (λ k y f. h k y (inr f)))

  under_clear :
      (ρ σ : Renaming) (kk : Kind) (x z w : ℕ) (p p' : Proc L) → Renamed (put ρ kk x z) p p' →
      ((k : Kind) (y : ℕ) → Free k y p → same kk x k y ≡ false → same kk z k (ρ k y) ≡ false) →
      ((k : Kind) (y : ℕ) → Free k y p' → same kk z k y ≡ false → same kk w k (σ k y) ≡ false) →
      (k : Kind) (y : ℕ) → Free k y p → same kk x k y ≡ false → same kk w k (σ k (ρ k y)) ≡ false
  under_clear ρ σ kk x z w p p' d c c' k y f n =
      c' k (ρ k y) (under_free ρ kk x z k y p' n (free_ren d k y f)) (c k y f n)

  pub ren_then : {ρ : Renaming} {p p' p'' : Proc L} → Renamed ρ p p' → {σ : Renaming} → Renamed σ p' p'' → Renamed
      (◌then◌ ρ σ) p p''
  ren_then r_nil r_nil = r_nil
  ren_then {ρ} (r_assign {e = e} q q') {σ} (r_assign r r') = r_assign (r ∙ ap (σ var) q) (exp_then ρ σ e _ _ q' r')
  ren_then {ρ} (r_let {x = x} {z = z} {e = e} q c d) {σ} (r_let {z = w} r c' d') =
      r_let
      (exp_then ρ σ e _ _ q r)
      (under_clear ρ σ var x z w _ _ d c c')
      (same_ren (ren_then d d') _ (λ k y f. under_twice ρ σ var x z w k y (c k y f)))
  ren_then {ρ} (r_if {e = e} q d d') {σ} (r_if r g g') = r_if (exp_then ρ σ e _ _ q r) (ren_then d g) (ren_then d' g')
  ren_then {ρ} (r_while {e = e} q d) {σ} (r_while r g) = r_while (exp_then ρ σ e _ _ q r) (ren_then d g)
  ren_then (r_sequence d d') (r_sequence g g') = r_sequence (ren_then d g) (ren_then d' g')
  ren_then (r_emit q) {σ} (r_emit r) = r_emit (r ∙ ap (σ sig) q)
  ren_then {ρ} (r_local {a = a} {z = z} c d) {σ} (r_local {z = w} c' d') =
      r_local
      (under_clear ρ σ sig a z w _ _ d c c')
      (same_ren (ren_then d d') _ (λ k y f. under_twice ρ σ sig a z w k y (c k y f)))
  ren_then (r_watching q d) {σ} (r_watching r g) = r_watching (r ∙ ap (σ sig) q) (ren_then d g)
  ren_then (r_when q d) {σ} (r_when r g) = r_when (r ∙ ap (σ sig) q) (ren_then d g)
  ren_then (r_parallel d d') (r_parallel g g') = r_parallel (ren_then d g) (ren_then d' g')
