-- The values in place, and the store and the signals of the report, that agree through a renaming; and what steps do to
-- them.
use Prim.Native.Nat.{ℕ, ◌<◌}
use native.Mathlib.Decide.{ℕ_discrete}
use native.Mathlib.Omega.{arith}
use mathlib.Core.Path.{◌≡◌, refl, sym, ap, ◌∙◌}
use mathlib.Core.Bool.{Bool, true, false, cond, true≢false}
use mathlib.Core.Option.{none, some}
use mathlib.Core.List.{List}
use lib.Dec.{eqb}
use lib.IntN.{ℤ, pos}
use lib.ListN.{set, length, length-set}
use lib.Seq.{get_or-set_same, get_or-set_other}
use borrow.Author.Tests.{eq-eqb, ne_eqb, eqb-true}
use Rattle.prelude.proofs.Bools.{fails, by_cases}
use Rattle.values.specs.Values.{holds, truth}
use Rattle.language.specs.Syntax.{Names}
use Rattle.language.specs.NameKinds.{Kind, var, sig, same, put, is_of}
use Rattle.language.specs.Typing.{Environment}
use Rattle.language.specs.Steps.{held, present, instant_start}
use Rattle.language.proofs.NameKinds.{same_kind, same_number, same_at, other, one_kind}
use Rattle.language.proofs.Stores.{instant_at_lem, instant_length}
use Rattle.report.specs.Names.{Renaming}
use Rattle.report.specs.Configurations.{update}

held_set : (s : List ℤ) (x : ℕ) (v : ℤ) (y : ℕ) → x < length s → held (set s x v) y ≡ cond (eqb x y) v (held s y)
held_set s x v y l =
    elim (ℕ_discrete x y) [
      | yes e ↦ rw (eq-eqb x y e) (ap (held (set s x v)) (sym e) ∙ get_or-set_same s x v (pos 0) l)
      | no n ↦ rw (ne_eqb x y n) (get_or-set_other s x y v (pos 0) (λ e. n (sym e)))
    ]

-- a name of a declaration that has become free: F are the names of the script that the report has now, ρ is what it
-- calls them, origin what each of the report's names was made for; there are n names
pub record Agree {L : Type 0} (names : Names L) (n : ℕ) (F : Kind → ℕ → Bool) (ρ origin : Renaming) (s : List ℤ)
    (Γ : Environment L) (S : ℕ → ℤ) (E : ℕ → Bool) : Type 0 where
  pub size : length s ≡ n
  pub within : (k : Kind) (x : ℕ) → F k x ≡ true → x < n
  pub kinded : (k : Kind) (x : ℕ) → F k x ≡ true → is_of k (names.is_signal x) ≡ true
  pub back : (k : Kind) (x : ℕ) → F k x ≡ true → origin k (ρ k x) ≡ x
  pub dom : (k : Kind) (x : ℕ) → F k x ≡ true → Γ k (ρ k x) ≡ some (names.level x)
  pub store : (x : ℕ) → F var x ≡ true → held s x ≡ S (ρ var x)
  pub signals : (a : ℕ) → F sig a ≡ true → present s a ≡ E (ρ sig a)
  pub absent : (a : ℕ) → Γ sig a ≡ none → E a ≡ false

holds_truth : (b : Bool) → holds (truth b) ≡ b
holds_truth true = refl
holds_truth false = refl

pub defined :
    {L : Type 0} (Γ : Environment L) (k j : Kind) (z w : ℕ) (δ : L) → Γ k z ≡ none → Γ j w ≡ some δ → k ≡ j → z ≡ w → ⊥
defined Γ k j z w δ u d e q = let t : ◌≡◌ {A = ℕ} 0 1 = cc in omega arith

module _
    {L : Type 0} {names : Names L} {n : ℕ} {F : Kind → ℕ → Bool} {ρ origin : Renaming} {s : List ℤ} {Γ : Environment L}
    {S : ℕ → ℤ} {E : ℕ → Bool} (g : Agree names n F ρ origin s Γ S E)
  where
    clear : (k : Kind) (z : ℕ) (j : Kind) (y : ℕ) → Γ k z ≡ none → F j y ≡ true → same k z j (ρ j y) ≡ false
    clear k z j y u f = other k z j (ρ j y) (defined Γ k j z (ρ j y) _ u (g.dom j y f))

    -- names of the two kinds have two numbers
    unlike : (k j : Kind) (x y : ℕ) → is_of k (names.is_signal x) ≡ true → F j y ≡ true → (k ≡ j → ⊥) → eqb x y ≡ false
    unlike k j x y o f d =
        ne_eqb x y (λ e. d (one_kind k j (names.is_signal y) (rw (← e) o) (g.kinded j y f)))

    store_set : (x : ℕ) (v : ℤ) (y : ℕ) → x < n → held (set s x v) y ≡ cond (eqb x y) v (held s y)
    store_set x v y l = held_set s x v y (rw g.size l)

    size_set : (x : ℕ) (v : ℤ) → length (set s x v) ≡ n
    size_set x v = length-set s x v ∙ g.size

    -- the other kind is not touched by a store
    signals_set :
        (x : ℕ) (v : ℤ) → x < n → is_of var (names.is_signal x) ≡ true → (a : ℕ) → F sig a ≡ true →
        present (set s x v) a ≡ E (ρ sig a)
    signals_set x v l o a f =
        ap holds (store_set x v a l) ∙ rw (unlike var sig x a o f kinds) (g.signals a f)
      where
        kinds : var ≡ sig → ⊥
        kinds e = let t : ◌≡◌ {A = ℕ} 0 1 = cc in omega arith

    store_kept :
        (a : ℕ) (v : ℤ) → a < n → is_of sig (names.is_signal a) ≡ true → (x : ℕ) → F var x ≡ true →
        held (set s a v) x ≡ S (ρ var x)
    store_kept a v l o x f =
        store_set a v x l ∙ rw (unlike sig var a x o f kinds) (g.store x f)
      where
        kinds : sig ≡ var → ⊥
        kinds e = let t : ◌≡◌ {A = ℕ} 0 1 = cc in omega arith

    -- a declaration of x is entered, under the new name z
    module _ (k : Kind) (x z : ℕ) (u : Γ k z ≡ none) where
      abbrev F' : Kind → ℕ → Bool
      F' = put F k x true

      bound : (M : Kind → ℕ → Type 0) → M k x → ((j : Kind) (y : ℕ) → F j y ≡ true → M j y) →
          (j : Kind) (y : ℕ) → F' j y ≡ true → M j y
      bound M m h j y = go (same k x j y) refl
        where
          go : (b : Bool) → same k x j y ≡ b → cond b true (F j y) ≡ true → M j y
          go true e f = rw (← same_kind k x j y e, ← same_number k x j y e) m
          go false e f = h j y f

      bound_back : (j : Kind) (y : ℕ) → F' j y ≡ true → put origin k z x j (put ρ k x z j y) ≡ y
      bound_back j y = go (same k x j y) refl
        where
          go : (b : Bool) → same k x j y ≡ b → cond b true (F j y) ≡ true → put origin k z x j (cond b z (ρ j y)) ≡ y
          go true e f = rw (same_at k x j y z e) (same_number k x j y e)
          go false e f = rw (clear k z j y u f) (g.back j y f)

      bound_dom :
          (δ : L) → δ ≡ names.level x → (j : Kind) (y : ℕ) → F' j y ≡ true →
          put Γ k z (some δ) j (put ρ k x z j y) ≡ some (names.level y)
      bound_dom δ q j y = go (same k x j y) refl
        where
          go :
              (b : Bool) → same k x j y ≡ b → cond b true (F j y) ≡ true →
              put Γ k z (some δ) j (cond b z (ρ j y)) ≡ some (names.level y)
          go true e f = rw (same_at k x j y z e) (ap some (q ∙ ap names.level (same_number k x j y e)))
          go false e f = rw (clear k z j y u f) (g.dom j y f)

    pub agree_let :
        (x z : ℕ) (δ : L) (v w : ℤ) → Γ var z ≡ none → δ ≡ names.level x → is_of var (names.is_signal x) ≡ true → x < n →
        v ≡ w →
        Agree names n (put F var x true) (put ρ var x z) (put origin var z x) (set s x v) (put Γ var z (some δ))
        (update S z w) E
    unfolding same
    agree_let x z δ v w u q o l e =
        record {
          size = size_set x v;
          within = bound var x z u (λ j y. y < n) l g.within;
          kinded = bound var x z u (λ j y. is_of j (names.is_signal y) ≡ true) o g.kinded;
          back = bound_back var x z u;
          dom = bound_dom var x z u δ q;
          store = λ y. go y (eqb x y) refl;
          signals = signals_set x v l o;
          absent = g.absent;
        }
      where
        go :
            (y : ℕ) (b : Bool) → eqb x y ≡ b → cond b true (F var y) ≡ true →
            held (set s x v) y ≡ cond (eqb z (cond b z (ρ var y))) w (S (cond b z (ρ var y)))
        go y true h f = store_set x v y l ∙ rw (h, eq-eqb z z refl) e
        go y false h f = store_set x v y l ∙ rw (h, clear var z var y u f) (g.store y f)

    pub agree_local :
        (x z : ℕ) (δ : L) → Γ sig z ≡ none → δ ≡ names.level x → is_of sig (names.is_signal x) ≡ true → x < n →
        Agree names n (put F sig x true) (put ρ sig x z) (put origin sig z x) (set s x (pos 0)) (put Γ sig z (some δ)) S E
    unfolding same
    agree_local x z δ u q o l =
        record {
          size = size_set x (pos 0);
          within = bound sig x z u (λ j y. y < n) l g.within;
          kinded = bound sig x z u (λ j y. is_of j (names.is_signal y) ≡ true) o g.kinded;
          back = bound_back sig x z u;
          dom = bound_dom sig x z u δ q;
          store = store_kept x (pos 0) l o;
          signals = λ y. go y (eqb x y) refl;
          absent = λ a. absent_too a (eqb z a);
        }
      where
        go :
            (y : ℕ) (b : Bool) → eqb x y ≡ b → cond b true (F sig y) ≡ true →
            present (set s x (pos 0)) y ≡ E (cond b z (ρ sig y))
        go y true h f = ap holds (store_set x (pos 0) y l) ∙ rw h (sym (g.absent z u))
        go y false h f = ap holds (store_set x (pos 0) y l) ∙ rw h (g.signals y f)

        absent_too : (a : ℕ) (b : Bool) → cond b (some δ) (Γ sig a) ≡ none → E a ≡ false
        absent_too a true e = let t : ◌≡◌ {A = ℕ} 0 1 = cc in absurd (omega arith)
        absent_too a false e = g.absent a e

    -- names that the report calls differently
    apart : (k : Kind) (x y : ℕ) → F k x ≡ true → F k y ≡ true → eqb x y ≡ false → eqb (ρ k x) (ρ k y) ≡ false
    apart k x y f h e =
        ne_eqb (ρ k x) (ρ k y)
        (λ q.
        let same_name : x ≡ y = sym (g.back k x f) ∙ ap (origin k) q ∙ g.back k y h in
        true≢false (sym (eq-eqb x y same_name) ∙ e))

    pub agree_assign :
        (x x' : ℕ) (v w : ℤ) → F var x ≡ true → x' ≡ ρ var x → v ≡ w →
        Agree names n F ρ origin (set s x v) Γ (update S x' w) E
    agree_assign x x' v w h q e =
        record {
          size = size_set x v;
          within = g.within;
          kinded = g.kinded;
          back = g.back;
          dom = g.dom;
          store = λ y f. rw q (go y f (eqb x y) refl);
          signals = signals_set x v (g.within var x h) (g.kinded var x h);
          absent = g.absent;
        }
      where
        go : (y : ℕ) → F var y ≡ true → (b : Bool) → eqb x y ≡ b → held (set s x v) y ≡ update S (ρ var x) w (ρ var y)
        go y f true i =
            store_set x v y (g.within var x h)
            ∙ rw (i, eq-eqb (ρ var x) (ρ var y) (ap (ρ var) (eqb-true x y i))) e
        go y f false i = store_set x v y (g.within var x h) ∙ rw (i, apart var x y h f i) (g.store y f)

    pub agree_emit :
        (x x' : ℕ) → F sig x ≡ true → x' ≡ ρ sig x → Agree names n F ρ origin (set s x (pos 1)) Γ S (update E x' true)
    agree_emit x x' h q =
        record {
          size = size_set x (pos 1);
          within = g.within;
          kinded = g.kinded;
          back = g.back;
          dom = g.dom;
          store = store_kept x (pos 1) (g.within sig x h) (g.kinded sig x h);
          signals = λ y f. rw q (go y f (eqb x y) refl);
          absent =
              λ a u.
              by_cases
              (λ z. z ≡ false)
              (eqb x' a)
              (λ e. absurd (defined Γ sig sig a (ρ sig x) _ u (g.dom sig x h) refl (sym (eqb-true x' a e) ∙ q)))
              (λ e. g.absent a u);
        }
      where
        go : (y : ℕ) → F sig y ≡ true → (b : Bool) → eqb x y ≡ b → present (set s x (pos 1)) y ≡ update E
            (ρ sig x) true (ρ sig y)
        go y f true i =
            ap holds (store_set x (pos 1) y (g.within sig x h))
            ∙ rw (i, eq-eqb (ρ sig x) (ρ sig y) (ap (ρ sig) (eqb-true x y i)))
        go y f false i =
            ap holds (store_set x (pos 1) y (g.within sig x h)) ∙ rw (i, apart sig x y h f i) (g.signals y f)

    -- an instant begins, for which these signals are listed
    pub agree_instant :
        (I : ℕ → Bool) → ((a : ℕ) → F sig a ≡ true → I a ≡ I (ρ sig a)) → ((a : ℕ) → Γ sig a ≡ none → I a ≡ false) →
        Agree names n F ρ origin (instant_start names I s) Γ S I
    agree_instant I same absent =
        record {
          size = instant_length names I s ∙ g.size;
          within = g.within;
          kinded = g.kinded;
          back = g.back;
          dom = g.dom;
          store = λ x f. begins var x f ∙ rw (register x f) (g.store x f);
          signals = λ a f. ap holds (begins sig a f) ∙ rw (g.kinded sig a f) (holds_truth (I a) ∙ same a f);
          absent = absent;
        }
      where
        begins :
            (k : Kind) (x : ℕ) → F k x ≡ true →
            held (instant_start names I s) x ≡ cond (names.is_signal x) (truth (I x)) (held s x)
        begins k x f = instant_at_lem names I s x (omega (arith, g.size, g.within k x f))

        register : (x : ℕ) → F var x ≡ true → names.is_signal x ≡ false
        register x f = fails (names.is_signal x) (λ e. true≢false (sym (g.kinded var x f) ∙ rw e))
