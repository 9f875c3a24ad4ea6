-- A loop that gives the names new values, one after the other: those of the names before x are new, the others are as
-- they were.
use mathlib.Core.Path.{◌≡◌, refl, sym, ap, ◌∙◌, subst}
use mathlib.Core.Bool.{Bool, true, false, cond, not}
use mathlib.Core.List.{List}
use Prim.Native.Nat.{ℕ, ◌+◌, ◌≤◌, ◌<◌}
use native.Mathlib.Nat.{add-zero}
use native.Mathlib.Omega.{arith}
use lib.IntN.{ℤ, pos}
use lib.ListN.{length, take, drop, set, length-set}
use lib.Seq.{set-get_or, drop-set-lt, drop-drop, get_or-drop}
use Rattle.prelude.specs.Table.{table}
use Rattle.prelude.proofs.Tables.{fill_none, fill_more, fill_all}
use Rattle.language.specs.Steps.{held}

-- where name x is to hold f x
pub record Renewed (f : ℕ → ℤ) (old : List ℤ) (x : ℕ) (values : List ℤ) : Type 0 where
  pub within : x ≤ length old
  pub same : length values ≡ length old
  pub done : take x values ≡ table f x
  pub rest : drop x values ≡ drop x old

module _ (f : ℕ → ℤ) (old : List ℤ) where
  pub renewed_none : Renewed f old 0 old
  renewed_none = record { within = omega arith; same = refl; done = fill_none f; rest = refl }

  module _ (x : ℕ) (values : List ℤ) (h : x < length old) (r : Renewed f old x values) where
    -- name x is given its value
    pub renewed_set : (v : ℤ) → v ≡ f x → Renewed f old (x + 1) (set values x v)
    renewed_set v e =
        record {
          within = omega arith;
          same = length-set values x v ∙ r.same;
          done = fill_more f values x v (omega (arith, r.same)) r.done e;
          rest =
              drop-set-lt (x + 1) values x v (omega arith)
              ∙ sym (drop-drop 1 x values)
              ∙ ap (drop 1) r.rest
              ∙ drop-drop 1 x old;
        }

    -- name x has its value
    pub renewed_kept : held old x ≡ f x → Renewed f old (x + 1) values
    renewed_kept e =
        let rest = sym (get_or-drop x values 0 (pos 0)) ∙ ap (λ l. held l 0) r.rest ∙ get_or-drop x old 0 (pos 0) in
        let same : held values x ≡ held old x = rw (add-zero x) at rest in
        subst (Renewed f old (x + 1)) (set-get_or values x (pos 0)) (renewed_set (held values x) (same ∙ e))

  pub renewed_all :
      (x : ℕ) (values : List ℤ) → length old ≤ x → Renewed f old x values → values ≡ table f (length old)
  renewed_all x values h r = fill_all f values (length old) x r.same r.within h r.done

-- where not the names of the session are cleared
pub cond_not : {A : Type 0} (b : Bool) (x y : A) → cond (not b) x y ≡ cond b y x
cond_not true x y = refl
cond_not false x y = refl
