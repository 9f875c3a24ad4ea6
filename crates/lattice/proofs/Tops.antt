-- Where every pair has a least common upper level, one level is above all.
use mathlib.Core.Path.{◌≡◌, subst}
use mathlib.Core.Bool.{Bool, true}
use Prim.Native.Nat.{ℕ, zero, suc, ◌≤◌, ◌<◌}
use native.Mathlib.Decide.{dec_lt}
use native.Mathlib.Omega.{arith}
use Rattle.prelude.specs.Search.{first, all}
use Rattle.prelude.proofs.Searches.{first_holds, first_found, all_intro, all_elim}
use Rattle.order.specs.Order.{Relation, least_upper, top, PartialOrder, LeastUppers, Greatest}

module _ (R : Relation) (n : ℕ) (o : PartialOrder R n) (w : LeastUppers R n (least_upper R n)) where
  -- a level that the levels below m are at or below
  record Above (m : ℕ) : Type 0 where
    level : ℕ
    inside : level < n
    above : (i : ℕ) → i < m → R i level ≡ true

  climb : 0 < n → (m : ℕ) → m ≤ n → Above m
  climb h zero l = record { level = 0; inside = h; above = λ i u. absurd (omega arith) }
  climb h (suc m) l = go (climb h m (omega arith))
    where
      go : Above m → Above (suc m)
      go a =
          let t : ℕ = least_upper R n a.level m in
          let hm : m < n = omega arith in
          let ht : t < n = w.within a.level m a.inside hm in
          record {
            level = t;
            inside = ht;
            above =
                λ i u.
                elim (dec_lt i m) [
                  | yes v ↦
                      o.transitive i a.level t (omega arith) a.inside ht (a.above i v) (w.left a.level m a.inside hm)
                  | no v ↦
                      let e : m ≡ i = omega arith in
                      subst (λ k. R k t ≡ true) e (w.right a.level m a.inside hm)
                ];
          }

  pub greatest : 0 < n → Greatest R n (top R n)
  unfolding top
  greatest h =
      let a : Above n = climb h n (omega arith) in
      let test : ℕ → Bool = λ t. all (λ i. R i t) n in
      let inside : first test n < n = first_found test n a.level a.inside (all_intro (λ i. R i a.level) n a.above) in
      record { within = inside; above = all_elim (λ i. R i (first test n)) n (first_holds test n inside) }
