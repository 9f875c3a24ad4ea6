-- A search that goes down from n: the smallest number from q on at which the test holds, if there is one.
use mathlib.Core.Path.{◌≡◌, refl, sym, ap, ◌∙◌}
use mathlib.Core.Bool.{Bool, true, false, cond}
use Prim.Native.Nat.{ℕ, ◌-◌, ◌≤◌, ◌<◌}
use lib.Dec.{ltb}
use borrow.Author.Tests.{lt-ltb, le-ltb}
use native.Mathlib.Omega.{arith}
use Rattle.std.proofs.Common.{Option, Some, None}
use Rattle.prelude.specs.Search.{first_from}
use Rattle.prelude.specs.Promises.{found}
use Rattle.prelude.proofs.Searches.{down_none, down_hit, down_miss, down_all}

module _ (f : ℕ → Bool) (n : ℕ) where
  -- number r, or none where it is n
  abbrev below : ℕ → Option ℕ
  below r = cond (ltb r n) (Some r) None

  abbrev pub found_from : ℕ → Option ℕ
  found_from q = below (first_from f q (n - q))

  pub from_end : {q : ℕ} → q ≡ n → None ≡ found_from q
  from_end e = rw (e, sym (down_none f n), le-ltb n n (omega arith)) refl

  module _ (q : ℕ) (some : 0 < q) (within : q ≤ n) where
    pub from_hit : f (q - 1) ≡ true → Some (q - 1) ≡ found_from (q - 1)
    from_hit e = rw (sym (down_hit f n q some within e), lt-ltb (q - 1) n (omega arith)) refl

    pub from_miss : {r : Option ℕ} → f (q - 1) ≡ false → r ≡ found_from q → r ≡ found_from (q - 1)
    from_miss e found = found ∙ ap below (down_miss f n q some within e refl)

  pub from_start : {q : ℕ} {r : Option ℕ} → q ≡ 0 → r ≡ found_from q → r ≡ found f n
  from_start e found = found ∙ ap below (down_all f n e refl)
