-- What a digit stands for, and the digits that are left of a line.
use mathlib.Core.Path.{◌≡◌, refl, ◌∙◌}
use mathlib.Core.List.{List, [], ◌∷◌}
use Prim.Native.Nat.{ℕ, suc, ◌+◌, ◌-◌, ◌≤◌, ◌<◌}
use native.Mathlib.Numerals.{add-one}
use lib.ListN.{drop, take, get_or, length, drop_of_length-le}
use lib.Seq.{sets, set_out, drop-cons}
use borrow.Author.Tests.{eq-eqb, ne_eqb}
use Rattle.std.proofs.Common.{Option, Some, None, arith}
use Rattle.std.proofs.lemmas.Grind.{common_steps}
use Rattle.text.specs.Hex.{digit, before, digits}

pub digit_small : (c d : ℕ) → ◌≡◌ {A = Option ℕ} (digit c) (Some d) → d < 16
unfolding digit
digit_small c d e = grind (arith, common_steps)

-- the digits from index i on
module _ (line : List ℕ) (i : ℕ) where
  pub digits_none : length line ≤ i → digits (drop i line) ≡ []
  unfolding digits
  digits_none h = rw (drop_of_length-le line h)

  module _ (h : i < length line) where
    pub digits_remark : get_or line i 0 ≡ 35 → digits (drop i line) ≡ []
    unfolding digits
    digits_remark e = rw (drop-cons line i 0 h, eq-eqb _ _ e)

    pub digits_next : (get_or line i 0 ≡ 35 → ⊥) → digits (drop i line) ≡ before (digit (get_or line i 0)) (digits (drop (i + 1) line))
    unfolding digits
    digits_next e = rw (add-one, drop-cons line i 0 h, ne_eqb _ _ e)

  -- a digit at index i, and any other character
  module _ (h : i < length line) (open_line : get_or line i 0 ≡ 35 → ⊥) (so_far : digits line ≡ digits (drop i line)) where
    pub digit_found :
        (d : ℕ) → ◌≡◌ {A = Option ℕ} (digit (get_or line i 0)) (Some d) →
        (digits line ≡ d ∷ digits (take (length line - (i + 1)) (drop (i + 1) line))) × (d < 16)
    digit_found d e =
        let all : take (length line - (i + 1)) (drop (i + 1) line) ≡ drop (i + 1) line = grind (arith, common_steps) in
        (so_far ∙ digits_next h open_line ∙ rw (e, all), digit_small (get_or line i 0) d e)

    pub digit_passed : ◌≡◌ {A = Option ℕ} (digit (get_or line i 0)) None → digits line ≡ digits (drop (i + 1) line)
    digit_passed e = so_far ∙ digits_next h open_line ∙ rw e

-- what is stored behind the end of a list leaves it as it was
pub sets_past : (bytes out : List ℕ) (end : ℕ) → length out ≤ end → sets out end bytes ≡ out
sets_past [] out end h = refl
sets_past (b ∷ bytes) out end h = rw (set_out out end b h) (sets_past bytes out (suc end) (omega arith))
