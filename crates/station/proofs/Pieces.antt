-- A file in pieces of 4 bytes: what a piece holds, and its value.
use Rattle.std.proofs.Common.{◌≡◌, ℕ, zero, suc, ◌+◌, ◌*◌, ◌<◌, List, [], take, drop, get_or, refl, ap, ◌∙◌, arith, get_or-drop, get_or-take, to_z}
use Rattle.std.proofs.lemmas.List.{drop-drop}
use Rattle.std.specs.Int.{w32, cast_signed, from_be_bytes}
use Rattle.std.specs.List.{slice_index}
use Rattle.std.specs.Simd.{first_chunks}
use lib.IntN.{ℤ}
use Rattle.station.specs.Values.{value_in}

piece_is : (k i : ℕ) (xs : List ℕ) → i < k → get_or (first_chunks 4 k xs) i [] ≡ take 4 (drop (4 * i) xs)
piece_is zero i xs h = absurd (omega arith)
piece_is (suc k) zero xs h = refl
piece_is (suc k) (suc i) xs h =
    let next : 4 + 4 * i ≡ 4 * suc i = omega arith in
    piece_is k i (drop 4 xs) (omega arith) ∙ ap (take 4) (drop-drop (4 * i) 4 xs ∙ ap (λ n. drop n xs) next)

module _ (bytes : List ℕ) {pieces : List (List ℕ)} (k : ℕ) (all : pieces ≡ first_chunks 4 k bytes) (i : ℕ) (h : i < k) where
  abbrev piece : List ℕ
  piece = get_or pieces i []

  byte_is : (j : ℕ) (at : ℕ) → j < 4 → 4 * i + j ≡ at → slice_index piece j ≡ get_or bytes at 0
  byte_is j at l e =
      ap (λ p. get_or p j 0) (ap (λ p. get_or p i []) all ∙ piece_is k i bytes h)
      ∙ (rw (get_or-take, get_or-drop))
      ∙ ap (λ n. get_or bytes n 0) e

  pub value_is : {r : ℤ} → r ≡ cast_signed w32 (from_be_bytes w32 piece) → r ≡ value_in bytes i
  value_is e =
      e
      ∙ ap (to_z w32)
      (omega (
        arith,
        byte_is 0 (4 * i) (omega arith) (omega arith),
        byte_is 1 (4 * i + 1) (omega arith) (omega arith),
        byte_is 2 (4 * i + 2) (omega arith) (omega arith),
        byte_is 3 (4 * i + 3) (omega arith) (omega arith),
      ))
