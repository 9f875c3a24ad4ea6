-- What was packed into a word is what it tells.
use mathlib.Core.Path.{◌≡◌, refl, ap, ◌∙◌}
use mathlib.Core.Bool.{Bool, true, false}
use Prim.Native.Nat.{ℕ, zero, suc, ◌+◌, ◌*◌, ◌/◌, ◌%◌, ◌^◌, ◌<◌}
use native.Mathlib.Omega.{arith}
use lib.Dec.{eqb}
use Rattle.packing.specs.Packing.{form_in, a_in, b_in, first_in, size_in, node_kind_in, watches_in, packed_fields, marked, packed_node, level_in, signal_in, session_in, seen_in, bit, packed_name}

-- the forms are the lowest 16 bits
pub low : (forms rest tag : ℕ) → tag < 4 → form_in (forms + 65536 * rest) tag ≡ form_in forms tag
low forms rest zero l = omega arith
low forms rest (suc zero) l = omega arith
low forms rest (suc (suc zero)) l = omega arith
low forms rest (suc (suc (suc zero))) l = omega arith
low forms rest (suc (suc (suc (suc t)))) l = absurd (omega (arith, l))

-- the fields of a packed word, whatever its forms and its kind are
module _ (forms kind a b first size : ℕ) (few : forms < 65536) where
  abbrev pub made : ℕ
  made = packed_node forms (packed_fields a b first size) kind

  pub a_told : a_in made ≡ a % 1024
  a_told = omega (arith, few)

  pub b_told : b_in made ≡ b % 1024
  b_told = omega (arith, few)

  pub first_told : first_in made ≡ first % 1024
  first_told = omega (arith, few)

  pub size_told : size_in made ≡ size % 1024
  size_told = omega (arith, few)

-- a bit that was packed
bit_told : (b : Bool) → eqb (bit b) 1 ≡ b
bit_told true = refl
bit_told false = refl

pub bit_small : (b : Bool) → bit b < 2
bit_small true = omega arith
bit_small false = omega arith

-- its kind, and its mark
module _ (forms a b first size kind : ℕ) (few : forms < 65536) (fits : kind < 128) (w : Bool) where
  abbrev marks : ℕ
  marks = made forms (marked kind w) a b first size few

  pub kind_told : node_kind_in marks ≡ kind
  kind_told = omega (arith, few, fits, bit_small w)

  pub mark_told : watches_in marks ≡ w
  mark_told =
      let e : marks / 2 ^ 63 ≡ bit w = omega (arith, few, fits, bit_small w) in ap (λ n. eqb n 1) e ∙ bit_told w

-- the word of a name
module _ (level kind : ℕ) (session seen : Bool) (h : level < 256) (k : kind < 2) where
  abbrev name_word_lem : ℕ
  name_word_lem = packed_name level kind session seen

  pub level_told : level_in name_word_lem ≡ level
  level_told = omega (arith, h, k, bit_small session)

  pub signal_told : signal_in name_word_lem ≡ eqb kind 1
  signal_told =
      let e : name_word_lem / 256 % 2 ≡ kind = omega (arith, h, k, bit_small session) in ap (λ n. eqb n 1) e

  pub session_told : session_in name_word_lem ≡ session
  session_told =
      let e : name_word_lem / 512 % 2 ≡ bit session = omega (arith, h, k, bit_small session, bit_small seen) in
      ap (λ n. eqb n 1) e ∙ bit_told session

  pub seen_told : seen_in name_word_lem ≡ seen
  seen_told =
      let e : name_word_lem / 1024 ≡ bit seen = omega (arith, h, k, bit_small session, bit_small seen) in
      ap (λ n. eqb n 1) e ∙ bit_told seen
