-- 01: 'values.val (4-byte signed; a last piece under 4 bytes is a wrong length)'; big-endian, as every number of a file.
use Rattle.std.specs.Prelude.{◌≡◌, Bool, cond, ◌&&◌, List, ℕ, ◌+◌, ◌*◌, ◌/◌, ◌%◌, ◌≤◌, eqb, leb, ℤ, get_or, length, take, Option, Some, None, IfSome}
use Rattle.std.specs.Int.{w32}
use Rattle.std.proofs.Common.{to_z}
use Rattle.prelude.specs.Numbers.{word}
use Rattle.prelude.specs.Table.{table}

-- four bytes from this offset on: as an unsigned number, and as a value
abbrev pub long_word_at : List ℕ → ℕ → ℕ
long_word_at bytes at =
    65536 * word (get_or bytes at 0) (get_or bytes (at + 1) 0) + word (get_or bytes (at + 2) 0) (get_or bytes (at + 3) 0)

abbrev pub value_at : List ℕ → ℕ → ℤ
value_at bytes at = to_z w32 (long_word_at bytes at)

-- value i of a file
abbrev pub value_in : List ℕ → ℕ → ℤ
value_in bytes i = value_at bytes (4 * i)

-- whole values, for which there is room
abbrev pub is_right : ℕ → List ℕ → Bool
is_right room bytes = eqb (length bytes % 4) 0 && leb (length bytes / 4) room

-- All values of a file have been read, n of them; none of a wrong length.
pub record ValuesRead (bytes : List ℕ) (room : ℕ) (values : List ℤ) (n : Option ℕ) : Type 0 where
  pub count : n ≡ cond (is_right room bytes) (Some (length bytes / 4)) None
  pub within : IfSome n (λ k. k ≤ length values)
  pub read : IfSome n (λ k. take k values ≡ table (value_in bytes) k)
