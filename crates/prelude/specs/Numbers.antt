-- 01: 'File numbers are unsigned and big-endian; two-byte fields unless said'.
use Rattle.std.specs.Prelude.{ℕ, ◌+◌, ◌*◌}

abbrev pub word : ℕ → ℕ → ℕ
word high low = 256 * high + low
