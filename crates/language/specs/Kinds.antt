-- 01, 'Script file': the kinds of processes, by their numbers.
use Rattle.std.specs.Prelude.{ℕ}

abbrev pub nil : ℕ
nil = 0

abbrev pub assign : ℕ
assign = 1

abbrev pub let_in : ℕ
let_in = 2

abbrev pub if_then_else : ℕ
if_then_else = 3

abbrev pub while : ℕ
while = 4

abbrev pub sequence : ℕ
sequence = 5

abbrev pub emit : ℕ
emit = 6

abbrev pub local : ℕ
local = 7

abbrev pub watching : ℕ
watching = 8

abbrev pub when : ℕ
when = 9

abbrev pub parallel : ℕ
parallel = 10
