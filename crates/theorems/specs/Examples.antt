-- 01, 'Peg list': the starred examples and the program's own, and some of 02, in one table: the bytes and numbers of a
-- call, what check answers, and what run leaves.
use Rattle.std.specs.Prelude.{◌≡◌, List, [], ◌∷◌, ◌++◌, map, ℕ, ◌-◌, ◌/◌, ◌%◌, ℤ, pos, negsuc, length, replicate, Option, Some, None}
use Rattle.layout.specs.Entries.{session}
use Rattle.layout.specs.Files.{name, part, all, file}
use Rattle.language.specs.Kinds.{nil, assign, if_then_else, while, sequence, emit, watching, when, parallel}
use Rattle.results.specs.declared.Verdict.{Verdict}
use Rattle.results.specs.Results.{result_by}
use Rattle.engine.specs.Answers.{Left, verdict, left}

-- 'Book 02 0003 0002 (hexadecimal): level 0 is L, 1 is H; the letter shows a name's level.'
abbrev book : List ℕ
book = 2 ∷ 0 ∷ 3 ∷ 0 ∷ 2 ∷ []

abbrev L : ℕ
L = 0

abbrev H : ℕ
H = 1

abbrev register : ℕ → List ℕ
register level = name 0 level session

abbrev signal : ℕ → List ℕ
signal level = name 1 level session

-- expressions: a constant, from the word that is its two's complement; a register's value; a sum; a quotient
abbrev constant : ℕ → List ℕ
constant w = part 0 0 (w / 65536) (w % 65536)

abbrev value_of : ℕ → List ℕ
value_of x = part 1 x 0 0

abbrev add : ℕ → ℕ → List ℕ
add a b = part 2 a b 0

abbrev divide : ℕ → ℕ → List ℕ
divide a b = part 5 a b 0

-- A log has room for 256 lines. Its words hold 9 before the call, so that those left untouched show.
abbrev log_with : List (List ℕ) → List ℕ
log_with lines = all lines ++ replicate (1024 - length (all lines)) 9

pub record Example : Type 0 where
  pub book : List ℕ
  pub script : List ℕ
  pub reader : ℕ
  pub values : List ℤ
  pub limit : ℕ
  pub list : List ℕ
  pub log : List ℕ
  pub checked : Verdict
  pub ran : Left

-- A call on a script with these values and no list, for the reader 0 and at most so many steps; what comes out.
abbrev call : List ℕ → List ℤ → ℕ → Verdict → Left → Example
call s values limit checked ran =
    record {
      book = book;
      script = s;
      reader = 0;
      values = values;
      limit = limit;
      list = [];
      log = log_with [];
      checked = checked;
      ran = ran;
    }

-- a script that is refused for its flow, at this node
abbrev refused_at : ℕ → List ℕ → List ℤ → Example
refused_at place s values =
    call s values 1000
    (record { number = 11; place = place; write = 0; test = 0; moves = None })
    (record {
      result = record { number = 11; place = place; ending = 0; steps = 0; instants = 0; lines = 0 };
      values = values;
      log = log_with [];
    })

abbrev finished : ℕ
finished = 0

abbrev spent : ℕ
spent = 1

-- a script with this W and T, and this bound on its moves, that runs: how it ends, after how many steps and instants, its
-- lines, its values
abbrev runs :
    List ℕ → List ℤ → ℕ → ℕ → ℕ → Option ℕ → ℕ → ℕ → ℕ → List (List ℕ) → List ℤ → Example
runs s values limit write test moves ending steps instants lines after =
    call s values limit
    (record { number = 0; place = 0; write = write; test = test; moves = moves })
    (record { result = result_by ending steps instants (length lines); values = after; log = log_with lines })

-- x := e, for the register x at L and an operator of two constants: the value that x gets, and its word in the log
abbrev assigns : ℕ → ℕ → List ℕ → ℤ → ℕ → Example
assigns a b operator v word =
    runs
    (file (register L ∷ []) (constant a ∷ constant b ∷ operator ∷ []) (part assign 0 2 0 ∷ []))
    (pos 0 ∷ []) 1000 L L (Some 1)
    finished 1 0 ((1 ∷ 0 ∷ 0 ∷ word ∷ []) ∷ []) (v ∷ [])

-- emit a; emit a, for the signal a at L, absent or present before: its lines
abbrev emits_twice : ℤ → List (List ℕ) → Example
emits_twice before lines =
    runs
    (file (signal L ∷ []) [] (part emit 0 0 0 ∷ part emit 0 0 0 ∷ part sequence 0 1 0 ∷ []))
    (before ∷ []) 1000 L L (Some 3)
    finished 3 0 lines (pos 1 ∷ [])

abbrev pub examples : List Example
examples =
    -- nil: W 1, T 0
    runs (file [] [] (part nil 0 0 0 ∷ [])) [] 1000 H L (Some 0) finished 0 0 [] []
    -- y_L := x_H: 11
    ∷ refused_at 0
    (file (register L ∷ register H ∷ []) (value_of 1 ∷ []) (part assign 0 0 0 ∷ []))
    (pos 0 ∷ pos 5 ∷ [])
    -- if x_H then y_L := 0 else nil: 11
    ∷ refused_at 2
    (file
    (register L ∷ register H ∷ [])
    (constant 0 ∷ value_of 1 ∷ [])
    (part assign 0 0 0 ∷ part nil 0 0 0 ∷ part if_then_else 1 0 1 ∷ []))
    (pos 3 ∷ pos 5 ∷ [])
    -- (when a_H do nil); emit b_L: 11
    ∷ refused_at 3
    (file
    (signal H ∷ signal L ∷ [])
    []
    (part nil 0 0 0 ∷ part when 0 0 0 ∷ part emit 1 0 0 ∷ part sequence 1 2 0 ∷ []))
    (pos 1 ∷ pos 0 ∷ [])
    -- emit c_L; (do (when a_H do emit b_L) watching c_L): 11
    ∷ refused_at 2
    (file
    (signal H ∷ signal L ∷ signal L ∷ [])
    []
    (part emit 2 0 0 ∷ part emit 1 0 0 ∷ part when 0 1 0 ∷ part watching 2 2 0 ∷ part sequence 0 3 0 ∷ []))
    (pos 1 ∷ pos 0 ∷ pos 0 ∷ [])
    -- (while x_H do nil); y_L := 0: 11
    ∷ refused_at 3
    (file
    (register L ∷ register H ∷ [])
    (value_of 1 ∷ constant 0 ∷ [])
    (part nil 0 0 0 ∷ part while 0 0 0 ∷ part assign 0 1 0 ∷ part sequence 1 2 0 ∷ []))
    (pos 3 ∷ pos 0 ∷ [])
    -- y_L := 0 parallel (if x_H then nil else nil): 11
    ∷ refused_at 4
    (file
    (register L ∷ register H ∷ [])
    (constant 0 ∷ value_of 1 ∷ [])
    (part assign 0 0 0
    ∷ part nil 0 0 0
    ∷ part nil 0 0 0
    ∷ part if_then_else 1 1 2
    ∷ part parallel 0 3 0
    ∷ []))
    (pos 3 ∷ pos 5 ∷ [])
    -- when b do nil, b absent, limit 3: spent, 3 steps, 3 instants
    ∷ runs
    (file (signal L ∷ []) [] (part nil 0 0 0 ∷ part when 0 0 0 ∷ []))
    (pos 0 ∷ []) 3 H L (Some 1)
    spent 3 3 [] (pos 0 ∷ [])
    -- (when b do nil) watching a, a present, b absent: finished, 1 step, 1 instant
    ∷ runs
    (file (signal L ∷ signal L ∷ []) [] (part nil 0 0 0 ∷ part when 1 0 0 ∷ part watching 0 1 0 ∷ []))
    (pos 1 ∷ pos 0 ∷ []) 1000 H L (Some 2)
    finished 1 1 [] (pos 0 ∷ pos 0 ∷ [])
    -- (when a do x := 1) parallel emit a, all L, a absent: 5 steps; lines stamped 2 and 4
    ∷ runs
    (file
    (register L ∷ signal L ∷ [])
    (constant 1 ∷ [])
    (part assign 0 0 0 ∷ part when 1 0 0 ∷ part emit 1 0 0 ∷ part parallel 1 2 0 ∷ []))
    (pos 0 ∷ pos 0 ∷ []) 1000 L L (Some 8)
    finished 5 0 ((2 ∷ 0 ∷ 1 ∷ 1 ∷ []) ∷ (4 ∷ 0 ∷ 0 ∷ 1 ∷ []) ∷ []) (pos 1 ∷ pos 1 ∷ [])
    -- 2147483647 + 1 is 2147483647; −2147483648 / −1 is 2147483647; −7 / 2 is −4; 5 / 0 is 0
    ∷ assigns 2147483647 1 (add 0 1) (pos 2147483647) 2147483647
    ∷ assigns 2147483648 4294967295 (divide 0 1) (pos 2147483647) 2147483647
    ∷ assigns 4294967289 2 (divide 0 1) (negsuc 3) 4294967292
    ∷ assigns 5 0 (divide 0 1) (pos 0) 0
    -- 5 / 2 is 2; 7 / 2 is 4; −5 / 2 is −2; 1 / 2 is 0; −1 / 2 is 0; 3 / 2 is 2; −2147483648 / 2147483647 is −1
    ∷ assigns 5 2 (divide 0 1) (pos 2) 2
    ∷ assigns 7 2 (divide 0 1) (pos 4) 4
    ∷ assigns 4294967291 2 (divide 0 1) (negsuc 1) 4294967294
    ∷ assigns 1 2 (divide 0 1) (pos 0) 0
    ∷ assigns 4294967295 2 (divide 0 1) (pos 0) 0
    ∷ assigns 3 2 (divide 0 1) (pos 2) 2
    ∷ assigns 2147483648 2147483647 (divide 0 1) (negsuc 0) 4294967295
    -- emit a; emit a, a absent: 3 steps, a line stamped 1; a present: no line
    ∷ emits_twice (pos 0) ((1 ∷ 0 ∷ 0 ∷ 1 ∷ []) ∷ [])
    ∷ emits_twice (pos 1) []
    -- while x do nil, x 0: no bound on the moves; one step
    ∷ runs
    (file (register L ∷ []) (value_of 0 ∷ []) (part nil 0 0 0 ∷ part while 0 0 0 ∷ []))
    (pos 0 ∷ []) 1000 H L None
    finished 1 0 [] (pos 0 ∷ [])
    -- values 00000000 and script 0000FFFF 0000000000000007 0100000000000000 0004000C00145354: 'accepted 0 0', '1 0 0 7',
    -- 'finished 1 0'
    ∷ runs
    (0 ∷ 0 ∷ 255 ∷ 255
    ∷ 0 ∷ 0 ∷ 0 ∷ 0 ∷ 0 ∷ 0 ∷ 0 ∷ 7
    ∷ 1 ∷ 0 ∷ 0 ∷ 0 ∷ 0 ∷ 0 ∷ 0 ∷ 0
    ∷ 0 ∷ 4 ∷ 0 ∷ 12 ∷ 0 ∷ 20 ∷ 83 ∷ 84
    ∷ [])
    (pos 0 ∷ []) 1000 L L (Some 1)
    finished 1 0 ((1 ∷ 0 ∷ 0 ∷ 7 ∷ []) ∷ []) (pos 7 ∷ [])
    ∷ []

-- what the two calls answer, and what must come out
abbrev pub answers : Example → Verdict × Left
answers p = (
  verdict p.book p.script,
  left p.book p.script p.reader p.values p.limit p.list p.log,
)

abbrev pub comes_out : Example → Verdict × Left
comes_out p = (p.checked, p.ran)

abbrev pub ExamplesHold : Type 0
ExamplesHold = map answers examples ≡ map comes_out examples
