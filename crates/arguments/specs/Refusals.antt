-- 01, the table of refusals, rows 12 to 14, and row 15 of 02 (a); and what run refuses: rows 1 to 11 as check has them,
-- then these. 'The lowest number that applies is given.'
use Rattle.std.specs.Prelude.{Bool, cond, not, ◌&&◌, ◌||◌, List, ℕ, ◌-◌, eqb, ltb, leb, ℤ, pos, length}
use Rattle.language.specs.Calls.{most_steps}
use Rattle.prelude.specs.declared.Refusal.{Refusal}
use Rattle.prelude.specs.Search.{first, lesser}
use Rattle.prelude.specs.Refusals.{refused_by, not_refused, or_else}
use Rattle.book.specs.LevelBook.{count}
use Rattle.values.specs.Values.{same_value}
use Rattle.language.specs.Steps.{held}
use Rattle.inputs.specs.Lists.{instant_at, signal_at, pair_count, pairs_begun}
use Rattle.layout.specs.Layout.{name_count}
use Rattle.layout.specs.Entries.{is_session_name}
use Rattle.tree.specs.Tree.{names_of}
use Rattle.checker.specs.Refusals.{check_refusal}

-- 'values (one signed 32-bit number per name: signals 0 or 1, owned names 0)'
abbrev pub value_is_right : List ℕ → List ℤ → ℕ → Bool
value_is_right s values x =
    (not ((names_of s).is_signal x) || (same_value (held values x) (pos 0) || same_value (held values x) (pos 1)))
    && ((names_of s).is_session x || same_value (held values x) (pos 0))

-- the first name with a wrong value, or the number of names
abbrev pub first_wrong : List ℕ → List ℤ → ℕ
first_wrong s values = first (λ x. not (value_is_right s values x)) (name_count s)

-- row 13: 'length or an entry wrong', '0 for length, which comes first; else first wrong entry'
unfoldable pub values_refusal : List ℕ → List ℤ → Refusal
values_refusal s values =
    cond (not (eqb (length values) (name_count s))) (refused_by 13 0)
    (cond (ltb (first_wrong s values) (name_count s)) (refused_by 13 (first_wrong s values))
    not_refused)

abbrev pub is_session_signal : List ℕ → ℕ → Bool
is_session_signal s a = is_session_name s a && (names_of s).is_signal a

-- Pair k is whole, its instant is neither 0 nor less than that of the pair before it, and it names a session signal. The
-- first pair has none before it and is held against itself.
abbrev pub pair_is_right : List ℕ → List ℕ → ℕ → Bool
pair_is_right s list k =
    ltb k (pair_count list)
    && (ltb 0 (instant_at list k)
    && (leb (instant_at list (k - 1)) (instant_at list k)
    && is_session_signal s (signal_at list k)))

-- the first pair at fault, or the number of pairs
abbrev pub first_faulty : List ℕ → List ℕ → ℕ
first_faulty s list = first (λ k. not (pair_is_right s list k)) (pairs_begun list)

-- a place has 32 bits
abbrev pub last_place : ℕ
last_place = 4294967295

-- row 15: 'instant 0 or falling, not a session signal, or half a pair at the end; place is the first such pair', or the
-- last place if it is a later one
unfoldable pub list_refusal : List ℕ → List ℕ → Refusal
list_refusal s list =
    cond
    (ltb (first_faulty s list) (pairs_begun list))
    (refused_by 15 (lesser (first_faulty s list) last_place))
    not_refused

-- rows 12 to 15, under a book of so many levels: 'level not in book'; 13; 'above 1,000,000'; 15
unfoldable pub call_refusal : ℕ → List ℕ → ℕ → List ℤ → ℕ → List ℕ → Refusal
call_refusal levels s reader values limit list =
    cond (not (ltb reader levels)) (refused_by 12 0)
    (or_else (values_refusal s values)
    (cond (ltb most_steps limit) (refused_by 14 0)
    (list_refusal s list)))

-- what run refuses
unfoldable pub run_refusal : List ℕ → List ℕ → ℕ → List ℤ → ℕ → List ℕ → Refusal
run_refusal b s reader values limit list =
    or_else (check_refusal b s) (call_refusal (count b) s reader values limit list)
