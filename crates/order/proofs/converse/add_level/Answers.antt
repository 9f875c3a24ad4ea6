-- `add_level`: the sets of the levels below j have level i where they should.
use Rattle.std.proofs.Common.{◌≡◌, cond, ℕ, ◌+◌, ◌*◌, ◌/◌, ◌%◌, ◌^◌, ◌<◌, ◌≤◌, List, get_or, refl, sym, ap, ◌∙◌, rules, arith}
use native.Mathlib.Nat.{le_refl, le_of_suc-le-suc, zero-lt-suc, mod-lt, mod-eq_of_lt, mul-le-mul}
use borrow.Author.Tests.{lt-ltb, le-ltb}
use Rattle.std.proofs.lemmas.Grind.{common_steps}
use Rattle.std.proofs.lemmas.Bool.Decides.{nat_tests}
use lib.Dec.{ltb}
use lib.Pow.{pow_mono, pow-lt}
use Rattle.prelude.proofs.Sets.{set_more, set_lt}
use Rattle.prelude.proofs.Tables.{table_at, is_table}
use Rattle.book.specs.LevelBook.{most_levels, at_or_below}
use Rattle.order.specs.Rows.{lower_levels, converse_rows}
use Rattle.order.proofs.converse.add_level.Goals as goal

row_at : (rs : List ℕ) (i k : ℕ) → k < most_levels → get_or (converse_rows rs i) k 0 ≡ lower_levels rs i k
unfolding converse_rows
row_at rs i k h = table_at _ most_levels k 0 h

module _ (rs : List ℕ) (i j : ℕ) (few : i < most_levels) where
  abbrev digit : ℕ
  digit = get_or rs i 0 / 2 ^ j % 2

  digit_fits : digit * 2 ^ i % 65536 ≡ digit * 2 ^ i
  digit_fits =
      let small : digit ≤ 1 = le_of_suc-le-suc (mod-lt _ (zero-lt-suc 1)) in
      let power : 2 ^ i < 65536 = pow-lt {j = 16} few in
      mod-eq_of_lt (omega (arith, mul-le-mul small (le_refl (2 ^ i))))

  -- with level i
  next : (k : ℕ) → k ≡ lower_levels rs i j → k + digit * 2 ^ i % 65536 ≡ lower_levels rs (i + 1) j
  unfolding lower_levels
  next k e = rw (e, digit_fits) (set_more (λ m. at_or_below rs m j) i digit (mod-lt _ (zero-lt-suc 1)) refl)

  next_fits : lower_levels rs (i + 1) j < 65536
  unfolding lower_levels
  next_fits =
      let power : 2 ^ (i + 1) ≤ 2 ^ 16 = pow_mono {j = 16} (omega arith) in
      omega (arith, set_lt (λ m. at_or_below rs m j) (i + 1))

not_yet : (a b j : ℕ) → cond (ltb j j) a b ≡ b
not_yet a b j = rw (le-ltb j j (omega arith)) refl

pub loop-j-init : goal.loop-j-init
loop-j-init c = (
  c.told-below,
  λ k h. ap (λ b. get_or b k 0) c.requires.1 ∙ row_at c.args.b.now.rows c.args.i k h ∙ sym (rw (le-ltb k 0 (omega arith)) refl),
)

pub overflow_add-below : goal.overflow_add-below
overflow_add-below c =
    let rs = c.args.b.now.rows in
    let here = c.loop-j.invariant.1 c.loop-j.j c.loop-j-test.true ∙ not_yet _ _ c.loop-j.j in
    record { fits = rw (next rs c.args.i c.loop-j.j c.requires.0 _ here) (next_fits rs c.args.i c.loop-j.j c.requires.0) }

pub loop-j-preserved : goal.loop-j-preserved
loop-j-preserved c =
    let here = c.loop-j.invariant.1 c.loop-j.j c.loop-j-test.true ∙ not_yet _ _ c.loop-j.j in
    let done = next c.args.b.now.rows c.args.i c.loop-j.j c.requires.0 _ here in
    (search rules, λ k h. let old = c.loop-j.invariant.1 k h in grind (arith, common_steps, nat_tests, done))

pub returns : goal.returns
unfolding converse_rows
returns c =
    let rs = c.args.b.now.rows in
    is_table 0 c.loop-j.below (lower_levels rs (c.args.i + 1)) most_levels c.loop-j.invariant.0 (λ k h.
    c.loop-j.invariant.1 k h ∙ rw (lt-ltb k c.loop-j.j (omega arith)) refl)
