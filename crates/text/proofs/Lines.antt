-- The end of a line: the first line break is its own.
use mathlib.Core.Path.{◌≡◌, sym, ◌∙◌}
use mathlib.Core.Bool.{Bool, true, false}
use mathlib.Core.List.{List}
use Prim.Native.Nat.{ℕ, zero, suc, ◌+◌, ◌-◌, ◌≤◌, ◌<◌}
use native.Mathlib.Nat.{add-zero}
use native.Mathlib.Omega.{arith}
use lib.ListN.{length, drop, take, get_or}
use Rattle.std.proofs.Common.{length-take, length-drop, get_or-take, get_or-drop}
use borrow.Author.Tests.{eq-eqb, ne_eqb}
use Rattle.std.specs.List.{AllWithin, HoldsAt}
use Rattle.prelude.specs.Search.{first_from}
use Rattle.text.specs.Hex.{is_break, LineEnds}

-- a search that finds nothing before index i, and stops there
stops_at :
    (f : ℕ → Bool) (at m i : ℕ) → i ≤ m → (i < m → f (at + i) ≡ true) → ((k : ℕ) → k < i → f (at + k) ≡ false) →
    first_from f at m ≡ at + i
unfolding first_from
stops_at f at zero zero h here before = sym (add-zero at)
stops_at f at zero (suc i) h here before = absurd (omega arith)
stops_at f at (suc m) zero h here before =
    let e : f at ≡ true = rw add-zero at (here (omega arith)) in
    rw (e, add-zero)
stops_at f at (suc m) (suc i) h here before =
    let e : f at ≡ false = rw add-zero at (before 0 (omega arith)) in
    let next : (k : ℕ) → at + suc k ≡ suc at + k = λ k. omega arith in
    rw e
    (stops_at f (suc at) m i (omega arith)
    (λ l. rw (next i) at (here (omega arith)))
    (λ k l. rw (next k) at (before (suc k) (omega arith)))
    ∙ sym (next i))

module _ (text : List ℕ) (at : ℕ) (inside : at < length text) where
  -- the text from there on
  abbrev tail : List ℕ
  tail = take (length text - at) (drop at text)

  tail_length : length tail ≡ length text - at
  tail_length = simp (length-take, length-drop) (omega arith)

  tail_at : (i : ℕ) → i < length tail → get_or tail i 0 ≡ get_or text (at + i) 0
  tail_at i h = let l : i < length text - at = omega (arith, tail_length) in rw (get_or-take, get_or-drop)

  -- an index before which there is no line break, and at which there is one, unless it is the last
  line_ends :
      (i : ℕ) → at + i < length text → (at + suc i < length text → get_or text (at + i) 0 ≡ 10) →
      ((k : ℕ) → k < i → get_or text (at + k) 0 ≡ 10 → ⊥) → LineEnds text at (at + i + 1)
  line_ends i h here before =
      let e : first_from (is_break text) at (length text - 1 - at) ≡ at + i =
      stops_at (is_break text) at _ i (omega arith) (λ l. eq-eqb _ _ (here (omega arith))) (λ k l. ne_eqb _ _ (before k l))
      in
      record { after = omega arith; within = omega arith; end = omega (arith, e) }

  pub first_break :
      (i : ℕ) → (i < length tail) × HoldsAt (λ x. x ≡ 10) tail i × AllWithin (λ x. x ≡ 10 → ⊥) tail 0 i →
      LineEnds text at (at + i + 1)
  first_break i (h, here, before) =
      line_ends i (omega (arith, tail_length, h)) (λ l. sym (tail_at i h) ∙ here 0)
      (λ k l e. before k 0 (omega arith) l (tail_at k (omega arith) ∙ e))

  pub no_break : AllWithin (λ x. x ≡ 10 → ⊥) tail 0 (length tail) → LineEnds text at (length text)
  no_break before =
      let ends = line_ends (length text - 1 - at) (omega arith) (λ l. absurd (omega arith))
      (λ k l e. before k 0 (omega arith) (omega (arith, tail_length)) (tail_at k (omega (arith, tail_length)) ∙ e)) in
      let last : at + (length text - 1 - at) + 1 ≡ length text = omega arith in
      rw last at ends
