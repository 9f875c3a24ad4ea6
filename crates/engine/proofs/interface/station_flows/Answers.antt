-- `station_flows`: the sets and the answer's words are stored, where there is room for exactly these.
use mathlib.Core.Path.{◌≡◌, ap, ◌∙◌}
use mathlib.Core.List.{List}
use Prim.Native.Nat.{ℕ}
use lib.ListN.{length}
use Rattle.book.specs.LevelBook.{most_levels}
use Rattle.results.specs.Words.{flows_words}
use Rattle.engine.proofs.Asking.{asked, not_asked}
use Rattle.engine.specs.Interface.{where_both_asked}
use Rattle.engine.proofs.interface.station_flows.Goals as goal

-- of either buffer
module _ {A : Type 0} (out flows : List ℕ) (made before : A) where
  both-asked :
      {a : A} → length out ≡ 2 → length flows ≡ most_levels → a ≡ made →
      a ≡ where_both_asked 2 out most_levels flows made before
  both-asked e f h = asked 2 out _ _ e (asked most_levels flows made before f h)

  other-not-asked :
      length out ≡ 2 → (length flows ≡ most_levels → ⊥) → before ≡ where_both_asked 2 out most_levels flows made before
  other-not-asked e f = asked 2 out _ _ e (not_asked most_levels flows made before f)

pub returns-then-out-ne-FLOWS_WORDS : goal.returns-then-out-ne-FLOWS_WORDS
returns-then-out-ne-FLOWS_WORDS c = record {
  flows_after = not_asked 2 _ _ _ c.if-out-ne-FLOWS_WORDS.true;
  out_after = not_asked 2 _ _ _ c.if-out-ne-FLOWS_WORDS.true;
}

pub returns-then-flows-ne-MAX_LEVELS : goal.returns-then-flows-ne-MAX_LEVELS
returns-then-flows-ne-MAX_LEVELS c = record {
  flows_after = other-not-asked _ _ _ _ c.if-out-ne-FLOWS_WORDS.false c.if-flows-ne-MAX_LEVELS.true;
  out_after = other-not-asked _ _ _ _ c.if-out-ne-FLOWS_WORDS.false c.if-flows-ne-MAX_LEVELS.true;
}

pub returns : goal.returns
returns c = record {
  flows_after =
      both-asked _ _ _ _ c.if-out-ne-FLOWS_WORDS.false c.if-flows-ne-MAX_LEVELS.false
      (c.put_flows.ensures.0 ∙ ap (λ f. f.to) c.flows-f.ensures);
  out_after =
      both-asked _ _ _ _ c.if-out-ne-FLOWS_WORDS.false c.if-flows-ne-MAX_LEVELS.false
      (c.put_flows.ensures.1 ∙ ap flows_words c.flows-f.ensures);
}
