-- `line_end`: the first line break is the end of the line, unless the text ends before.
use Rattle.std.proofs.Common.{◌≡◌, ℕ, rules}
use Rattle.std.proofs.lemmas.Iterator.{IsFirst-from_position, YieldsList-from_slice}
use borrow.Author.Tests.{tests}
use Rattle.text.proofs.Lines.{first_break, no_break}
use Rattle.text.proofs.hex.line_end.Goals as goal

pub returns-in-Some : goal.returns-in-Some
returns-in-Some c =
    first_break _ _ c.requires _
    (IsFirst-from_position _ _ _ (λ (x : ℕ). x ≡ 10) (λ (x : ℕ). x ≡ 10 → ⊥) c.in-Some.ensures.ran (YieldsList-from_slice _ c.iter.ensures.rest) (λ x q k. search (rules, tests)) (λ x q k. search (rules, tests)))

pub returns-in-None : goal.returns-in-None
returns-in-None c =
    no_break _ _ c.requires
    (IsFirst-from_position _ _ _ (λ (x : ℕ). x ≡ 10) (λ (x : ℕ). x ≡ 10 → ⊥) c.in-None.ensures.ran (YieldsList-from_slice _ c.iter.ensures.rest) (λ x q k. search (rules, tests)) (λ x q k. search (rules, tests)))
