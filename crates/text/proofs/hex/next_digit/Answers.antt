-- `next_digit`: the digits from index i on are those of the line.
use mathlib.Core.Path.{◌∙◌}
use Rattle.std.proofs.Common.{rules}
use Rattle.text.proofs.Digits.{digits_none, digits_remark, digit_found, digit_passed}
use Rattle.text.proofs.hex.next_digit.Goals as goal

pub returns-then-c-eq35 : goal.returns-then-c-eq35
returns-then-c-eq35 c = c.loop-i.invariant ∙ digits_remark _ _ c.loop-i-test.true c.if-c-eq35.true

pub returns-in-Some : goal.returns-in-Some
returns-in-Some c = digit_found _ _ c.loop-i-test.true c.if-c-eq35.false c.loop-i.invariant _ (search rules)

pub loop-i-preserved : goal.loop-i-preserved
loop-i-preserved c = digit_passed _ _ c.loop-i-test.true c.if-c-eq35.false c.loop-i.invariant (search rules)

pub returns : goal.returns
returns c = c.loop-i.invariant ∙ digits_none _ _ c.loop-i-test.false
