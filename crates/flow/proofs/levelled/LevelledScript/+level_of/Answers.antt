-- `level_of`: kind by kind.
use mathlib.Core.Path.{◌≡◌}
use Prim.Native.Nat.{ℕ, ◌<◌}
use native.Mathlib.Omega.{arith}
use Rattle.layout.specs.declared.parts.Part.{Part}
use Rattle.layout.specs.Entries.{part_of}
use Rattle.flow.specs.declared.levelled.LevelledScript.{LevelledScript}
use Rattle.flow.proofs.ExpressionLevels.{ReadExpression, at_constant, register_known, at_register, negated_known, at_negated, first_operand, second_operand, at_binary}
use Rattle.flow.proofs.BookLevels.{bottom_inside}
use Rattle.flow.proofs.levelled.LevelledScript.+level_of.Goals as goal

-- the part that was read is that of expression e
read :
    (f : LevelledScript) {e : ℕ} {p : Part} → e < f.checked.file.layout.expressions →
    p ≡ part_of f.checked.file.bytes.now e → ReadExpression f e p
read f known same = record { known = known; same = same }

pub returns-in-Constant : goal.returns-in-Constant
returns-in-Constant t c =
    let l = c.args.self.now.levels in
    at_constant (read c.args.self.now c.requires c.part-part.ensures.part) (c.in-Constant.ensures) l.least (bottom_inside l)

pub name-requires : goal.name-requires
name-requires t c = register_known (read c.args.self.now c.requires c.part-part.ensures.part) (c.in-Register.ensures)

pub returns-in-Register : goal.returns-in-Register
returns-in-Register t c =
    at_register (read c.args.self.now c.requires c.part-part.ensures.part) (c.in-Register.ensures) c.name.ensures.name

pub level_of-requires : goal.level_of-requires
level_of-requires t c =
    let k = negated_known (read c.args.self.now c.requires c.part-part.ensures.part) (c.in-Not.ensures) in
    (omega (arith, k.0), k.1)

pub returns-in-Not : goal.returns-in-Not
returns-in-Not t c =
    at_negated (read c.args.self.now c.requires c.part-part.ensures.part) (c.in-Not.ensures) c.level_of.ensures

pub level_of-left-requires : goal.level_of-left-requires
level_of-left-requires t c =
    let w = c.in_default in
    let k =
    first_operand (read c.args.self.now c.requires c.part-part.ensures.part) _ c.from_number.ensures w.not-Constant w.not-Register w.not-Not in
    (omega (arith, k.0), k.1)

pub level_of-right-requires : goal.level_of-right-requires
level_of-right-requires t c =
    let w = c.in_default in
    let k =
    second_operand (read c.args.self.now c.requires c.part-part.ensures.part) _ c.from_number.ensures w.not-Constant w.not-Register w.not-Not in
    (omega (arith, k.0), k.1)

pub returns-in_default : goal.returns-in_default
returns-in_default t c =
    let w = c.in_default in
    at_binary (read c.args.self.now c.requires c.part-part.ensures.part) _ c.from_number.ensures w.not-Constant w.not-Register w.not-Not
    c.level_of-left.ensures
    c.level_of-right.ensures
    c.join.ensures.same
    c.join.ensures.inside
