-- `levels_of`: kind by kind.
use mathlib.Core.Path.{◌≡◌}
use Prim.Native.Nat.{ℕ, ◌<◌}
use native.Mathlib.Omega.{arith}
use Rattle.layout.specs.declared.parts.Part.{Part}
use Rattle.layout.specs.Entries.{part_of}
use Rattle.requirements.specs.declared.levelled.LevelledScript.{LevelledScript}
use Rattle.requirements.proofs.ExpressionLevels.{ReadExpression, at_constant, register_known, at_register, negated_known, at_negated, first_operand, second_operand, at_binary}
use Rattle.requirements.proofs.levelled.LevelledScript.+levels_of.Goals as goal

-- the part that was read is that of expression e
read :
    (f : LevelledScript) {e : ℕ} {p : Part} → e < f.checked.file.layout.expressions →
    p ≡ part_of f.checked.file.bytes.now e → ReadExpression f e p
read f known same = record { known = known; same = same }

pub returns-in-Constant : goal.returns-in-Constant
returns-in-Constant t c = at_constant (read c.args.self.now c.requires c.part-part.ensures.part) (c.in-Constant.ensures)

pub name_level-requires : goal.name_level-requires
name_level-requires t c =
    register_known (read c.args.self.now c.requires c.part-part.ensures.part) (c.in-Register.ensures)

pub returns-in-Register : goal.returns-in-Register
returns-in-Register t c =
    at_register (read c.args.self.now c.requires c.part-part.ensures.part) (c.in-Register.ensures) _ c.name_level.ensures

pub levels_of-requires : goal.levels_of-requires
levels_of-requires t c =
    let k = negated_known (read c.args.self.now c.requires c.part-part.ensures.part) (c.in-Not.ensures) in
    (omega (arith, k.0), k.1)

pub returns-in-Not : goal.returns-in-Not
returns-in-Not t c =
    at_negated (read c.args.self.now c.requires c.part-part.ensures.part) (c.in-Not.ensures) _ c.levels_of.ensures

pub levels_of-left-requires : goal.levels_of-left-requires
levels_of-left-requires t c =
    let w = c.in_default in
    let k =
    first_operand (read c.args.self.now c.requires c.part-part.ensures.part) _ c.from_number.ensures w.not-Constant
    w.not-Register
    w.not-Not in
    (omega (arith, k.0), k.1)

pub levels_of-right-requires : goal.levels_of-right-requires
levels_of-right-requires t c =
    let w = c.in_default in
    let k =
    second_operand (read c.args.self.now c.requires c.part-part.ensures.part) _ c.from_number.ensures w.not-Constant
    w.not-Register
    w.not-Not in
    (omega (arith, k.0), k.1)

pub returns-in_default : goal.returns-in_default
returns-in_default t c =
    let w = c.in_default in
    at_binary (read c.args.self.now c.requires c.part-part.ensures.part) _ c.from_number.ensures w.not-Constant
    w.not-Register
    w.not-Not
    _
    _
    _
    c.levels_of-left.ensures
    c.levels_of-right.ensures
    c.union.ensures
