-- What the tests of the tail and of the counts tell: a file that passes both is laid out as its counts say.
use mathlib.Core.Path.{◌≡◌, ap, ◌∙◌}
use mathlib.Core.Bool.{true}
use mathlib.Core.List.{List}
use Prim.Native.Nat.{ℕ, ◌+◌, ◌*◌, ◌≤◌, ◌<◌}
use native.Mathlib.Omega.{arith}
use borrow.Author.Rules.{rules}
use lib.ListN.{length}
use Rattle.layout.specs.declared.Script.{Script}
use Rattle.layout.specs.Layout.{most_names, most_expressions, most_nodes, most_parts, name_count, part_count, tail_is_right, counts_are_right, layout_of, expression_count, node_count}
use Rattle.layout.specs.Promises.{Laid, PartWithin}

pub few_bounds :
    (c : Script) → counts_are_right c ≡ true →
    (c.names ≤ most_names) × ((c.expressions ≤ most_expressions) × ((1 ≤ c.nodes) × (c.nodes ≤ most_nodes)))
few_bounds c h = search rules

pub laid : (s : List ℕ) → tail_is_right s ≡ true → counts_are_right (layout_of s) ≡ true → Laid s (layout_of s)
laid s h few = search rules

-- the bytes of a name lie in the file
pub name_within : {s : List ℕ} {c : Script} {x : ℕ} → Laid s c → x < c.names → 4 * x + 4 ≤ length s
name_within l h = omega (arith, h, l.touching, l.whole)

-- and those of a part
pub part_within :
    {s : List ℕ} {c : Script} {offset q : ℕ} → Laid s c → offset ≡ c.offset → q < c.expressions + c.nodes →
    PartWithin s offset q
part_within l e h = record { start = e ∙ ap (λ z. z.offset) l.same; whole = omega (arith, h, e, l.whole) }

-- the counts of a file that is laid out
module _ {s : List ℕ} {c : Script} (laid : Laid s c) where
  pub names_are : c.names ≡ name_count s
  names_are = ap (λ z. z.names) laid.same

  pub expressions_are : c.expressions ≡ expression_count s
  expressions_are = ap (λ z. z.expressions) laid.same

  pub nodes_are : c.nodes ≡ node_count s
  nodes_are = ap (λ z. z.nodes) laid.same

  pub parts_are : c.expressions + c.nodes ≡ part_count s
  parts_are = ap (λ z. z.expressions + z.nodes) laid.same

  pub few_parts : part_count s ≤ most_parts
  few_parts = omega (arith, parts_are, few_bounds c laid.few)
