-- 01, 'Script file': names, and the parts, which are the expressions and then the nodes.
use Rattle.std.specs.Prelude.{Bool, ◌&&◌, List, ℕ, ◌+◌, ◌*◌, eqb, ltb, get_or}
use Rattle.prelude.specs.Search.{count}
use Rattle.layout.specs.declared.parts.NameKind.{NameKind}
use Rattle.layout.specs.declared.parts.NameKind.TheVariants.{Register, Signal}
use Rattle.layout.specs.declared.parts.Name.{Name}
use Rattle.layout.specs.declared.parts.Part.{Part}
use Rattle.layout.specs.Layout.{word_at, expressions_at, name_count, expression_count, node_count}

-- 'Name, 4 bytes: kind (0 register, 1 signal), level, owner.'
abbrev pub name_of : List ℕ → ℕ → Name
name_of s x =
    record { kind = get_or s (4 * x) 0; level = get_or s (4 * x + 1) 0; owner = word_at s (4 * x + 2) }

-- the number of a kind of names
abbrev pub kind_number : NameKind → ℕ
kind_number Register = 0
kind_number Signal = 1

-- 'Owner 65535 makes it a session name; otherwise it is the node that declares it.'
abbrev pub session : ℕ
session = 65535

abbrev pub is_session : List ℕ → ℕ → Bool
is_session s x = eqb (name_of s x).owner session

-- of the names that the file has
abbrev pub is_session_name : List ℕ → ℕ → Bool
is_session_name s x = ltb x (name_count s) && is_session s x

-- 'Expression, 8 bytes: kind, zero byte, a, then 4 bytes.' 'Node, 8 bytes: kind, zero byte, fields a, b, c.'
-- Part q is expression q, or node q - (number of expressions): the lists touch.
abbrev pub part_at : List ℕ → ℕ → ℕ
part_at s q = expressions_at s + 8 * q

abbrev pub part_of : List ℕ → ℕ → Part
part_of s q =
    let at : ℕ = part_at s q in
    record {
      kind = get_or s at 0;
      zero = get_or s (at + 1) 0;
      a = word_at s (at + 2);
      b = word_at s (at + 4);
      c = word_at s (at + 6);
    }

-- node k as a part
abbrev pub node : List ℕ → ℕ → ℕ
node s k = expression_count s + k

-- how many nodes of the file have a kind with the test
abbrev pub nodes_with : List ℕ → (ℕ → Bool) → ℕ
nodes_with s f = count (λ k. f (part_of s (node s k)).kind) (node_count s)
