-- The words of a script as a reader sees it: what the functions give, no part of what is promised.
use Rattle.std.specs.Prelude.{List, ℕ}
use Rattle.plan.specs.declared.reading.Reading.{Reading}
use Rattle.plan.specs.Plan.{sees_in, NamePacked, Keeps}

-- the words of so many names, expressions and nodes stand in a table
abbrev pub Filled : Reading → ℕ → ℕ → ℕ → List ℕ → Type 0
Filled r = Keeps r.checked.file.bytes.now (sees_in r.book r.checked.file.bytes.now r.reader)

-- the word of name x
abbrev pub PacksName : Reading → ℕ → ℕ → Type 0
PacksName r = NamePacked r.checked.file.bytes.now (sees_in r.book r.checked.file.bytes.now r.reader)
