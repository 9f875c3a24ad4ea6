-- 01, the table of refusals, rows 1 to 11: 1 to 3 as the level book has them, 4 to 10 as the script file has them, and row
-- 11. 'The lowest number that applies is given.'
use Rattle.std.specs.Prelude.{cond, List, ℕ, ltb}
use Rattle.prelude.specs.declared.Refusal.{Refusal}
use Rattle.prelude.specs.Refusals.{refused_by, not_refused, or_else}
use Rattle.book.specs.LevelBook.{count}
use Rattle.lattice.specs.Refusals as books
use Rattle.lattice.specs.Lattice.{Lattice, book_lattice}
use Rattle.layout.specs.Layout.{node_count}
use Rattle.script.specs.Refusals as scripts
use Rattle.flow.specs.Needs.{first_failing}

-- row 11: 'a need above fails', 'first node'
abbrev pub flow_refusal : Lattice ℕ → List ℕ → Refusal
flow_refusal 𝓛 s = cond (ltb (first_failing 𝓛 s) (node_count s)) (refused_by 11 (first_failing 𝓛 s)) not_refused

-- rows 4 to 11, under a book of so many levels
abbrev pub script_refusal : ℕ → Lattice ℕ → List ℕ → Refusal
script_refusal levels 𝓛 s = or_else (scripts.refusal s levels) (flow_refusal 𝓛 s)

-- what check refuses: rows 1 to 11
unfoldable pub check_refusal : List ℕ → List ℕ → Refusal
check_refusal b s = or_else (books.refusal b) (script_refusal (count b) (book_lattice b) s)
