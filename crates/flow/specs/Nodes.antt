-- 01's list of W, T and the needs, by the number of a node's kind: what a node has, from what it brings itself and what
-- its children have. The operations are those of a lattice, or what is looked up in a book and in tables.
-- proofs/ByKind.antt shows that this is `write_level`, `test_level` and `need`; no part of what is promised.
use Rattle.std.specs.Prelude.{Bool, true, cond, ◌&&◌, ◌||◌, ℕ, ◌<◌, eqb}
use Rattle.prelude.specs.Search.{lesser}
use Rattle.book.specs.declared.Book.{Book}
use Rattle.book.specs.LevelBook.{at_or_below}
use Rattle.pairs.specs.declared.table.Tables.{Tables}
use Rattle.pairs.specs.Table.{kept}
use Rattle.lattice.specs.Lattice.{Lattice}
use Rattle.language.specs.Syntax.{Names, Proc, nil, assign, let_in, if_then_else, while, sequence, emit, local, watching, when, parallel}
use Rattle.language.specs.Levels.{exp_level}
use Rattle.flow.specs.declared.nodes.Flow.{Flow}
use Rattle.flow.specs.declared.nodes.Own.{Own}
use Rattle.flow.specs.declared.nodes.Lookup.{Lookup}
use Rattle.language.specs.Kinds as kind
use Rattle.language.specs.KindGroups.{has_value, has_test, has_write}

-- What a node brings itself: 'D is the level of its expression or signal', and the level of its name. What it has not
-- counts as bottom.
abbrev pub brings : ℕ → ℕ → Own
brings level name = record { level = level; name = name }

module _ (𝓛 : Lattice ℕ) (names : Names ℕ) where
  unfoldable pub own_of : Proc ℕ → Own
  own_of nil = brings 𝓛.bottom 𝓛.bottom
  own_of (assign x e) = brings (exp_level 𝓛 names e) (names.level x)
  own_of (let_in x δ e p) = brings (exp_level 𝓛 names e) (names.level x)
  own_of (if_then_else e p q) = brings (exp_level 𝓛 names e) 𝓛.bottom
  own_of (while e p) = brings (exp_level 𝓛 names e) 𝓛.bottom
  own_of (sequence p q) = brings 𝓛.bottom 𝓛.bottom
  own_of (emit a) = brings (names.level a) (names.level a)
  own_of (local a δ p) = brings (names.level a) (names.level a)
  own_of (watching a p) = brings (names.level a) (names.level a)
  own_of (when a p) = brings (names.level a) (names.level a)
  own_of (parallel p q) = brings 𝓛.bottom 𝓛.bottom

-- levels below n
pub record OwnWithin (n : ℕ) (own : Own) : Type 0 where
  pub level : own.level < n
  pub name : own.name < n

pub record FlowWithin (n : ℕ) (f : Flow) : Type 0 where
  pub write : f.write < n
  pub test : f.test < n

-- the operations that the rows of a book say and the tables keep; top and bottom, which nothing below reads, are 0
abbrev pub operations : Book → Tables → Lattice ℕ
operations b t =
    record {
      leq = at_or_below b.rows;
      join = kept t.join;
      meet = kept t.meet;
      top = 0;
      bottom = 0;
    }

abbrev pub looked_up : Lookup → Lattice ℕ
looked_up l = operations l.book.now l.tables.now

-- two children together: 'W meet, T join of both'
abbrev pub both_from : Lattice ℕ → Flow → Flow → Flow
both_from 𝓛 first second =
    record {
      write = 𝓛.meet first.write second.write;
      test = 𝓛.join first.test second.test;
      failing = lesser first.failing second.failing;
    }

-- 'sequence: .. needs T of a ≤ W of b. Parallel: also T of b ≤ W of a.' If asks nothing of its two children alone.
abbrev pub pair_need : Lattice ℕ → ℕ → Flow → Flow → Bool
pair_need 𝓛 k first second =
    cond (eqb k kind.if_then_else) true
    (𝓛.leq first.test second.write && (eqb k kind.sequence || 𝓛.leq second.test first.write))

-- 'Assign, emit: W the name's level'; else what the children write
abbrev pub write_from : ℕ → Own → Flow → ℕ
write_from k own parts = cond (has_write k) own.name parts.write

-- if, when, watching, while: 'T joined with D'; else what the children test
abbrev pub test_from : Lattice ℕ → ℕ → Own → Flow → ℕ
test_from 𝓛 k own parts = cond (has_test k) (𝓛.join own.level parts.test) parts.test

-- 'Assign and let need D at or below the name's level', while 'needs the joined T ≤ W', if, when and watching 'D ≤ W'
abbrev pub own_need : Lattice ℕ → ℕ → Own → ℕ → ℕ → Bool
own_need 𝓛 k own write test =
    cond (has_value k) (𝓛.leq own.level own.name)
    (cond (eqb k kind.while) (𝓛.leq test write)
    (cond (has_test k) (𝓛.leq own.level write)
    true))

-- node k, of kind n; `pair` says that it has what it needs of its two children
abbrev pub flow_from : Lattice ℕ → ℕ → ℕ → Own → Flow → Bool → Flow
flow_from 𝓛 k n own parts pair =
    let write : ℕ = write_from n own parts in
    let test : ℕ = test_from 𝓛 n own parts in
    record {
      write = write;
      test = test;
      failing = cond (pair && own_need 𝓛 n own write test) parts.failing (lesser k parts.failing);
    }

-- a node with two children: what they have together indexes the tables, ..
pub record PairWithin (n : ℕ) (𝓛 : Lattice ℕ) (k : ℕ) (own : Own) (first second : Flow) : Type 0 where
  pub parts : FlowWithin n (both_from 𝓛 first second)
  pub test : test_from 𝓛 k own (both_from 𝓛 first second) < n

-- .. and what it has
abbrev pub pair_from : Lattice ℕ → ℕ → ℕ → Own → Flow → Flow → Flow
pair_from 𝓛 k n own first second =
    flow_from 𝓛 k n own (both_from 𝓛 first second) (pair_need 𝓛 n first second)
