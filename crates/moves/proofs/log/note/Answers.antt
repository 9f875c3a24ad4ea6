-- `note`: a line is written where one is needed and there is room.
use mathlib.Core.Path.{◌≡◌, refl, ap, ap₂, ◌∙◌}
use mathlib.Core.List.{List}
use Prim.Native.Nat.{ℕ, suc, ◌+◌, ◌*◌}
use native.Mathlib.Numerals.{add-one}
use lib.IntN.{ℤ}
use mir.Syntax.{w32}
use mir.Val.{SFits, of_z}
use mir.Facts.{to_z-of_z}
use borrow.Author.Tests.{lt-ltb, le-ltb}
use Rattle.values.proofs.Signed.{read_back}
use Rattle.moves.specs.Moves.{put_words, put_line}
use Rattle.moves.proofs.log.note.Goals as goal

pub returns-then-not-needed : goal.returns-then-not-needed
returns-then-not-needed c =
    rw c.if-not-needed.true (record {
      fits = refl;
      written = refl;
      counted = refl;
    })

pub returns-then-log-lines : goal.returns-then-log-lines
returns-then-log-lines c =
    rw c.if-not-needed.false (record {
      full = le-ltb _ _ c.if-log-lines.true;
      same = refl;
    })

-- the words that are put are those of the line
put :
    (log : List ℕ) (n steps instant x w : ℕ) {v : ℤ} → SFits w32 v → w ≡ of_z w32 (read_back w32 v) →
    {after : List ℕ} → after ≡ put_words log (4 * n) (steps + 1) instant x w →
    after ≡ put_line (record { step = suc steps; instant = instant; name = x; value = v }) n log
put log n steps instant x w f e q =
    q ∙ ap₂ (λ m u. put_words log (4 * n) m instant x u) (add-one steps) (e ∙ ap (of_z w32) (to_z-of_z f))

pub returns : goal.returns
returns c =
    let a = c.args in
    rw c.if-not-needed.false (record {
      fits = lt-ltb _ _ c.if-log-lines.false;
      written =
          put a.log.now a.at.lines a.at.steps a.at.instants a.x _ c.ranges.value c.word_of-word.ensures
          c.put_line.ensures;
      counted = add-one a.at.lines;
    })
