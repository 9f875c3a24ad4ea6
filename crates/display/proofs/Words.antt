-- The text of a log's lines, as a loop prints it: none, and one more.
use Rattle.std.proofs.Common.{◌≡◌, ℕ, suc, ◌+◌, ◌%◌, ◌<◌, List, [], ◌++◌, length, drop, take, get_or, refl, sym, ap, ◌∙◌, append-nil, append_assoc, add-one, arith, length-append, length-take, length-drop, get_or-drop, get_or-take}
use Rattle.std.proofs.lemmas.List.{drop-drop, get_or_append_left, drop_at}
use borrow.Author.Tests.{eq-eqb, ne_eqb}
use Rattle.std.proofs.lemmas.List.Folds.{concat-append}
use Rattle.prelude.specs.Table.{table}
use Rattle.text.specs.Written.{number_text}
use Rattle.display.specs.Shown.{value_text, word_text, words_text, line_text}

pub none_printed : (log : List ℕ) → [] ≡ words_text log 0
unfolding words_text table
none_printed log = refl

one_printed : (log : List ℕ) (i : ℕ) → words_text log i ++ word_text log i ≡ words_text log (i + 1)
unfolding words_text table
one_printed log i = rw (add-one, concat-append, append-nil)

regrouped : (a b c d e : List ℕ) → a ++ (b ++ (c ++ (d ++ e))) ≡ (((a ++ b) ++ c) ++ d) ++ e
regrouped a b c d e = simp append_assoc

-- the line at index i, and the lines behind it, of the first n words of a log
module _ (log line rest : List ℕ) (n i : ℕ) (four : length line ≡ 4) (at : drop i (take n log) ≡ line ++ rest) where
  pub rest_is : {k : ℕ} → i + 4 ≡ k → rest ≡ drop k (take n log)
  rest_is next =
      sym (drop_at line rest 4 four)
      ∙ sym (ap (drop 4) at)
      ∙ drop-drop 4 i (take n log)
      ∙ ap (λ m. drop m (take n log)) next

  word_is : (j : ℕ) → j < 4 → get_or line j 0 ≡ get_or log (i + j) 0
  word_is j h =
      let behind : length (drop i (take n log)) ≡ 4 + length rest = ap length at ∙ simp length-append (omega (arith, four)) in
      let inside : i + j < n = omega (arith, simp (length-drop, length-take) at behind) in
      let here : j < length line = omega (arith, four) in
      sym (get_or_append_left line rest 0 j here) ∙ ap (λ l. get_or l j 0) (sym at) ∙ rw (get_or-drop, get_or-take)

  module _ (begins : i % 4 ≡ 0) where
    number_is : (j : ℕ) → j < 3 → number_text (get_or line j 0) 32 ≡ word_text log (i + j)
    number_is j h = rw (ne_eqb ((i + j) % 4) 3 (λ e. omega arith), word_is j (omega arith))

    value_is : value_text (get_or line 3 0) ≡ word_text log (i + 3)
    value_is =
        let last : (i + 3) % 4 ≡ 3 = omega arith in
        rw (eq-eqb ((i + 3) % 4) 3 last, word_is 3 (omega arith))

    one_more : (j : ℕ) → words_text log (i + j) ++ word_text log (i + j) ≡ words_text log (i + suc j)
    one_more j = one_printed log (i + j) ∙ ap (words_text log) (omega arith)

    pub line_printed : {k : ℕ} → i + 4 ≡ k → words_text log i ++ line_text line ≡ words_text log k
    line_printed behind =
        let word : ℕ → List ℕ = λ j. word_text log (i + j) in
        let same : line_text line ≡ word 0 ++ (word 1 ++ (word 2 ++ word 3)) =
        λ t. number_is 0 (omega arith) t ++ (number_is 1 (omega arith) t ++ (number_is 2 (omega arith) t ++ value_is t)) in
        let begin : words_text log i ≡ words_text log (i + 0) = ap (words_text log) (omega arith) in
        (λ t. begin t ++ same t)
        ∙ regrouped (words_text log (i + 0)) (word 0) (word 1) (word 2) (word 3)
        ∙ ap (λ l. ((l ++ word 1) ++ word 2) ++ word 3) (one_more 0)
        ∙ ap (λ l. (l ++ word 2) ++ word 3) (one_more 1)
        ∙ ap (λ l. l ++ word 3) (one_more 2)
        ∙ one_more 3
        ∙ ap (words_text log) behind
