-- `say_lines`: the lines before this one have been printed.
use Rattle.std.proofs.Common.{◌≡◌, ℕ, ◌*◌, ◌+◌, List, [], ◌∷◌, ◌++◌, length, length-append, arith, rules, sym, subst, ◌∙◌}
use Rattle.std.proofs.KnownBytes.{Appends-nil, Appends-trans}
use Rattle.std.specs.Io.KnownBytes.{Appends}
use Rattle.display.proofs.Words.{none_printed, line_printed, rest_is}
use Rattle.display.proofs.say_lines.Goals as goal

pub loop-line-init : goal.loop-line-init
loop-line-init g c = record {
  size = search rules;
  rest = search rules;
  printed = subst (Appends _ _) (none_printed _) (Appends-nil _);
}

pub loop-line-preserved : goal.loop-line-preserved
loop-line-preserved g c =
    let inv = c.loop-line.invariant in
    let steps = c.in-Some.ensures.steps in
    let log : List ℕ = c.args.log.now in
    let i : ℕ = 4 * length c.loop-line.yielded in
    let next : i + 4 ≡ 4 * length (c.loop-line.yielded ++ (c.in-Some.line ∷ [])) = simp length-append (omega arith) in
    let four = steps.1.1 ∙ inv.size in
    let at = sym inv.rest ∙ steps.1.0 in
    record {
      size = steps.0 ∙ inv.size;
      rest = rest_is log _ _ _ i four at next;
      printed =
          subst (Appends _ _) (line_printed log _ _ _ i four at (omega arith) next)
          (Appends-trans _ _ _ _ _ inv.printed c.in_ok-say_line.ensures);
    }
