use Rattle.std.proofs.Common.{◌+◌, ◌-◌, ◌∷◌, length, take, drop, sym, ap, ◌∙◌, arith, rules, length-drop}
use Rattle.std.proofs.lemmas.List.{take_all}
use Rattle.words.specs.Cut.{cut}
use Rattle.words.proofs.Cut.{line_at, line_left}
use Rattle.words.proofs.lines.LinesIterator.next.Goals as goal

pub returns-in-Some-clause-steps : goal.returns-in-Some-clause-steps
returns-in-Some-clause-steps c =
    line_at c.args.self.now.rest.now c.in-Some.end (sym c.line_end.ensures ∙ c.in-Some.is)
    ∙ ap (λ x. take c.in-Some.end c.args.self.now.rest.now ∷ cut x) (sym (take_all (length c.args.self.now.rest.now - (c.in-Some.end + 1)) (drop (c.in-Some.end + 1) c.args.self.now.rest.now) (omega (arith, length-drop (c.in-Some.end + 1) c.args.self.now.rest.now))))

pub returns-in-None-2-clause-steps : goal.returns-in-None-2-clause-steps
returns-in-None-2-clause-steps c = line_left c.args.self.now.rest.now (search rules) (sym c.line_end.ensures ∙ c.in-None.is)
