use Rattle.std.proofs.Common.{refl, ◌∙◌}
use Rattle.report.specs.Verdicts.{outcome_of}
use Rattle.report.proofs.Kept.{whole_line}
use Rattle.report.proofs.Texts.{made_so}
use Rattle.report.proofs.transcript.Transcript.answer.Goals as goal

pub returns : goal.returns
returns c = record {
  session = refl;
  line = c.clear.ensures.items;
  number = c.saturating_add-self.ensures;
  answer = made_so c.line.result
      (λ s e text k. whole_line c.args.self.now.number c.deref.result.now text (c.deref.ensures.value ∙ k) (outcome_of c.verdict-verdict.result, c.verdict-verdict.ensures, e))
      c.line.ensures;
}
