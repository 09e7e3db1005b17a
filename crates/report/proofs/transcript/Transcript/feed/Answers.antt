use Rattle.std.proofs.Common.{vec_items, refl, ap, ◌∙◌, arith}
use Rattle.report.proofs.Kept.{one_kept, none_kept}
use Rattle.report.proofs.transcript.Transcript.feed.Goals as goal
use Rattle.report.proofs.transcript.Transcript.feed.Goals.{then-len-lt-KEPT, else-len-lt-KEPT}

pub returns : goal.returns
returns c = record {
  session = elim c.if-len-lt-KEPT.branch [ then-len-lt-KEPT w ↦ ap (λ t. t.session) w.self-is | else-len-lt-KEPT w ↦ ap (λ t. t.session) w.self-is ];
  within = λ _. (
    refl,
    elim c.if-len-lt-KEPT.branch [
      | then-len-lt-KEPT w ↦ ap (λ t. vec_items t.line) w.self-is ∙ w.push_reserved.ensures.items ∙ one_kept c.args.self.now.line.items c.args.byte (omega (arith, c.args.self.now.line.ok.0))
      | else-len-lt-KEPT w ↦ ap (λ t. vec_items t.line) w.self-is ∙ none_kept c.args.self.now.line.items c.args.byte (omega (arith, c.args.self.now.line.ok.0, c.args.self.now.short))
    ],
    elim c.if-len-lt-KEPT.branch [ then-len-lt-KEPT w ↦ ap (λ t. t.number) w.self-is | else-len-lt-KEPT w ↦ ap (λ t. t.number) w.self-is ],
  );
  ended = λ e. absurd (c.if-byte-eq10.false e);
  answer = λ e. absurd (c.if-byte-eq10.false e);
}
