use Rattle.std.proofs.Common.{not, ap, ◌∙◌, arith}
use Rattle.report.proofs.Begins.{by_book, by_words, unworded, worded}
use Rattle.report.proofs.session.Session.open.Goals as goal

pub returns-then-number-ne-ACCEPTED : goal.returns-then-number-ne-ACCEPTED
returns-then-number-ne-ACCEPTED c =
    by_book _ _ _ _ c.in_ok-book.ensures.1 c.load-number.result c.load-number.ensures.answer (λ e. omega arith)

pub returns-then-is_none : goal.returns-then-is_none
returns-then-is_none c =
    by_words _ _ _ _ c.in_ok-book.ensures.1 c.load-number.result c.load-number.ensures.answer (omega arith) (unworded c.deref.ensures.value c.deref-2.ensures.value c.new.result c.new.ensures (c.is_none.ensures ∙ ap not c.if-is_none.true))

pub invariant_of-result : goal.invariant_of-result
invariant_of-result c =
    let w = worded c.deref.ensures.value c.deref-2.ensures.value c.new.result c.new.ensures (c.is_none.ensures ∙ ap not c.if-is_none.false) in
    record { action_form = ∣ w.0 ∣₁; feature_form = ∣ w.1 ∣₁ }
