use Rattle.std.proofs.Common.{Err, codes, sym, ap, ◌∙◌}
use Rattle.std.proofs.lemmas.Result.{err_from_is_err_and}
use Rattle.family_text.specs.Words.{texts}
use Rattle.family_text.specs.Grammar.{vocabulary}
use Rattle.family_text.specs.Reading.{part_of}
use Rattle.family_text.proofs.Steps.{texts_before, texts_from, needs_wrong, parts_read}
use Rattle.family_text.proofs.vocabulary.Vocabulary.condition.Goals as goal

pub returns-in_err-required : goal.returns-in_err-required
returns-in_err-required c =
    let p = err_from_is_err_and c.from_residual.result c.from_residual.ensures.1 in
    let names = vocabulary c.args.self.now in
    let first = texts_before c.args.words.now c.split_at.ensures.front c.before_bars.ensures.value in
    p.1 ∙ ap Err p.2 ∙ sym (needs_wrong names (texts c.args.words.now) _ (ap (part_of names (codes "needs")) (sym first) ∙ sym c.part.ensures ∙ c.in_err-required.was))

pub returns-in_err-excluded : goal.returns-in_err-excluded
returns-in_err-excluded c =
    let p = err_from_is_err_and c.from_residual-in_err-excluded.result c.from_residual-in_err-excluded.ensures.1 in
    let names = vocabulary c.args.self.now in
    let first = texts_before c.args.words.now c.split_at.ensures.front c.before_bars.ensures.value in
    let last = texts_from c.args.words.now c.split_at.ensures.back c.before_bars.ensures.value in
    p.1 ∙ ap Err p.2
    ∙ sym (parts_read names (texts c.args.words.now) _ _ (ap (part_of names (codes "needs")) (sym first) ∙ sym c.part.ensures ∙ c.in_ok-required.was) (ap (part_of names (codes "bars")) (sym last) ∙ sym c.part-2.ensures ∙ c.in_err-excluded.was))

pub returns : goal.returns
returns c =
    let names = vocabulary c.args.self.now in
    let first = texts_before c.args.words.now c.split_at.ensures.front c.before_bars.ensures.value in
    let last = texts_from c.args.words.now c.split_at.ensures.back c.before_bars.ensures.value in
    sym (parts_read names (texts c.args.words.now) _ _ (ap (part_of names (codes "needs")) (sym first) ∙ sym c.part.ensures ∙ c.in_ok-required.was) (ap (part_of names (codes "bars")) (sym last) ∙ sym c.part-2.ensures ∙ c.in_ok-excluded.was))
