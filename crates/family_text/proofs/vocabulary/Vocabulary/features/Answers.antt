use Rattle.std.proofs.Common.{◌+◌, Err, drop, sym, ap, ◌∙◌}
use Rattle.std.proofs.lemmas.Result.{err_from_is_err_and}
use Rattle.family_text.specs.Words.{texts}
use Rattle.family_text.specs.Grammar.{vocabulary}
use Rattle.family_text.specs.Reading.{features_from}
use Rattle.family_text.proofs.Steps.{next_word, feature_taken, feature_wrong}
use Rattle.family_text.proofs.vocabulary.Vocabulary.features.Goals as goal

pub returns-in_err-set : goal.returns-in_err-set
returns-in_err-set c =
    let p = err_from_is_err_and c.from_residual.result c.from_residual.ensures.1 in
    let names = vocabulary c.args.self.now in
    let left = next_word c.args.words.now c.loop-word.word-index _ c.loop-word-test.true in
    p.1 ∙ ap Err p.2 ∙ sym (feature_wrong names c.loop-word.set _ (drop (c.loop-word.word-index + 1) (texts c.args.words.now)) c.in_err-set.field-0.0 (sym c.feature.ensures ∙ c.in_err-set.was))
    ∙ ap (features_from names c.loop-word.set) (sym left) ∙ c.loop-word.invariant

pub loop-word-preserved : goal.loop-word-preserved
loop-word-preserved c =
    let names = vocabulary c.args.self.now in
    let left = next_word c.args.words.now c.loop-word.word-index _ c.loop-word-test.true in
    sym (feature_taken names c.loop-word.set c.in_ok-set.field-0 _ (drop (c.loop-word.word-index + 1) (texts c.args.words.now)) (sym c.feature.ensures ∙ c.in_ok-set.was))
    ∙ ap (features_from names c.loop-word.set) (sym left) ∙ c.loop-word.invariant
