use Rattle.std.proofs.Common.{◌≡◌, drop}
use Rattle.family_text.specs.Words.{texts}
use Rattle.family_text.specs.Grammar.{vocabulary}
use Rattle.family_text.specs.Reading.{features_from}
use Rattle.family_text.proofs.vocabulary.Vocabulary.features.Given as goal

abbrev pub invariant-loop-word : goal.invariant-loop-word
invariant-loop-word l =
    features_from (vocabulary l.self) l.set (drop l.word-index (texts l.words))
    ≡ features_from (vocabulary l.self) 0 (texts l.words)
