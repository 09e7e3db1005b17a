use Rattle.std.proofs.Common.{◌≡◌, ◌++◌}
use Rattle.family_text.specs.Grammar.{vocabulary}
use Rattle.family_text.specs.Printing.{spaced, names_below}
use Rattle.family_text.proofs.vocabulary.Vocabulary.push_features.Given as goal

abbrev pub invariant-loop-feature : goal.invariant-loop-feature
invariant-loop-feature l = l.text.items ≡ l.initial.text.items ++ spaced (names_below (vocabulary l.self) l.set l.feature)
