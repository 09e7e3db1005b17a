use Rattle.std.proofs.Common.{◌≡◌, ℕ, ◌<◌, true, length}
use Rattle.families.specs.Bits.{bit}
use Rattle.family_text.specs.Grammar.{vocabulary}
use Rattle.family_text.proofs.vocabulary.Vocabulary.check_features.Given as goal

abbrev pub invariant-loop-feature : goal.invariant-loop-feature
invariant-loop-feature l = (k : ℕ) → k < l.feature → bit l.set k ≡ true → k < length (vocabulary l.self).features
