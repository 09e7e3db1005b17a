use Rattle.std.proofs.Common.{sym, append-nil}
use Rattle.family_text.specs.Grammar.{vocabulary}
use Rattle.family_text.specs.Printing.{features_below}
use Rattle.family_text.proofs.Prints.{one_more}
use Rattle.family_text.proofs.vocabulary.Vocabulary.push_features.Goals as goal

pub loop-feature-init : goal.loop-feature-init
unfolding features_below
loop-feature-init c = sym (append-nil _)

pub loop-feature-preserved : goal.loop-feature-preserved
loop-feature-preserved c =
    one_more (vocabulary c.args.self.now) c.args.set c.loop-feature.feature _ c.loop-feature.invariant c.in_ok-push_feature.ensures
