use Rattle.std.proofs.Common.{ℕ, List, not, codes, ◌∙◌, Bor, rules, tests}
use Rattle.std.specs.Str.{bytes_eq}
use Rattle.std.proofs.lemmas.List.Folds.{length-prefix_len}
use Rattle.std.proofs.lemmas.Iterator.{YieldsList-from_slice}
use Rattle.std.proofs.lemmas.Iterator.Consumers.{YieldsList-at, count_from_yields_List}
use Rattle.std.proofs.lemmas.Iterator.Search.{YieldsList-from_take_while}
use Rattle.family_text.proofs.Steps.{prefix_now}
use Rattle.family_text.proofs.line.before_bars.Goals as goal

pub returns-clause-value : goal.returns-clause-value
returns-clause-value c =
    count_from_yields_List _ _ c.count.ensures.ran
    (YieldsList-from_take_while _ (λ (w : Bor (List ℕ)). not (bytes_eq w.now (codes "bars")))
    (YieldsList-at c.take_while.ensures.source (YieldsList-from_slice c.args.words.now c.iter.ensures.rest))
    c.take_while.ensures.closure c.take_while.ensures.done (λ x r q k. search (rules, tests)))
    ∙ length-prefix_len (λ (w : Bor (List ℕ)). not (bytes_eq w.now (codes "bars"))) c.args.words.now
    ∙ prefix_now (λ w. not (bytes_eq w (codes "bars"))) c.args.words.now
