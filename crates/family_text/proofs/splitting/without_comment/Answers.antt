use Rattle.std.proofs.Common.{◌==◌, not, ◌∙◌, ap, rules, tests, take}
use Rattle.std.proofs.lemmas.List.Folds.{length-prefix_len}
use Rattle.std.proofs.lemmas.Iterator.{YieldsList-from_slice}
use Rattle.std.proofs.lemmas.Iterator.Consumers.{YieldsList-at, count_from_yields_List}
use Rattle.std.proofs.lemmas.Iterator.Search.{YieldsList-from_take_while}
use Rattle.family_text.proofs.splitting.without_comment.Goals as goal

pub returns : goal.returns
returns c =
    ap (λ n. take n c.args.line.now)
    (count_from_yields_List _ _ c.count-end.ensures.ran
    (YieldsList-from_take_while _ (λ b. not (b == 35))
    (YieldsList-at c.take_while.ensures.source (YieldsList-from_slice c.args.line.now c.iter.ensures.rest))
    c.take_while.ensures.closure c.take_while.ensures.done (λ x r q k. search (rules, tests)))
    ∙ length-prefix_len (λ b. not (b == 35)) c.args.line.now)
