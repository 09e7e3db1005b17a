use Rattle.std.proofs.Common.{tests, rules}
use Rattle.std.proofs.lemmas.Iterator.{cases_from_any, YieldsList-from_slice}
use Rattle.families.proofs.Owned.{Gives, owns_when}
use Rattle.book.proofs.own.owned.Goals as goal

pub returns : goal.returns
returns c =
    let o = c.args.own in
    let gives = Gives c.args.configuration o.source o.action o.target in
    owns_when c.args.configuration o.source o.action o.target c.args.transitions.now c.any.result
    (cases_from_any _ _ _ gives (λ t. ¬ gives t) c.any.ensures.ran
    (YieldsList-from_slice c.args.transitions.now c.iter.ensures.rest)
    (λ x q k. search (rules, tests)) (λ x q k. search (rules, tests)))
