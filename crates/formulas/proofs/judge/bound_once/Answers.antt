use Rattle.std.proofs.Common.{◌≡◌, true, not, take, sym, ap, ◌∙◌, rules, tests}
use Rattle.std.specs.Option.{option_map_or}
use Rattle.std.specs.List.{list_any}
use Rattle.std.proofs.lemmas.Iterator.{YieldsList-from_slice}
use Rattle.std.proofs.lemmas.Iterator.Search.{any_from_yields_List}
use Rattle.formulas.specs.Judge.{binds}
use Rattle.formulas.proofs.judge.bound_once.Goals as goal

pub returns-in-Some : goal.returns-in-Some
returns-in-Some c =
    let ns = c.args.nodes.now in
    let e : c.any.result ≡ list_any (binds c.in-Some.v) (take c.args.n ns) =
    any_from_yields_List (binds c.in-Some.v) _ _ c.any.result c.any.ensures.ran
    (YieldsList-from_slice (take c.args.n ns) c.iter.ensures.rest)
    (λ x b q k. search (rules, tests)) in
    ap not e
    ∙ sym (ap (λ o. option_map_or (λ v. not (list_any (binds v) (take c.args.n ns))) o true)
    (sym c.bound_variable.ensures ∙ c.in-Some.is))
