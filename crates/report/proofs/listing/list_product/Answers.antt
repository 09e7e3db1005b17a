use Rattle.std.proofs.Common.{◌++◌, take, sym, ap, ◌∙◌, append_assoc}
use Rattle.std.proofs.lemmas.List.{take_more}
use Rattle.report.specs.Listings.{product_line, own_lines}
use Rattle.report.proofs.Listings.{own_lines_push}
use Rattle.report.proofs.listing.list_product.Goals as goal

pub loop-own-preserved : goal.loop-own-preserved
loop-own-preserved c =
    let owns = c.deref-own-items.result.now in
    let i = c.loop-own.own-index in
    let head = product_line c.args.number c.args.configuration in
    c.in_ok-push_str.ensures.bytes
    ∙ ap (λ l. l ++ c.deref.result.now) c.loop-own.invariant
    ∙ ap (λ l. (head ++ own_lines (take i owns)) ++ l) (c.deref.ensures ∙ c.in_ok-own_transition.ensures)
    ∙ append_assoc head (own_lines (take i owns)) _
    ∙ ap (λ l. head ++ l) (sym (own_lines_push (take i owns) _)
    ∙ ap own_lines (sym (take_more owns i _ c.loop-own-test.true)))
