use Rattle.std.proofs.Common.{string_bytes, ◌∙◌}
use Rattle.std.proofs.lemmas.Result.{IfOk-weaker}
use Rattle.book.specs.Contents.{contents, closed_contents}
use Rattle.report.proofs.Listings.{refused_listing, whole_listing}
use Rattle.report.proofs.listing.own_steps.Goals as goal

pub returns-then-number-ne-ACCEPTED : goal.returns-then-number-ne-ACCEPTED
returns-then-number-ne-ACCEPTED c =
    IfOk-weaker c.refused.result _ _
    (λ text line. refused_listing c.args.family.now (contents c.in_ok-book.book) c.in_ok-book.ensures.1
    c.load-number.result c.load-number.ensures.answer
    c.if-number-ne-ACCEPTED.true (string_bytes text) line)
    c.refused.ensures

pub returns : goal.returns
returns c =
    IfOk-weaker c.list_products.result _ _
    (λ text lines. whole_listing c.args.family.now (contents c.in_ok-book.book)
    (closed_contents c.close.result) c.in_ok-book.ensures.1 c.load-number.result
    c.load-number.ensures.answer c.if-number-ne-ACCEPTED.false
    (c.close.ensures ∙ c.load-number.ensures.book) (string_bytes text) lines)
    c.list_products.ensures
