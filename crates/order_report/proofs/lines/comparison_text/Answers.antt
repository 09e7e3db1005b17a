use Rattle.std.proofs.Common.{◌++◌, string_bytes, refl, sym, ap, ◌∙◌, subst}
use Rattle.order_report.specs.Lines.{Compared, none}
use Rattle.order_report.proofs.Growing.{product_more}
use Rattle.order_report.proofs.lines.comparison_text.Goals as goal

pub loop-product-init : goal.loop-product-init
loop-product-init c =
    subst (Compared c.args.log.now c.args.given.now c.args.position 0) (sym c.new-text.ensures.bytes) none

pub loop-product-preserved : goal.loop-product-preserved
loop-product-preserved c =
    product_more
    (record { log = c.args.log; position = c.args.position; product = c.loop-product.product })
    (record { log = c.args.given; position = c.args.position; product = c.loop-product.product })
    c.equals-same.result (string_bytes c.loop-product.text)
    (string_bytes c.in_ok-product_text.field-0) (string_bytes c.push_str.new.self)
    refl refl c.loop-product.invariant c.equals-same.ensures.answer c.in_ok-product_text.ensures
    (c.in_ok-push_str.ensures.bytes ∙ ap (λ l. string_bytes c.loop-product.text ++ l) c.deref.ensures)
