use Rattle.std.proofs.Common.{◌≡◌, ◌<◌, ◌++◌, ℕ, length, slice_index, string_bytes, sym, ap, ◌∙◌, subst}
use Rattle.std.proofs.Common.{arith}
use Rattle.book.specs.Contents.{closed_contents}
use Rattle.families.specs.Families.{count}
use Rattle.report.specs.Listings.{Listing, none}
use Rattle.report.proofs.Listings.{one_more}
use Rattle.report.proofs.listing.list_products.Goals as goal

pub loop-number-init : goal.loop-number-init
loop-number-init c = subst (Listing (closed_contents c.args.book.now) 0) (sym c.new-text.ensures.bytes) none

pub loop-number-preserved : goal.loop-number-preserved
loop-number-preserved c =
    let items = c.products-configuration-items.result.now in
    let n = c.loop-number.number in
    one_more (closed_contents c.args.book.now) n (slice_index items n) (string_bytes c.loop-number.text)
    (string_bytes c.in_ok-list_product.field-0) (string_bytes c.push_str.new.self)
    (subst (λ (m : ℕ). n < m) (ap length c.products-configuration-items.ensures) c.loop-number-test.true)
    (ap (λ l. slice_index l n) c.products-configuration-items.ensures)
    c.loop-number.invariant c.in_ok-list_product.ensures
    (c.in_ok-push_str.ensures.bytes ∙ ap (λ l. string_bytes c.loop-number.text ++ l) c.deref.ensures)

pub returns : goal.returns
returns c =
    let F = closed_contents c.args.book.now in
    let all : c.loop-number.number ≡ count F =
    omega (
      arith,
      c.loop-number-test.false,
      c.loop-number.auto.number-end,
      ap length
          c.products-configuration-items.ensures,
    ) in
    subst (λ (n : ℕ). Listing F n (string_bytes c.loop-number.text)) all c.loop-number.invariant
