-- Lines that grow by one product.
use Rattle.std.proofs.Common.{◌≡◌, ℕ, ◌+◌, List, ◌++◌, Option, Bool, refl, sym, ap, ◌∙◌, subst}
use Rattle.histories.specs.declared.columns.Column.{Column}
use Rattle.histories.specs.Columns.{Compares}
use Rattle.order_report.specs.Lines.{product_line, Compared, more}

-- One more product, whose columns these two are.
pub product_more : (one other : Column) (same : Option Bool) (before line after : List ℕ)
    → one.position ≡ other.position → one.product ≡ other.product
    → Compared one.log.now other.log.now one.position one.product before → Compares one other same
    → line ≡ product_line one.product same → after ≡ before ++ line
    → Compared one.log.now other.log.now one.position (one.product + 1) after
product_more one other same before line after position product compared found is grown =
    subst (Compared one.log.now other.log.now one.position (one.product + 1))
    (sym (grown ∙ ap (λ l. before ++ l) is))
    (more one other same compared (record { in_log = refl; at_position = refl; of_product = refl })
    (record { in_log = refl; at_position = sym position; of_product = sym product }) found)
