use Rattle.std.proofs.Common.{◌≡◌, ◌++◌, take, string_bytes}
use Rattle.report.specs.Listings.{product_line, own_lines}
use Rattle.report.proofs.listing.list_product.Given as goal

-- The product and its own transitions so far.
abbrev pub invariant-loop-own : goal.invariant-loop-own
invariant-loop-own l = string_bytes l.text ≡ product_line l.number l.configuration ++ own_lines
    (take l.own-index l.own-items)
