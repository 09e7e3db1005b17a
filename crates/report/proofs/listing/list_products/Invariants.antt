use Rattle.std.proofs.Common.{string_bytes}
use Rattle.book.specs.Contents.{closed_contents}
use Rattle.report.specs.Listings.{Listing}
use Rattle.report.proofs.listing.list_products.Given as goal

-- The products so far.
abbrev pub invariant-loop-number : goal.invariant-loop-number
invariant-loop-number l = Listing (closed_contents l.book) l.number (string_bytes l.text)
