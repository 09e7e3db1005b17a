use Rattle.std.proofs.Common.{◌≡◌, Ok}
use Rattle.book.specs.Loads.{progress_after}
use Rattle.book.specs.Contents.{contents}
use Rattle.book.proofs.books.OpenBook.load.Given as goal

abbrev pub invariant-loop-i : goal.invariant-loop-i
invariant-loop-i l = progress_after (contents l.initial.self) l.bytes l.i ≡ Ok (contents l.self)
