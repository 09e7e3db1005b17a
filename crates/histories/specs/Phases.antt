-- What a book holds between two calls.
use Rattle.std.specs.Prelude.{true, false}
use Rattle.book.specs.Contents.{contents, closed_contents}
use Rattle.histories.specs.declared.phase.Phase.{Phase}
use Rattle.histories.specs.declared.phase.Phase.TheVariants.{Open, Closed}
use Rattle.histories.specs.Ledger.{Standing}

abbrev pub standing_of : Phase → Standing
standing_of (Open b) = record { is_open = true; ledger = contents b }
standing_of (Closed b) = record { is_open = false; ledger = closed_contents b }
