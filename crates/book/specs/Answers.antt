-- What a call on a book answers: a number, 0 where it is accepted, and a value, 0 where it is refused.
use Rattle.std.specs.Prelude.{ℕ, Result, Ok, Err}
use Rattle.book.specs.declared.refusals.Refusal.{Refusal}
use Rattle.book.specs.declared.refusals.Refusal.TheVariants.{BadStateCount, ProductsFull, ProductHeld}
use Rattle.book.specs.declared.refusals.Refusal.TheVariants.{OutOfRange, TransitionHeld, TransitionsFull}
use Rattle.book.specs.declared.refusals.Refusal.TheVariants.{NotHeld, BadLength, BadRecord}

abbrev pub number_of : Refusal → ℕ
number_of BadStateCount = 1
number_of ProductsFull = 2
number_of ProductHeld = 3
number_of OutOfRange = 4
number_of TransitionHeld = 5
number_of TransitionsFull = 6
number_of NotHeld = 7
number_of BadLength = 8
number_of BadRecord = 9

abbrev pub answer_of : Result ℕ Refusal → ℕ × ℕ
answer_of (Ok v) = (0, v)
answer_of (Err r) = (number_of r, 0)
