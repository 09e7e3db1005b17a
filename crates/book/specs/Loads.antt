-- Loading: the records in order, up to the first that is bad.
use Rattle.std.specs.Prelude.{ℕ, zero, suc, ◌/◌, ◌%◌, Bool, if◌then◌else◌, not, ◌||◌, ◌==◌, nat_lt}
use Rattle.std.specs.Prelude.{List, length, Option, Some, None, Result, Ok, Err}
use Rattle.std.specs.Result.{result_unwrap_or}
use Rattle.families.specs.Families.{Family}
use Rattle.book.specs.declared.refusals.Refusal.{Refusal}
use Rattle.book.specs.declared.refusals.Refusal.TheVariants.{BadLength, BadRecord}
use Rattle.book.specs.Answers.{number_of, answer_of}
use Rattle.book.specs.declared.records.Record.{Record}
use Rattle.book.specs.declared.records.Record.TheVariants.{AddProduct, AddTransition}
use Rattle.book.specs.Records.{record_from}
use Rattle.book.specs.Rules.{product_result, product_after, transition_result, transition_after}

-- One record on a family: refused if the bytes are no record, else as the call that it asks for.
abbrev pub record_result : Family → Option Record → Result ℕ Refusal
record_result f None = Err BadRecord
record_result f (Some (AddProduct c)) = product_result f c
record_result f (Some (AddTransition t)) = transition_result f t

abbrev pub record_after : Family → Option Record → Family
record_after f None = f
record_after f (Some (AddProduct c)) = product_after f c
record_after f (Some (AddTransition t)) = transition_after f t

-- How far a load has come: on to a family, or stopped by a refusal at a record.
abbrev pub progress : Family → ℕ → Result ℕ Refusal → Result Family (Refusal × ℕ)
progress g n (Ok v) = Ok g
progress g n (Err r) = Err (r, n)

-- Record n, after those before it.
abbrev pub next_progress : ℕ → Option Record → Result Family (Refusal × ℕ) → Result Family (Refusal × ℕ)
next_progress n r (Err e) = Err e
next_progress n r (Ok f) = progress (record_after f r) n (record_result f r)

-- The first n records.
abbrev pub progress_after : Family → List ℕ → ℕ → Result Family (Refusal × ℕ)
progress_after f bs zero = Ok f
progress_after f bs (suc n) = next_progress n (record_from bs n) (progress_after f bs n)

-- The length is no multiple of 8 or above 3,648.
abbrev pub has_bad_length : List ℕ → Bool
has_bad_length bs = not (length bs % 8 == 0) || nat_lt 3648 (length bs)

-- The value is the count of records, or the number of the one that is refused.
abbrev pub progress_answer : ℕ → Result Family (Refusal × ℕ) → ℕ × ℕ
progress_answer n (Ok f) = (0, n)
progress_answer n (Err e) = (number_of e.0, e.1)

abbrev pub load_answer : Family → List ℕ → ℕ × ℕ
load_answer f bs =
    if has_bad_length bs then answer_of (Err BadLength)
    else progress_answer (length bs / 8) (progress_after f bs (length bs / 8))

abbrev pub load_after : Family → List ℕ → Family
load_after f bs = if has_bad_length bs then f else result_unwrap_or (progress_after f bs (length bs / 8)) f
