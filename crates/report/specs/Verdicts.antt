-- What the program's own types stand for.
use Rattle.std.specs.Prelude.{Bool, List, take, Ok, Err, Result}
use Rattle.report.specs.Answers.{Outcome, digits, refused}
use Rattle.report.specs.declared.digits.Digits.{Digits}
use Rattle.report.specs.declared.verdict.Refused.{Refused}

-- The digits, in order.
abbrev pub row_of : Digits → List Bool
row_of d = take d.count d.holds

abbrev pub outcome_of : Result Digits Refused → Outcome
outcome_of (Ok d) = digits (row_of d)
outcome_of (Err r) = refused r.number r.value
