use Rattle.report_laws.proofs.Digits.{same_digit}
use Rattle.report_laws.proofs.digits_are_same.Goals as goal

pub returns : goal.returns
returns c = same_digit
