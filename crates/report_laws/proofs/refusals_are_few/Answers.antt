use Rattle.report_laws.proofs.Refusing.{few_refusals}
use Rattle.report_laws.proofs.refusals_are_few.Goals as goal

pub returns : goal.returns
returns c = few_refusals
