use Rattle.report_laws.proofs.Once.{one_outcome, one_line}
use Rattle.report_laws.proofs.Splitting.{one_transcript}
use Rattle.report_laws.proofs.answers_are_one.Goals as goal

pub returns : goal.returns
returns c = record { text = one_outcome; line = one_line; input = one_transcript }
