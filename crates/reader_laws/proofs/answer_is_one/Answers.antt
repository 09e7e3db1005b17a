use Rattle.reader_laws.proofs.One.{one_answer}
use Rattle.reader_laws.proofs.answer_is_one.Goals as goal

pub returns : goal.returns
returns c = one_answer
