use Rattle.semantics.proofs.Evaluation.{evaluation_fills}
use Rattle.semantics.proofs.evaluations_fill.Goals as goal

pub returns : goal.returns
returns c = evaluation_fills
