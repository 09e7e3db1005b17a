use Rattle.histories.proofs.Ledger.{loads_are_whole}
use Rattle.histories.proofs.laws.loads_are_whole.Goals as goal

pub returns : goal.returns
returns c = loads_are_whole
