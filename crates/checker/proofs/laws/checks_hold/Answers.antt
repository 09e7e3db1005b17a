use Rattle.checker.proofs.Answering.{one_checked}
use Rattle.checker.proofs.laws.checks_hold.Goals as goal

pub returns : goal.returns
returns g c = one_checked g.K.Kind.means g.L.Kind.means g.K.Kind.places g.L.Kind.places
