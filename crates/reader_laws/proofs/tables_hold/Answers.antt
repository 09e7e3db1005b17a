use Rattle.reader_laws.proofs.Hold.{tables_hold}
use Rattle.reader_laws.proofs.Ruled.{rules_kept}
use Rattle.reader_laws.proofs.tables_hold.Goals as goal

pub returns : goal.returns
returns c = record { stand = tables_hold; ruled = rules_kept }
