use Rattle.grammar.proofs.Prefix.{decided, unambiguous, one_offence}
use Rattle.grammar.proofs.grammar_holds.Goals as goal

pub returns : goal.returns
returns c = record { decided = decided; unambiguous = unambiguous; one_offence = one_offence }
