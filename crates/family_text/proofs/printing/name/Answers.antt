use Rattle.words.specs.Cut.{cut}
use Rattle.family_text.proofs.Prints.{named_word, unnamed_word}
use Rattle.family_text.proofs.printing.name.Goals as goal

pub returns-in-Some : goal.returns-in-Some
returns-in-Some c = named_word (cut c.args.list.list.now) c.args.number c.name.result c.in-Some.name c.name.ensures c.in-Some.is

pub returns-in-None : goal.returns-in-None
returns-in-None c = unnamed_word (cut c.args.list.list.now) c.args.number c.name.result c.name.ensures c.in-None.is
