use Rattle.std.proofs.Common.{◌∙◌, rules, tests}
use Rattle.std.specs.Str.{bytes_eq}
use Rattle.std.proofs.lemmas.Iterator.Consumers.{YieldsList-from_first}
use Rattle.std.proofs.lemmas.Iterator.Search.{position_from_yields_List}
use Rattle.words.specs.Cut.{cut, left}
use Rattle.words.proofs.Numbers.{position_number}
use Rattle.words.proofs.names.find.Goals as goal

pub returns : goal.returns
returns c =
    position_from_yields_List (λ l. bytes_eq l c.args.name.now) c.position.new.self _ c.position.result c.position.ensures.ran (YieldsList-from_first (λ l. l.now) left (cut c.args.list.now) c.of.ensures) (λ x b q k. search (rules, tests))
    ∙ position_number (cut c.args.list.now) c.args.name.now
