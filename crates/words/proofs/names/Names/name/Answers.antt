use Rattle.std.proofs.Common.{◌∙◌, ap, slice_get}
use Rattle.std.proofs.lemmas.Iterator.Consumers.{YieldsList-from_first, nth_from_yields_List}
use Rattle.words.specs.Cut.{cut, left}
use Rattle.words.proofs.names.Names.name.Goals as goal

pub returns : goal.returns
returns c =
    nth_from_yields_List c.nth.result c.nth.new.self c.from.result c.nth.ensures.ran
    (YieldsList-from_first (λ l. l.now) left (cut c.args.self.list.now) c.of.ensures)
    ∙ ap (slice_get (cut c.args.self.list.now)) c.from.ensures
