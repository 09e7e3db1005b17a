use Rattle.words.specs.Cut.{cut}
use Rattle.family_text.proofs.Lists.{cut_into, below_limit}
use Rattle.family_text.proofs.vocabulary.number.Goals as goal

pub returns-clause-value : goal.returns-clause-value
returns-clause-value c = c.number.ensures (cut c.args.list.list.now) (cut_into c.args.list.form)

pub returns-clause-below : goal.returns-clause-below
returns-clause-below c =
    below_limit c.args.list.form c.args.word.now c.number.result (c.number.ensures (cut c.args.list.list.now) (cut_into c.args.list.form))
