use Rattle.std.proofs.Common.{◌+◌, drop, ap, ◌∙◌, rules, tests}
use Rattle.std.proofs.lemmas.Iterator.{YieldsList-from_slice}
use Rattle.std.proofs.lemmas.Iterator.Consumers.{YieldsList-at, count_from_yields_List}
use Rattle.std.proofs.lemmas.Iterator.Search.{YieldsList-from_take_while}
use Rattle.std.proofs.lemmas.List.Folds.{length-prefix_len}
use Rattle.lexer.specs.Tokens.{in_name}
use Rattle.lexer.proofs.past_name.Goals as goal

pub returns-clause-value : goal.returns-clause-value
returns-clause-value c =
    ap (λ n. c.args.from + n) (count_from_yields_List c.take_while.result c.count.result c.count.ensures.ran (YieldsList-from_take_while _ in_name (YieldsList-at c.take_while.ensures.source (YieldsList-from_slice (drop c.args.from c.args.text.now) cc)) c.take_while.ensures.closure c.take_while.ensures.done (λ x b q k. search (rules, tests))) ∙ length-prefix_len in_name (drop c.args.from c.args.text.now))
