use Rattle.std.proofs.lemmas.Result.{err_from_is_err_and}
use Rattle.reader.proofs.Whole.{parsed_stuck, parsed_more, parsed_all}
use Rattle.reader.proofs.parser.Reader.whole.Goals as goal

pub returns-in_err-phrase-clause-parses : goal.returns-in_err-phrase-clause-parses
returns-in_err-phrase-clause-parses c =
    let p = err_from_is_err_and c.from_residual.result c.from_residual.ensures.1 in
    rw (p.1, p.2) (λ x st. parsed_stuck x _ _ c.args.self.now _ c.in_err-phrase.ensures.reads)

pub returns-in_err-end-clause-parses : goal.returns-in_err-end-clause-parses
returns-in_err-end-clause-parses c =
    let p = err_from_is_err_and c.from_residual-in_err-end.result c.from_residual-in_err-end.ensures.1 in
    rw (p.1, p.2) (λ x st. parsed_more x _ _ c.args.self.now c.phrase.new.self c.in_ok-phrase.field-0 _
    c.in_ok-phrase.ensures.onto c.in_ok-phrase.ensures.reads c.in_err-end.ensures)

pub returns-clause-parses : goal.returns-clause-parses
returns-clause-parses c = λ x st. parsed_all x c.args.self.now c.phrase.new.self c.in_ok-phrase.field-0
    c.verdict.result c.in_ok-phrase.ensures.reads c.in_ok-end.ensures c.verdict.ensures st
