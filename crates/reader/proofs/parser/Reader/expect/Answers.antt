use Rattle.std.proofs.Common.{IsTrue, sym, subst, ap, ◌∙◌, rules}
use Rattle.lexer.specs.Tokens.{sign}
use Rattle.lexer.specs.Cuts.{sym_of, place_of}
use Rattle.grammar.specs.Machine.{expect}
use Rattle.reader.specs.Reading.{Stuck}
use Rattle.reader.proofs.Steps.{stuck_token, expect_stops}
use Rattle.reader.proofs.parser.Reader.expect.Goals as goal

pub returns-else-is_sign-clause-reads : goal.returns-else-is_sign-clause-reads
returns-else-is_sign-clause-reads c = λ m h.
    let t = c.in_ok-token.token in
    let other = expect_stops m (sym_of t) (place_of t)
    (λ e. let k : IsTrue c.is_sign.result = c.is_sign.ensures.1 (e ∙ ap sign (sym h)) in search rules) in
    subst (Stuck _ c.args.self.now) (sym c.place.ensures)
    (stuck_token (expect m) c.args.self.now c.take.new.self (sym_of t) (place_of t)
    c.in_ok-token.ensures.takes other)
