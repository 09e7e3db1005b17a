use Rattle.std.proofs.Common.{◌≡◌, drop, sym, subst, rules, ◌∷◌}
use Rattle.lexer.specs.Tokens.{tok}
use Rattle.lexer.specs.Cuts.{sym_of, tok_of}
use Rattle.lexer.specs.Texts.{toks}
use Rattle.reader.specs.Reading.{left}
use Rattle.reader.proofs.parser.Reader.end.Goals as goal

pub returns-in-Some : goal.returns-in-Some
returns-in-Some c =
    let t = c.in-Some.token.now in
    let on = toks (drop 1 c.args.self.now.tokens.now) in
    let next : left c.args.self.now ≡ tok_of t ∷ on = search rules in
    (sym_of t, on, subst (λ p. left c.args.self.now ≡ tok (sym_of t) p ∷ on) (sym c.place.ensures) next)
