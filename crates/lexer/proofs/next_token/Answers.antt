use Rattle.std.proofs.Common.{◌≡◌, sym, subst, rules}
use Rattle.lexer.specs.Cuts.{seen, end, cut_at, Lawful}
use Rattle.lexer.proofs.Longest.{law}
use Rattle.lexer.proofs.next_token.Goals as goal

pub returns-then-at-text-clause-longest : goal.returns-then-at-text-clause-longest
returns-then-at-text-clause-longest c =
    let same : seen c.first_token.result ≡ cut_at c.args.text.now c.args.from = search rules in
    subst (λ s. Lawful c.args.text.now c.args.from s) (sym same) (law c.args.text.now c.args.from)

pub returns-else-at-text-clause-longest : goal.returns-else-at-text-clause-longest
returns-else-at-text-clause-longest c =
    let same : end ≡ cut_at c.args.text.now c.args.from = search rules in
    subst (λ s. Lawful c.args.text.now c.args.from s) (sym same) (law c.args.text.now c.args.from)
