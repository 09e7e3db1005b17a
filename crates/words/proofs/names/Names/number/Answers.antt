use Rattle.std.proofs.Common.{sym, ap, ◌∙◌, rules, arith}
use Rattle.words.specs.Words.{number}
use Rattle.words.proofs.Cut.{cut_lines, few_lines}
use Rattle.words.proofs.Numbers.{present}
use Rattle.words.proofs.names.Names.number.Goals as goal

pub map-requires : goal.map-requires
map-requires c = λ x e u v. omega (arith, (present _ c.args.name.now x (sym c.find.ensures ∙ e)).0, few_lines c.args.self.form)

pub returns : goal.returns
returns c = λ ws l. let e = ap (λ x. number x c.args.name.now) (cut_lines l) in search rules
