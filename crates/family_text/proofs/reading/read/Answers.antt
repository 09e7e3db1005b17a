use Rattle.std.proofs.Common.{ℕ, Vec, Global, sym, ap, subst, ◌∙◌}
use Rattle.family_text.specs.Words.{texts}
use Rattle.family_text.specs.Grammar.{vocabulary, Tell}
use Rattle.family_text.proofs.Laws.{only_these}
use Rattle.family_text.proofs.Prints.{held}
use Rattle.family_text.proofs.reading.read.Goals as goal

pub returns-clause-only : goal.returns-clause-only
returns-clause-only c =
    λ said told. let e = ap texts c.deref.ensures.value ∙ c.in_ok-lines.ensures in
    only_these (λ (v : Vec ℕ Global). v.items) (vocabulary c.args.names.now) c.args.names.now.no_bars (texts c.deref.result.now) c.read_lines.result c.read_lines.ensures.read c.read_lines.ensures.fault said
    (subst (λ ls. Tell (vocabulary c.args.names.now) ls said) (sym e) told)

pub returns-clause-records : goal.returns-clause-records
returns-clause-records c =
    let e = ap texts c.deref.ensures.value ∙ c.in_ok-lines.ensures in
    held (λ (v : Vec ℕ Global). v.items) c.read_lines.result
    (λ said told. (only_these (λ (v : Vec ℕ Global). v.items) (vocabulary c.args.names.now) c.args.names.now.no_bars (texts c.deref.result.now) c.read_lines.result c.read_lines.ensures.read c.read_lines.ensures.fault said
    (subst (λ ls. Tell (vocabulary c.args.names.now) ls said) (sym e) told)).1)
