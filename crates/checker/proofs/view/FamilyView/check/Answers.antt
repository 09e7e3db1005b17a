use Rattle.std.proofs.Common.{◌≡◌, ℕ, sym, refl, ap, ◌∙◌, subst}
use Rattle.formulas.specs.Judge.{pair_of}
use Rattle.checker.specs.Gathered.{family_of}
use Rattle.checker.specs.Checks.{refusal_pair, refused_tables}
use Rattle.checker.specs.CheckLaw.{CheckLaw}
use Rattle.checker.proofs.Tables.{unsound_number}
use Rattle.checker.proofs.view.FamilyView.check.Goals as goal

pub returns-in-Err-clause-law : goal.returns-in-Err-clause-law
returns-in-Err-clause-law g c =
    let unsound = c.in-Err.unsound in
    let told : c.into.result ≡ pair_of unsound = c.into.ensures ∙ ap refusal_pair c.from.ensures in
    let kind = c.args.kind.now in
    let cells = c.args.cells.now in
    subst (λ (a : ℕ × ℕ). CheckLaw g.K.Kind.means g.K.Kind.places (family_of c.args.self.now) c.args.exprs.now
    c.args.nodes.now kind cells kind cells a.0 a.1) (sym told) (record {
      answer = refused_tables c.in-Err.ensures.judged (unsound_number unsound);
      room = λ e. absurd (unsound_number unsound e);
      filled = λ e. absurd (unsound_number unsound e);
      products = λ e. absurd (unsound_number unsound e);
      beyond = λ e. absurd (unsound_number unsound e);
      refused = λ off. (refl, refl);
    })
