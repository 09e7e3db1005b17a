use Rattle.std.proofs.Common.{◌≡◌, ◌≤◌, List, refl, subst, take, arith, rules}
use Rattle.std.proofs.lemmas.Result.{err_from_is_err_and}
use Rattle.reader.specs.Refusals.{refusal_number}
use Rattle.reader.specs.declared.refusals.Refusal.{Refusal}
use Rattle.reader.specs.declared.refusals.Refusal.TheVariants as rf
use Rattle.formulas.specs.Judge.{Judged, answer_of}
use Rattle.formulas.specs.Tables.{formula_at, last}
use Rattle.formulas.specs.declared.Expr.{Expr}
use Rattle.formulas.specs.declared.Node.{Node}
use Rattle.report.specs.Answers.{Checked, unread, refused}
use Rattle.report.specs.Sessions.{family_of, actions_of, features_of}
use Rattle.report.specs.Verdicts.{outcome_of}
use Rattle.report.proofs.Judging.{refused_tables}
use Rattle.report.proofs.Texts.{tried_of, few_read, answer_read}
use Rattle.report.proofs.session.Session.verdict.Goals as goal

not_zero : (r : Refusal) → ¬ (refusal_number r ≡ 0)
not_zero rf.ShortTable e = omega arith
not_zero rf.LongText e = omega arith
not_zero rf.WordList e = omega arith
not_zero (rf.NoToken p) e = omega arith
not_zero (rf.NoFormula p) e = omega arith
not_zero (rf.UnknownName p) e = omega arith
not_zero rf.TooManyEntries e = omega arith

pub returns-in_err-count : goal.returns-in_err-count
returns-in_err-count c =
    let p = err_from_is_err_and c.from_residual.result c.from_residual.ensures.1 in
    rw (p.1, p.2.0, p.2.1) (unread (tried_of c.names.ensures.actions c.names.ensures.features refl refl c.in_err-count.ensures) (not_zero _))

pub slice_bounds-judge-end-2 : goal.slice_bounds-judge-end-2
slice_bounds-judge-end-2 c =
    let few : c.in_ok-count.count ≤ 64 = few_read refl (tried_of c.names.ensures.actions c.names.ensures.features refl refl c.in_ok-count.ensures) in search rules

pub returns-in-Err : goal.returns-in-Err
returns-in-Err c =
    let F = family_of c.args.self.now in
    let es = c.read_with.new.exprs in
    let part = take c.in_ok-count.count c.read_with.new.nodes in
    answer_read F c.args.text.now (actions_of c.args.self.now) (features_of c.args.self.now) refl
    (tried_of c.names.ensures.actions c.names.ensures.features refl refl c.in_ok-count.ensures) part refl (refused c.into-number.result.0 c.into-number.result.1)
    (refused_tables F es part _ c.in-Err.unsound c.into-number.result c.into-number.ensures (subst (λ r. Judged es part (answer_of r).0 (answer_of r).1) c.in-Err.is c.judge.ensures.judged))

pub returns-in-Ok : goal.returns-in-Ok
returns-in-Ok c =
    let F = family_of c.args.self.now in
    let es = c.read_with.new.exprs in
    let part = take c.in_ok-count.count c.read_with.new.nodes in
    let nodes = c.in-Ok.tables.nodes.now in
    let same = c.in-Ok.ensures.same in
    let o = outcome_of c.checked_by_mask.result in
    answer_read F c.args.text.now (actions_of c.args.self.now) (features_of c.args.self.now) refl
    (tried_of c.names.ensures.actions c.names.ensures.features refl refl c.in_ok-count.ensures) part refl o
    (subst (λ (ns : List Node). Checked F es ns (formula_at es ns (last ns)) o) same.1
    (subst (λ (xs : List Expr). Checked F xs nodes (formula_at xs nodes (last nodes)) o) same.0
    c.checked_by_mask.ensures))
