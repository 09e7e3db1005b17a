use Rattle.std.proofs.Common.{◌≡◌, ℕ, map, get_or, sym, ap, ◌∙◌, subst, inl, inr, arith}
use Rattle.std.proofs.lemmas.Bool.{cases_lt}
use Rattle.std.proofs.lemmas.List.{get_or_default}
use Rattle.formulas.specs.Judge.{entry_rule, Kept, Rules}
use Rattle.formulas.proofs.One.{kept_at, broken_at}
use Rattle.formulas.proofs.judge.ask.Goals as goal

pub returns-in-Some-clause-broken : goal.returns-in-Some-clause-broken
returns-in-Some-clause-broken c =
    let es = c.args.exprs.now in
    let ns = c.args.nodes.now in
    subst (λ (a : ℕ × ℕ). Rules (map (λ r. entry_rule r es ns) c.args.rules.now) a.0 a.1)
    (sym (c.refusal.ensures es ns))
    (broken_at es ns c.args.rules.now c.loop-rule.rule-index c.in-Some.n _ c.loop-rule-test.true
    c.loop-rule.invariant c.in-Some.ensures)

pub loop-rule-preserved : goal.loop-rule-preserved
loop-rule-preserved c = λ j r j<. elim (cases_lt j c.loop-rule.rule-index) [
  | inl l ↦ c.loop-rule.invariant j r l
  | inr g ↦
      let e : c.loop-rule.rule-index ≡ j = omega arith in
      subst (λ x. Kept (entry_rule x c.args.exprs.now c.args.nodes.now))
      (get_or_default c.args.rules.now c.loop-rule.rule-index _ r c.loop-rule-test.true
      ∙ ap (λ z. get_or c.args.rules.now z r) e) c.in_default.ensures
]

pub returns-clause-kept : goal.returns-clause-kept
returns-clause-kept c =
    λ e. kept_at c.args.exprs.now c.args.nodes.now c.args.rules.now
    (λ j d l. c.loop-rule.invariant j d (omega (arith, c.loop-rule-test.false)))
