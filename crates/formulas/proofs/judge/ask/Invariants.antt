use Rattle.std.proofs.Common.{ℕ, ◌<◌, get_or}
use Rattle.formulas.specs.Judge.{entry_rule, Kept}
use Rattle.formulas.specs.declared.judge.EntryRule.{EntryRule}
use Rattle.formulas.proofs.judge.ask.Given as goal

abbrev pub invariant-loop-rule : goal.invariant-loop-rule
invariant-loop-rule l =
    (j : ℕ) (r : EntryRule) → j < l.rule-index → Kept (entry_rule (get_or l.rules j r) l.exprs l.nodes)
