use Rattle.std.proofs.Common.{ℕ, ◌<◌, IsTrue}
use Rattle.formulas.specs.Judge.{entry_rule}
use Rattle.formulas.proofs.judge.EntryRule.broken_at.Given as goal

abbrev pub invariant-loop-n : goal.invariant-loop-n
invariant-loop-n l = (m : ℕ) → m < l.n → IsTrue ((entry_rule l.self l.exprs l.nodes).keeps m)
