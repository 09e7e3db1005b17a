-- Tables that are refused before they are checked.
use Rattle.std.proofs.Common.{◌≡◌, ℕ, List, sym, subst, arith}
use Rattle.families.specs.Families.{Family}
use Rattle.formulas.specs.declared.Expr.{Expr}
use Rattle.formulas.specs.declared.Node.{Node}
use Rattle.formulas.specs.declared.judge.Unsound.{Unsound}
use Rattle.formulas.specs.declared.judge.Unsound.TheVariants as un
use Rattle.formulas.specs.Judge.{Judged, pair_of}
use Rattle.formulas.specs.Trees.{Formula}
use Rattle.report.specs.Answers.{refused, Checked, unsound}

numbered : (u : Unsound) → ¬ ((pair_of u).0 ≡ 0)
numbered un.BadSize e = omega arith
numbered (un.BadExpr n) e = omega arith
numbered (un.BadNode n) e = omega arith
numbered (un.NotNamedOnce n) e = omega arith
numbered (un.BoundTwice n) e = omega arith
numbered (un.Unbound n) e = omega arith
numbered (un.OddlyBound n) e = omega arith

pub refused_tables : (F : Family) (es : List Expr) (ns : List Node) (φ : Formula) (u : Unsound) (answer : ℕ × ℕ) → answer ≡ pair_of u → Judged es ns (pair_of u).0 (pair_of u).1 → Checked F es ns φ (refused answer.0 answer.1)
refused_tables F es ns φ u answer e j = subst (λ a. Checked F es ns φ (refused a.0 a.1)) (sym e) (unsound j (numbered u))
