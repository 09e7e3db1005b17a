use Rattle.std.proofs.Common.{◌≡◌, drop}
use Rattle.formulas.specs.Judge.{climb, nearest}
use Rattle.formulas.proofs.judge.climb.Given as goal

abbrev pub invariant-loop-p : goal.invariant-loop-p
invariant-loop-p l = climb l.v l.below l.odd l.p (drop l.p l.nodes) ≡ nearest l.nodes l.v l.n
