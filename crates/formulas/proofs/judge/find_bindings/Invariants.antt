use Rattle.std.proofs.Common.{◌≡◌, ℕ, ◌<◌, length, None, slice_index_or}
use Rattle.formulas.specs.Judge.{binding}
use Rattle.formulas.proofs.judge.find_bindings.Given as goal

abbrev pub invariant-loop-n : goal.invariant-loop-n
invariant-loop-n l = record {
  long : length l.bindings ≡ 64;
  bound : (m : ℕ) → m < l.n → slice_index_or l.bindings m None ≡ binding l.nodes m;
}
