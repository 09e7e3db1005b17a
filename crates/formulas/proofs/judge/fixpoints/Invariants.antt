use Rattle.std.proofs.Common.{◌≡◌, ℕ, ◌<◌, length, None, slice_index, slice_index_or}
use Rattle.formulas.specs.Judge.{fixpoint_or_0}
use Rattle.formulas.proofs.judge.fixpoints.Given as goal

abbrev pub invariant-loop-n : goal.invariant-loop-n
invariant-loop-n l = record {
  long : length l.fixpoints ≡ 64;
  bound : (m : ℕ) → m < l.n → slice_index l.fixpoints m ≡ fixpoint_or_0 (slice_index_or l.bindings m None);
}
