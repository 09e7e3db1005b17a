use Rattle.std.proofs.Common.{◌≡◌, ℕ, ◌<◌, false, length, get_or}
use Rattle.report.proofs.digits.Digits.of.Given as goal

abbrev pub invariant-loop-place : goal.invariant-loop-place
invariant-loop-place g l =
    (length l.digit-items ≡ l.count) × ((p : ℕ) → p < l.place → get_or l.digit-items p false ≡ g.K.Kind.means l.kind l.set p)
