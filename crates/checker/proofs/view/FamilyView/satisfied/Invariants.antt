use Rattle.std.proofs.Common.{◌≡◌, length}
use Rattle.std.specs.List.{All}
use Rattle.product_sets.specs.Kinds.{SetsKept}
use Rattle.checker.specs.Readings.{Reads}
use Rattle.checker.specs.Gathered.{family_of, Satisfying}
use Rattle.checker.proofs.view.FamilyView.satisfied.Given as goal

abbrev pub invariant-loop-n : goal.invariant-loop-n
invariant-loop-n g l = record {
  kept : SetsKept g.K.Kind.holds g.K.Kind.means l.fn.kind l.kind;
  long : length l.sets ≡ 64;
  held : All (g.K.Kind.holds l.kind) l.sets;
  satisfying : Reads g.K.Kind.holds g.K.Kind.means l.kind (λ m. Satisfying m (family_of l.self)
      l.tables.exprs.now l.sets l.n);
}
