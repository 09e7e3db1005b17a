use Rattle.std.proofs.Common.{◌≡◌, length}
use Rattle.std.specs.List.{All}
use Rattle.product_sets.specs.Cells.{in_cell}
use Rattle.product_sets.specs.Kinds.{SetsKept}
use Rattle.checker.specs.Readings.{Reads}
use Rattle.checker.specs.Gathered.{family_of}
use Rattle.checker.proofs.Leading.{GatheredTo}
use Rattle.checker.proofs.walk.Walk.sources.Given as goal

abbrev pub invariant-loop-i : goal.invariant-loop-i
invariant-loop-i g l = record {
  kept : SetsKept g.K.Kind.holds g.K.Kind.means l.fn.kind l.kind;
  long : length l.leading ≡ 64;
  held : All (g.K.Kind.holds l.kind) l.leading;
  reached : Reads g.K.Kind.holds g.K.Kind.means l.kind (λ m. GatheredTo (family_of l.self.view)
      (in_cell m l.targets) l.action (in_cell m l.leading) l.i);
}
