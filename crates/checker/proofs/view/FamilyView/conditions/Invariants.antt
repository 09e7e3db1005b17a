use Rattle.std.proofs.Common.{◌≡◌, ℕ, ◌<◌, length, get_or}
use Rattle.std.specs.List.{All}
use Rattle.families.specs.Families.{Meets, config}
use Rattle.product_sets.specs.Cells.{in_cell}
use Rattle.product_sets.specs.Kinds.{SetsKept}
use Rattle.checker.specs.Readings.{Reads}
use Rattle.checker.specs.Gathered.{family_of, Collects}
use Rattle.checker.proofs.Collecting.{nowhere}
use Rattle.checker.proofs.view.FamilyView.conditions.Given as goal

abbrev pub invariant-loop-i : goal.invariant-loop-i
invariant-loop-i g l = record {
  kept : SetsKept g.K.Kind.holds g.K.Kind.means l.fn.kind l.kind;
  long : length l.sets ≡ 256;
  held : All (g.K.Kind.holds l.kind) l.sets;
  meeting : Reads g.K.Kind.holds g.K.Kind.means l.kind (λ m. (j : ℕ) → j < l.i
      → Collects (family_of l.self) (in_cell m l.sets j) (λ p. Meets (config (family_of l.self) p)
      (get_or l.self.transitions.now j nowhere)));
}
