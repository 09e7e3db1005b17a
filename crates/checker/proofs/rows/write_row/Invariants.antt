use Rattle.std.proofs.Common.{◌≡◌, ℕ, ◌<◌, Bool}
use Rattle.std.specs.List.{AllWithin}
use Rattle.product_sets.specs.Cells.{in_cell}
use Rattle.product_sets.specs.Kinds.{SetsKept}
use Rattle.checker.specs.Readings.{Reads}
use Rattle.checker.specs.Steps.{Follows}
use Rattle.checker.proofs.rows.write_row.Given as goal

abbrev pub invariant-loop-s : goal.invariant-loop-s
invariant-loop-s g l = record {
  held : AllWithin (g.K.Kind.holds l.kind) l.row 0 l.s;
  value : Reads g.K.Kind.holds g.K.Kind.means l.kind (λ m. (rule : ℕ → Bool → Bool → Bool)
      → Follows g.K.Kind.holds g.K.Kind.means (goal.F-post g l.step) l.initial.kind m rule → (s p : ℕ) → s <
      l.s
      → in_cell m l.row s p ≡ rule p (in_cell m l.left s p) (in_cell m l.right s p));
  kept : SetsKept g.K.Kind.holds g.K.Kind.means l.initial.kind l.kind;
}
