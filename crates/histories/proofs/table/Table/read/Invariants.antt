use Rattle.std.proofs.Common.{◌≡◌, ℕ, ◌<◌, length, map, Some}
use Rattle.std.specs.List.{slice_get}
use Rattle.std.specs.Option.{option_map}
use Rattle.histories.proofs.table.Table.read.Given as goal

abbrev pub invariant-loop-product : goal.invariant-loop-product
invariant-loop-product g l = record {
  as_many : length l.columns.items ≡ l.product;
  columns : (p : ℕ) → p < l.product
      → option_map (λ answers. answers.items) (slice_get l.columns.items p)
      ≡ Some (map (λ set. g.K.Kind.means l.kind set p) l.rows);
}
