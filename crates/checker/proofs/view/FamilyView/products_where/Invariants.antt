use Rattle.std.proofs.Common.{◌≡◌, Bool, true, get_or}
use Rattle.product_sets.specs.Kinds.{SetsKept}
use Rattle.checker.specs.Readings.{Reads}
use Rattle.checker.proofs.Collecting.{PassingTo}
use Rattle.checker.proofs.view.FamilyView.products_where.Given as goal

abbrev pub invariant-loop-p : goal.invariant-loop-p
invariant-loop-p g l = record {
  held : g.K.Kind.holds l.kind l.set;
  kept : SetsKept g.K.Kind.holds g.K.Kind.means l.fn.kind l.kind;
  passing : Reads g.K.Kind.holds g.K.Kind.means l.kind (λ m. PassingTo (m l.set) l.p
      (λ q. goal.F-post g l.passes (get_or l.self.products.now q 0) true)
      (λ q. (b : Bool) → goal.F-post g l.passes (get_or l.self.products.now q 0) b → b ≡ true));
}
