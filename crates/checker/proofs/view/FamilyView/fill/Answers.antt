use Rattle.std.proofs.Common.{◌∙◌, length, arith}
use Rattle.formulas.specs.Tables.{last}
use Rattle.semantics.specs.Entries.{no_pairs}
use Rattle.semantics.proofs.Evaluation.{evaluation_fills}
use Rattle.product_sets.proofs.Kept.{sets_kept_then}
use Rattle.checker.specs.Gathered.{family_of}
use Rattle.checker.proofs.Readings.{agrees_self, agrees_before, all_later}
use Rattle.checker.proofs.Tables.{sound_tables, none_above}
use Rattle.checker.proofs.Collecting.{first_places}
use Rattle.checker.proofs.view.FamilyView.fill.Goals as goal

pub satisfied-satisfied-requires : goal.satisfied-satisfied-requires
satisfied-satisfied-requires g c =
    let holds = g.K.Kind.holds in
    let means = g.K.Kind.means in
    let all = c.first-all.result in
    let made = c.first-all.ensures in
    let kept = c.conditions-conditions.ensures.kept in (
      omega (arith, g.met.K.Kind.roomy),
      (
        omega arith,
        (
          (kept all made.held).0,
          λ m agrees. first_places (m all) (length c.args.self.now.products.now) g.K.Kind.places (omega arith)
              (λ p. agrees_before holds means c.first-all.new.kind c.conditions-conditions.new.kind m kept
              agrees all made.held p ∙ made.value p),
        ),
      ),
    )

pub walk-requires : goal.walk-requires
walk-requires g c =
    let holds = g.K.Kind.holds in
    let means = g.K.Kind.means in
    let es = c.args.tables.now.exprs.now in
    let ns = c.args.tables.now.nodes.now in
    let sound = sound_tables c.args.tables.now in
    let all = c.first-all.result in
    let made = c.first-all.ensures in
    let k1 = c.first-all.new.kind in
    let k2 = c.conditions-conditions.new.kind in
    let k3 = c.satisfied-satisfied.new.kind in
    let conditions = c.conditions-conditions.ensures in
    let satisfied = c.satisfied-satisfied.ensures in
    record {
      inside = omega (arith, sound.some);
      room = omega arith;
      gathered = record {
        all = (satisfied.kept all (conditions.kept all made.held).0).0;
        conditions = all_later holds means k2 k3 c.conditions-conditions.result satisfied.kept
            conditions.held;
        satisfied = satisfied.held;
        meant = λ m agrees.
            (let a2 = agrees_before holds means k2 k3 m satisfied.kept agrees in
            let a1 = agrees_before holds means k1 k2 m conditions.kept a2 in
            record {
              everyone = first_places (m all) (length c.args.self.now.products.now) g.K.Kind.places
                  (omega arith) (λ p. a1 all made.held p ∙ made.value p);
              meeting = conditions.value m a2;
              satisfying = satisfied.value m agrees;
            });
      };
      held = none_above es ns sound _;
      products = λ m agrees. none_above es ns sound _;
    }

pub returns : goal.returns
returns g c =
    let holds = g.K.Kind.holds in
    let means = g.K.Kind.means in
    let F = family_of c.args.self.now in
    let es = c.args.tables.now.exprs.now in
    let ns = c.args.tables.now.nodes.now in
    let sound = sound_tables c.args.tables.now in
    let k1 = c.first-all.new.kind in
    let k2 = c.conditions-conditions.new.kind in
    let k3 = c.satisfied-satisfied.new.kind in
    let k4 = c.walk.new.kind in
    let walked = c.walk.ensures in
    let filled = evaluation_fills F es ns sound.tree sound.even _ _ (last ns)
    (walked.evaluated (means k4) (agrees_self holds means k4)) in
    record {
      held = λ n n<. walked.held n (sound.whole n n<);
      kept = sets_kept_then holds means c.args.kind.now k1 k4 c.first-all.ensures.kept
          (sets_kept_then holds means k1 k2 k4 c.conditions-conditions.ensures.kept
          (sets_kept_then holds means k2 k3 k4 c.satisfied-satisfied.ensures.kept walked.kept));
      beyond = walked.framed.beyond;
      products = λ n n<. filled.products (none_above es ns sound _) n (sound.whole n n<);
      filled = filled.filled no_pairs (none_above es ns sound _);
    }
