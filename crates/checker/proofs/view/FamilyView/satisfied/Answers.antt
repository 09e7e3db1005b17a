use Rattle.std.proofs.Common.{◌≡◌, ℕ, ◌<◌, length, refl, ◌∙◌, subst, arith}
use Rattle.std.proofs.lemmas.List.{length-set}
use Rattle.std.proofs.lemmas.List.Elements.{All-set, All-replicate}
use Rattle.semantics.specs.Evaluation.{Chosen}
use Rattle.product_sets.proofs.Kept.{sets_kept_same, sets_kept_then}
use Rattle.checker.specs.Gathered.{family_of, Satisfying}
use Rattle.checker.proofs.Tables.{sound_tables}
use Rattle.checker.proofs.Readings.{agrees_before, all_later}
use Rattle.checker.proofs.Collecting.{more_sets}
use Rattle.checker.proofs.view.FamilyView.satisfied.Goals as goal

pub loop-n-init : goal.loop-n-init
loop-n-init g c = record {
  kept = sets_kept_same g.K.Kind.holds g.K.Kind.means c.args.kind.now;
  long = refl;
  held = All-replicate (g.K.Kind.holds c.args.kind.now) 64 c.args.all c.requires.held;
  satisfying = λ m agrees e h. absurd (omega arith);
}

pub satisfying-requires : goal.satisfying-requires
satisfying-requires g c =
    let holds = g.K.Kind.holds in
    let means = g.K.Kind.means in
    let before = c.loop-n.invariant in (
      omega (arith, g.met.K.Kind.roomy),
      (
        (omega arith, omega arith),
        (
          ((before.kept c.args.all c.requires.held).0, before.held),
          (
            λ m agrees. c.requires.everyone m (agrees_before holds means c.args.kind.now c.loop-n.kind m
                before.kept agrees),
            before.satisfying,
          ),
        ),
      ),
    )

pub bounds-sets-n : goal.bounds-sets-n
bounds-sets-n g c = omega (arith, (sound_tables c.args.tables.now).few_expressions)

pub listed : goal.listed
listed g c = omega (arith, (sound_tables c.args.tables.now).few_expressions)

pub loop-n-preserved : goal.loop-n-preserved
loop-n-preserved g c =
    let holds = g.K.Kind.holds in
    let means = g.K.Kind.means in
    let F = family_of c.args.self.now in
    let sets = c.loop-n.sets in
    let made = c.satisfying.ensures in
    let set = c.satisfying.result in
    let new = c.satisfying.new.kind in
    let before = c.loop-n.invariant in
    let low : c.loop-n.n < length sets = omega (arith, (sound_tables c.args.tables.now).few_expressions) in
    record {
      kept = sets_kept_then holds means c.args.kind.now c.loop-n.kind new before.kept made.kept;
      long = length-set sets c.loop-n.n set ∙ before.long;
      held = All-set (holds new) sets c.loop-n.n set made.held (all_later holds means c.loop-n.kind new sets
          made.kept before.held);
      satisfying = λ m agrees. more_sets F m (Chosen F c.args.tables.now.exprs.now) sets set c.loop-n.n low
          (before.satisfying m (agrees_before holds means c.loop-n.kind new m made.kept agrees))
          (made.value m agrees);
    }

pub returns-clause-value : goal.returns-clause-value
returns-clause-value g c = λ m agrees.
    let e : c.loop-n.n ≡ length c.args.tables.now.exprs.now = omega arith in
    subst (λ (k : ℕ). Satisfying m (family_of c.args.self.now) c.args.tables.now.exprs.now c.loop-n.sets k)
    e (c.loop-n.invariant.satisfying m agrees)
