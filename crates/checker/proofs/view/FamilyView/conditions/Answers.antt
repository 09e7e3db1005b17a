use Rattle.std.proofs.Common.{◌<◌, length, get_or, ◌∙◌, refl, subst, arith, rules}
use Rattle.std.proofs.lemmas.List.{length-set}
use Rattle.std.proofs.lemmas.List.Elements.{All-set, All-replicate}
use Rattle.std.proofs.lemmas.Option.{get_or_from_slice_get, slice_get_within}
use Rattle.families.specs.Families.{Meets, config}
use Rattle.families.specs.declared.Transition.{Transition}
use Rattle.product_sets.specs.Cells.{in_cell}
use Rattle.product_sets.proofs.Kept.{sets_kept_same, sets_kept_then}
use Rattle.checker.specs.Gathered.{family_of, Collects}
use Rattle.checker.proofs.Readings.{agrees_before, all_later}
use Rattle.checker.proofs.Collecting.{nowhere, collects_where, more_sets}
use Rattle.checker.proofs.view.FamilyView.conditions.Goals as goal

pub loop-i-init : goal.loop-i-init
loop-i-init g c = record {
  kept = sets_kept_same g.K.Kind.holds g.K.Kind.means c.args.kind.now;
  long = refl;
  held = All-replicate (g.K.Kind.holds c.args.kind.now) 256 c.args.filler c.requires.held;
  meeting = λ m agrees j h. absurd (omega arith);
}

pub loop-i-preserved : goal.loop-i-preserved
loop-i-preserved g c =
    let holds = g.K.Kind.holds in
    let means = g.K.Kind.means in
    let F = family_of c.args.self.now in
    let i = c.loop-i.i in
    let t = get_or F.transitions i nowhere in
    let sets = c.loop-i.sets in
    let made = c.products_where.ensures in
    let set = c.products_where.result in
    let new = c.products_where.new.kind in
    let before = c.loop-i.invariant in
    let low : i < length sets = omega arith in
    record {
      kept = sets_kept_then holds means c.args.kind.now c.loop-i.kind new before.kept made.kept;
      long = length-set sets i set ∙ before.long;
      held = All-set (holds new) sets i set made.held (all_later holds means c.loop-i.kind new sets
          made.kept before.held);
      meeting = λ m agrees. more_sets F m (λ k p. Meets (config F p) (get_or F.transitions k nowhere)) sets
          set i low
          (before.meeting m (agrees_before holds means c.loop-i.kind new m made.kept agrees))
          (let met = collects_where F (m set) _ (λ x. Meets x t) (made.value m agrees) in met
          (λ x b called. search rules));
    }

pub returns-clause-value : goal.returns-clause-value
returns-clause-value g c = λ m agrees i t is.
    let F = family_of c.args.self.now in
    let low : i < length F.transitions = slice_get_within F.transitions i t is in
    subst (λ (y : Transition). Collects F (in_cell m c.loop-i.sets i) (λ p. Meets (config F p) y))
    (get_or_from_slice_get F.transitions i t nowhere is)
    (c.loop-i.invariant.meeting m agrees i (omega arith))
