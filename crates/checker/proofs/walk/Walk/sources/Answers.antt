use Rattle.std.proofs.Common.{◌≡◌, ℕ, ◌+◌, ◌<◌, Bool, ◌&&◌, ◌||◌, List, length, get_or, set, replicate}
use Rattle.std.proofs.Common.{refl, sym, ap, ◌∙◌, subst, arith}
use Rattle.std.specs.List.{All}
use Rattle.std.proofs.lemmas.List.{length-set}
use Rattle.std.proofs.lemmas.List.Elements.{All-set, All-replicate}
use Rattle.std.proofs.lemmas.Option.{slice_get-get_or}
use Rattle.product_sets.specs.Cells.{in_cell}
use Rattle.product_sets.specs.Kinds.{SetsKept}
use Rattle.product_sets.proofs.Cells.{cell_at, in_written, in_other, in_replicate}
use Rattle.product_sets.proofs.Kept.{sets_kept_then}
use Rattle.checker.specs.Readings.{Reads}
use Rattle.checker.specs.Gathered.{family_of}
use Rattle.checker.proofs.Readings.{agrees_before, all_later}
use Rattle.checker.proofs.Collecting.{nowhere}
use Rattle.checker.proofs.Leading.{within_at, GatheredTo, none_reached, other_action, same_action}
use Rattle.checker.proofs.Leading.{all_reached}
use Rattle.checker.proofs.walk.Walk.sources.Goals.{then-transition-action, else-transition-action}
use Rattle.checker.proofs.walk.Walk.sources.Goals as goal

-- What is led into a set, at cells that are there.
led_at : {X : Type 0} (m : X → ℕ → Bool) (xs ys zs : List X) (i s t s' t' : ℕ) (r a b d : X) (p : ℕ) → s' ≡
    s → t' ≡ t → s < length xs → i < length ys → t < length zs
    → m r p ≡ (m (get_or xs s' a) p || (m (get_or ys i b) p && m (get_or zs t' d) p))
    → in_cell m (set xs s' r) s p ≡ (in_cell m xs s p || (in_cell m ys i p && in_cell m zs t p))
led_at m xs ys zs i s t s' t' r a b d p es et hs hi ht e =
    ap (λ (k : ℕ). in_cell m (set xs k r) s p) es ∙ in_written m xs s r p hs ∙ e
    ∙ ap (λ x. x || (m (get_or ys i b) p && m (get_or zs t' d) p)) (ap (λ (k : ℕ). m (get_or xs k a) p) es ∙
    sym (cell_at m xs s a p hs))
    ∙ ap (λ x. in_cell m xs s p || (x && m (get_or zs t' d) p)) (sym (cell_at m ys i b p hi))
    ∙ ap (λ x. in_cell m xs s p || (in_cell m ys i p && x)) (ap (λ (k : ℕ). m (get_or zs k d) p) et ∙ sym
    (cell_at m zs t d p ht))

pub loop-i-init : goal.loop-i-init
loop-i-init g c =
    let new = c.none-leading.new.self in
    let none = c.none-leading.result in
    let made = c.none-leading.ensures in
    record {
      kept = made.kept;
      long = refl;
      held = All-replicate (g.K.Kind.holds new) 64 none made.held;
      reached = λ m agrees. none_reached (family_of c.args.self.now.view) (in_cell m c.args.targets.now)
          c.args.action (in_cell m (replicate 64 none))
          (λ s p h. in_replicate m 64 s none p (omega arith) ∙ agrees none made.held p ∙ made.value p);
    }

pub listed : goal.listed
listed g c =
    let w = within_at c.args.self.now.view.states c.args.self.now.view.transitions.now c.loop-i.i nowhere
    c.args.self.now.view.within (omega arith) in
    omega (arith, c.args.self.now.long.0)

pub bounds-targets-from : goal.bounds-targets-from
bounds-targets-from g c =
    let w = within_at c.args.self.now.view.states c.args.self.now.view.transitions.now c.loop-i.i nowhere
    c.args.self.now.view.within (omega arith) in
    omega (arith, c.args.self.now.long.0)

pub listed-then-transition-action : goal.listed-then-transition-action
listed-then-transition-action g c =
    let w = within_at c.args.self.now.view.states c.args.self.now.view.transitions.now c.loop-i.i nowhere
    c.args.self.now.view.within (omega arith) in
    omega (arith, c.args.self.now.long.0)

pub bounds-leading-source : goal.bounds-leading-source
bounds-leading-source g c =
    let w = within_at c.args.self.now.view.states c.args.self.now.view.transitions.now c.loop-i.i nowhere
    c.args.self.now.view.within (omega arith) in
    omega (arith, c.args.self.now.long.0)

pub listed-then-transition-action-2 : goal.listed-then-transition-action-2
listed-then-transition-action-2 g c =
    let w = within_at c.args.self.now.view.states c.args.self.now.view.transitions.now c.loop-i.i nowhere
    c.args.self.now.view.within (omega arith) in
    omega (arith, c.args.self.now.long.0)

pub listed-then-transition-action-3 : goal.listed-then-transition-action-3
listed-then-transition-action-3 g c =
    let w = within_at c.args.self.now.view.states c.args.self.now.view.transitions.now c.loop-i.i nowhere
    c.args.self.now.view.within (omega arith) in
    omega (arith, c.args.self.now.long.0)

pub bounds-leading-source-then-transition-action : goal.bounds-leading-source-then-transition-action
bounds-leading-source-then-transition-action g c =
    let w = within_at c.args.self.now.view.states c.args.self.now.view.transitions.now c.loop-i.i nowhere
    c.args.self.now.view.within (omega arith) in
    omega (arith, c.args.self.now.long.0)

pub loop-i-preserved : goal.loop-i-preserved
loop-i-preserved g c =
    let holds = g.K.Kind.holds in
    let means = g.K.Kind.means in
    let base = c.args.kind.now in
    let w = c.args.self.now in
    let F = family_of w.view in
    let i = c.loop-i.i in
    let t = get_or F.transitions i nowhere in
    let inside : i < length F.transitions = omega arith in
    let targets = c.args.targets.now in
    let before = c.loop-i.invariant in
    let So : g.row.K.Denot → List g.row.K-Set.Denot → Type 0 = λ k from.
    SetsKept holds means base k × (length from ≡ 64) × All (holds k) from × Reads holds means k
    (λ m. GatheredTo F (in_cell m targets) c.args.action (in_cell m from) (i + 1)) in
    let done : So c.if-transition-action.kind c.if-transition-action.leading = elim
    c.if-transition-action.branch [
      | then-transition-action x ↦ (
          let b = within_at F.states F.transitions i nowhere w.view.within inside in
          let made = x.with_led.ensures in
          let new = x.with_led.new.kind in
          let from = x.from-source.result in
          let low : from < length c.loop-i.leading = omega (arith, before.long, x.from-source.ensures, b.0) in
          let h1 = before.held from x.index-leading-source.result low in
          let h2 = (before.kept _ (c.requires.gathered.conditions i x.index-self-i.result
          (omega (arith, w.view.sized, w.long.0)))).0 in
          let h3 = (before.kept _ (c.requires.held x.from.result x.index-targets-from.result (omega arith)
          (omega (arith, x.from.ensures, b.1)))).0 in
          subst (λ k. So k c.if-transition-action.leading) (sym x.kind-is)
          (subst (So new) (sym x.leading-is) (
            sets_kept_then holds means base c.loop-i.kind new before.kept made.kept,
            length-set c.loop-i.leading from x.with_led.result ∙ before.long,
            All-set (holds new) c.loop-i.leading from x.with_led.result made.held
                (all_later holds means c.loop-i.kind new c.loop-i.leading made.kept before.held),
            λ m agrees.
                let a1 = agrees_before holds means c.loop-i.kind new m made.kept agrees in
                let a0 = agrees_before holds means base c.loop-i.kind m before.kept a1 in
                same_action F (in_cell m targets) c.args.action i nowhere inside
                (in_cell m c.loop-i.leading) (in_cell m (set c.loop-i.leading from x.with_led.result))
                (in_cell m w.conditions.now i) x.if-transition-action.true b.1
                ((c.requires.gathered.meant m a0).meeting i t (slice_get-get_or F.transitions i nowhere
                inside))
                (λ p. led_at m c.loop-i.leading w.conditions.now targets i t.source t.target from
                x.from.result x.with_led.result _ _ _ p
                x.from-source.ensures x.from.ensures (omega (arith, before.long)) (omega (arith, w.long.0))
                (omega arith) (made.value (h1, h2, h3) m agrees p))
                (λ s p ne. in_other m c.loop-i.leading from s x.with_led.result p
                (λ e. ne (e ∙ x.from-source.ensures)))
                (before.reached m a1),
          )))
      | else-transition-action x ↦ subst (λ k. So k c.if-transition-action.leading) (sym x.kind-is)
          (subst (So c.loop-i.kind) (sym x.leading-is) (
            before.kept,
            before.long,
            before.held,
            λ m agrees. other_action F (in_cell m targets) c.args.action i nowhere inside
                (in_cell m c.loop-i.leading) x.if-transition-action.false (before.reached m agrees),
          ))
    ] in
    record { kept = done.0; long = done.1; held = done.2; reached = done.3 }

pub returns-clause-value : goal.returns-clause-value
returns-clause-value g c = λ m agrees.
    let F = family_of c.args.self.now.view in
    let e : c.loop-i.i ≡ length F.transitions = omega arith in
    all_reached F (in_cell m c.args.targets.now) c.args.action (in_cell m c.loop-i.leading) c.loop-i.i e
    (c.loop-i.invariant.reached m agrees)
