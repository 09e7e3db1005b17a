use Rattle.std.proofs.Common.{◌≡◌, ℕ, ◌+◌, Bool, true, ◌&&◌, ◌||◌, eqb, ltb, length, get_or, sym, ap, ◌∙◌}
use Rattle.std.proofs.Common.{subst, arith}
use Rattle.std.proofs.lemmas.Bool.{both_ways}
use Rattle.product_sets.specs.Kinds.{SetsKept}
use Rattle.product_sets.proofs.Kept.{sets_kept_then}
use Rattle.checker.specs.Readings.{Reads}
use Rattle.checker.proofs.Readings.{agrees_before}
use Rattle.checker.proofs.Collecting.{PassingTo, grown, not_grown}
use Rattle.checker.proofs.view.FamilyView.products_where.Goals.{then-passes, else-passes}
use Rattle.checker.proofs.view.FamilyView.products_where.Goals as goal

pub loop-p-preserved : goal.loop-p-preserved
loop-p-preserved g c =
    let holds = g.K.Kind.holds in
    let means = g.K.Kind.means in
    let post : ℕ → Bool → Type 0 = goal.F-post g c.args.passes in
    let x : ℕ → ℕ = λ q. get_or c.args.self.now.products.now q 0 in
    let may : ℕ → Type 0 = λ q. post (x q) true in
    let must : ℕ → Type 0 = λ q. (b : Bool) → post (x q) b → b ≡ true in
    let now = c.loop-p.kind in
    let set = c.loop-p.set in
    let p = c.loop-p.p in
    let So : g.row.K.Denot → g.row.K-Set.Denot → Type 0 = λ k s.
    holds k s × SetsKept holds means c.args.kind.now k × Reads holds means k
    (λ m. PassingTo (m s) (p + 1) may must) in
    let before = c.loop-p.invariant in
    let done : So c.if-passes.kind c.if-passes.set = elim c.if-passes.branch [
      | then-passes w ↦ (let made = w.put-set.ensures in
          let new = w.put-set.new.self in
          let set' = w.put-set.result in
          subst (λ k. So k c.if-passes.set) (sym w.kind-is) (subst (So new) (sym w.set-is) (
            made.held,
            sets_kept_then holds means c.args.kind.now now new before.kept made.kept,
            λ m agrees.
                let a1 = agrees_before holds means now new m made.kept agrees in
                grown (m set) (m set') p g.K.Kind.places may must (omega arith)
                (λ q. agrees set' made.held q ∙ made.value q ∙ ap (λ b.
                b || (eqb q p && ltb q g.K.Kind.places)) (sym (a1 set before.held q)))
                (before.passing m a1) (subst (post (x p)) w.if-passes.true c.passes.ensures),
          )))
      | else-passes w ↦ subst (λ k. So k c.if-passes.set) (sym w.kind-is) (subst (So now) (sym w.set-is) (
        before.held,
        before.kept,
        λ m agrees. not_grown (m set) p may must (before.passing m agrees)
            (λ always. both_ways _ w.if-passes.false (always _ c.passes.ensures)),
      ))
    ] in
    record { held = done.0; kept = done.1; passing = done.2 }

pub returns-clause-value : goal.returns-clause-value
returns-clause-value g c = λ m agrees.
    let e : c.loop-p.p ≡ length c.args.self.now.products.now = omega arith in
    let post : ℕ → Bool → Type 0 = goal.F-post g c.args.passes in
    let x : ℕ → ℕ = λ q. get_or c.args.self.now.products.now q 0 in
    let all = subst (λ (n : ℕ). PassingTo (m c.loop-p.set) n (λ q. post (x q) true)
    (λ q. (b : Bool) → post (x q) b → b ≡ true)) e (c.loop-p.invariant.passing m agrees) in
    record { passed = λ p t. (let h = (all p).0 t in (h.0, h.1)); within = λ p. (all p).1 }
