use Rattle.std.proofs.Common.{◌≡◌, ℕ, ◌+◌, ◌<◌, Bool, List, length, get_or, set, sym, ap, ◌∙◌, subst, inl}
use Rattle.std.proofs.Common.{inr, arith}
use Rattle.std.proofs.lemmas.Bool.{cases_eq}
use Rattle.std.proofs.lemmas.List.Elements.{AllWithin-more_set}
use Rattle.product_sets.specs.Cells.{in_cell}
use Rattle.product_sets.specs.Kinds.{SetsKept}
use Rattle.product_sets.proofs.Cells.{cell_at, in_written, in_other}
use Rattle.product_sets.proofs.Kept.{sets_kept_then}
use Rattle.checker.proofs.Readings.{agrees_before, within_later}
use Rattle.checker.proofs.rows.write_row.Goals as goal

-- One more cell by the rule.
cell_written : {S : Type 0} (mean : S → ℕ → Bool) (rule : ℕ → Bool → Bool → Bool) (row left right : List S)
    (i : ℕ) (l r out : S)
    → i < length row → i < length left → i < length right
    → ((p : ℕ) → mean out p ≡ rule p (mean (get_or left i l) p) (mean (get_or right i r) p))
    → ((s p : ℕ) → s < i → in_cell mean row s p ≡ rule p (in_cell mean left s p) (in_cell mean right s p))
    → (s p : ℕ) → s < i + 1 → in_cell mean (set row i out) s p ≡ rule p (in_cell mean left s p)
    (in_cell mean right s p)
cell_written mean rule row left right i l r out hw hl hr made before s p h =
    elim (cases_eq s i) [
      | inl e ↦ subst (λ (k : ℕ). in_cell mean (set row i out) k p ≡ rule p (in_cell mean left k p)
          (in_cell mean right k p)) (sym e)
          (in_written mean row i out p hw ∙ made p
          ∙ ap (λ b. rule p b (mean (get_or right i r) p)) (sym (cell_at mean left i l p hl))
          ∙ ap (rule p (in_cell mean left i p)) (sym (cell_at mean right i r p hr)))
      | inr ne ↦ in_other mean row i s out p ne ∙ before s p (omega arith)
    ]

pub loop-s-preserved : goal.loop-s-preserved
loop-s-preserved g c =
    let holds = g.K.Kind.holds in
    let means = g.K.Kind.means in
    let now = c.loop-s.kind in
    let new = c.step.new.arg2 in
    let before = c.loop-s.invariant in
    let step : SetsKept holds means now new = c.requires.steps.kept _ _ _ _ _ c.step.ensures in
    let low : c.loop-s.s < length c.args.row.now = omega arith in
    let hl = (before.kept _ (c.requires.left c.loop-s.s _ (omega arith) low)).0 in
    let hr = (before.kept _ (c.requires.right c.loop-s.s _ (omega arith) low)).0 in
    record {
      held = AllWithin-more_set c.loop-s.row c.loop-s.s c.step.result (omega arith) (holds new)
          (within_later holds means now new c.loop-s.row 0 c.loop-s.s step before.held)
          (c.requires.steps.held _ _ _ _ _ c.step.ensures hl hr);
      value = λ m agrees rule follows.
          cell_written m rule c.loop-s.row c.args.left.now c.args.right.now c.loop-s.s _ _ c.step.result
          (omega arith) (omega arith) (omega arith)
          (follows _ _ _ _ _ before.kept hl hr c.step.ensures agrees)
          (before.value m (agrees_before holds means now new m step agrees) rule follows);
      kept = sets_kept_then holds means c.args.kind.now now new before.kept step;
    }

pub returns-clause-value : goal.returns-clause-value
returns-clause-value g c = λ m agrees rule follows s p l. c.loop-s.invariant.value m agrees rule follows s p
    (omega arith)
