-- From the law of a check to the answer to its tables.
use Rattle.std.proofs.Common.{◌≡◌, ℕ, ◌+◌, ◌*◌, ◌<◌, ◌≤◌, Bool, false, T, List, length, get_or, take, sym}
use Rattle.std.proofs.Common.{refl, ap, ◌∙◌, subst, add-zero, mul-le-mul, arith, length-take, get_or-take}
use Rattle.families.specs.Families.{Family, count}
use Rattle.formulas.specs.Tables.{formula_at, last}
use Rattle.formulas.specs.Trees.{Formula}
use Rattle.formulas.specs.Sound.{Sound}
use Rattle.formulas.specs.declared.Expr.{Expr}
use Rattle.formulas.specs.declared.Node.{Node}
use Rattle.semantics.specs.Entries.{no_pairs}
use Rattle.semantics.proofs.Entries.{closed_entries}
use Rattle.product_sets.specs.Cells.{in_cell}
use Rattle.product_sets.proofs.Cells.{cell_at}
use Rattle.checker.specs.Walks.{rows}
use Rattle.checker.specs.Checks.{Answered, refused_tables, too_many_products, too_few_cells, accepted}
use Rattle.checker.specs.CheckLaw.{CheckLaw}
use Rattle.checker.proofs.Places.{row_fits}
use Rattle.report.specs.Answers.{digits, refused, Checked, unsound, crowded, answered}

-- With 64 places and cells for all tables, over at most 64 states.
module _ (F : Family) (es : List Expr) (ns : List Node) (small : F.states ≤ 64) (places : ℕ)
    (all : places ≡ 64) where
  -- 64 entries and 64 states have 4,096 cells.
  fits : Sound es ns → length ns * F.states ≤ 4096
  fits s = mul-le-mul s.few small

  refusal : (φ : Formula) (cells : ℕ) → 4096 ≤ cells → {whole : ℕ → Bool} {k v : ℕ} → Answered F es ns
      places cells whole k v → ¬ (k ≡ 0)
      → Checked F es ns φ (refused k v)
  refusal φ cells room (refused_tables j n) off = unsound j n
  refusal φ cells room (too_many_products s l) off = crowded s (omega arith)
  refusal φ cells room (too_few_cells s p l) off = absurd (omega (arith, fits s))
  refusal φ cells room (accepted s p l) off = absurd (off refl)

  admitted : (cells : ℕ) {whole : ℕ → Bool} {k v : ℕ} → Answered F es ns places cells whole k v → k ≡ 0 →
      Sound es ns × (count F ≤ 64)
  admitted cells (refused_tables j n) e = absurd (n e)
  admitted cells (too_many_products s l) e = absurd (omega arith)
  admitted cells (too_few_cells s p l) e = absurd (omega arith)
  admitted cells (accepted s p l) e = (s, omega arith)

  module _ {K S : Type 0} (means : K → S → ℕ → Bool) (kind kind' : K) (cells cells' : List S)
      (number value : ℕ)
      (law : CheckLaw means places F es ns kind cells kind' cells' number value) where
    pub refused_check : 4096 ≤ length cells → ¬ (number ≡ 0) → (φ : Formula) → Checked F es ns φ
        (refused number value)
    refused_check room off φ = refusal φ (length cells) room law.answer off

    pub admitted_check : number ≡ 0 → Sound es ns × (count F ≤ 64)
    admitted_check e = admitted (length cells) law.answer e

    -- The digits are the first ones of a list that is read from the cell of the last entry and state 0.
    pub digits_read : number ≡ 0 → 0 < F.states → length cells' ≡ length cells → (d : S) (ds : List Bool)
        (k : ℕ) → k ≤ length ds → k ≡ count F
        → ((p : ℕ) → p < count F → get_or ds p false ≡ means kind' (get_or cells' (last ns * F.states) d) p)
        → Checked F es ns (formula_at es ns (last ns)) (digits (take k ds))
    digits_read e some long d ds k room is each =
        let sound = admitted_check e in
        let fit = row_fits (last ns) (length ns) F.states (length cells) (omega (arith, sound.0.some))
        (law.room e) in
        answered sound.0 sound.1 (
          omega (arith, length-take k ds),
          λ p p<.
              let here : get_or (take k ds) p false ≡ in_cell (means kind') cells' (last ns * F.states + 0)
              p =
              get_or-take k ds p false (subst (λ (n : ℕ). p < n) (sym is) p<) ∙ each p p<
              ∙ sym (cell_at (means kind') cells' (last ns * F.states) d p (omega arith))
              ∙ ap (λ i. in_cell (means kind') cells' i p) (sym (add-zero (last ns * F.states))) in
              let c = closed_entries F es ns no_pairs (last ns) (rows (means kind') F.states cells')
              sound.0.bound (law.filled e) 0 p some p< in
              (λ h. c.0 (subst T here h), λ h. subst T (sym here) (c.1 h)),
        )
