-- The answer of a check is one: it follows from the judgement of the tables, from the room, and from the
-- meanings.
use Rattle.std.proofs.Common.{◌≡◌, ℕ, zero, suc, ◌+◌, ◌*◌, ◌<◌, Bool, cond, List, length, sym, refl, ap}
use Rattle.std.proofs.Common.{◌∙◌, subst, add-zero, arith}
use Rattle.families.specs.Families.{Family, count}
use Rattle.families.proofs.Tests.{same_test}
use Rattle.formulas.specs.Tables.{last, itself}
use Rattle.formulas.specs.Sound.{Sound}
use Rattle.formulas.specs.declared.Expr.{Expr}
use Rattle.formulas.specs.declared.Node.{Node}
use Rattle.formulas.proofs.One.{one_judgement, accepts_sound}
use Rattle.semantics.specs.Entries.{no_pairs}
use Rattle.semantics.proofs.Entries.{one_filling}
use Rattle.product_sets.specs.Cells.{in_cell}
use Rattle.checker.specs.Walks.{rows}
use Rattle.checker.specs.Checks.{how_many, Answered, refused_tables, too_many_products, too_few_cells}
use Rattle.checker.specs.Checks.{accepted}
use Rattle.checker.specs.CheckLaw.{CheckLaw, OneChecked}

pub how_many_same : (n : ℕ) (f g : ℕ → Bool) → ((p : ℕ) → p < n → f p ≡ g p) → how_many n f ≡ how_many n g
how_many_same zero f g e = refl
how_many_same (suc n) f g e = ap (λ (k : ℕ). k + cond (f n) 1 0) (how_many_same n f g
    (λ p h. e p (omega arith))) ∙ ap (λ (b : Bool). how_many n g + cond b 1 0) (e n (omega arith))

module _ (F : Family) (es : List Expr) (ns : List Node) where
  pub answered_sound : {places cells : ℕ} {whole : ℕ → Bool} {k v : ℕ} → Answered F es ns places cells whole
      k v → k ≡ 0 → Sound es ns
  answered_sound (refused_tables j n) e = absurd (n e)
  answered_sound (too_many_products s l) e = absurd (omega arith)
  answered_sound (too_few_cells s p l) e = absurd (omega arith)
  answered_sound (accepted s p l) e = s

  accepted_value : {places cells : ℕ} {whole : ℕ → Bool} {k v : ℕ} → Answered F es ns places cells whole k v
      → k ≡ 0 → v ≡ how_many (count F) whole
  accepted_value (refused_tables j n) e = absurd (n e)
  accepted_value (too_many_products s l) e = absurd (omega arith)
  accepted_value (too_few_cells s p l) e = absurd (omega arith)
  accepted_value (accepted s p l) e = refl

  module _ {places cells : ℕ} {whole whole' : ℕ → Bool} where
    one_answer : {k v l w : ℕ} → Answered F es ns places cells whole k v → Answered F es ns places cells
        whole' l w
        → (k ≡ 0 → l ≡ 0 → how_many (count F) whole ≡ how_many (count F) whole') → (k ≡ l) × (v ≡ w)
    one_answer (refused_tables j n) (refused_tables i m) same = one_judgement es ns _ _ _ _ j i
    one_answer (refused_tables j n) (too_many_products s l) same = absurd
        (n ((accepts_sound es ns _ _ j).1 s))
    one_answer (refused_tables j n) (too_few_cells s p l) same = absurd (n ((accepts_sound es ns _ _ j).1 s))
    one_answer (refused_tables j n) (accepted s p l) same = absurd (n ((accepts_sound es ns _ _ j).1 s))
    one_answer (too_many_products s l) (refused_tables j n) same = absurd
        (n ((accepts_sound es ns _ _ j).1 s))
    one_answer (too_many_products s l) (too_many_products t m) same = (refl, refl)
    one_answer (too_many_products s l) (too_few_cells t q m) same = absurd (omega arith)
    one_answer (too_many_products s l) (accepted t q m) same = absurd (omega arith)
    one_answer (too_few_cells s p l) (refused_tables j n) same = absurd (n ((accepts_sound es ns _ _ j).1 s))
    one_answer (too_few_cells s p l) (too_many_products t m) same = absurd (omega arith)
    one_answer (too_few_cells s p l) (too_few_cells t q m) same = (refl, refl)
    one_answer (too_few_cells s p l) (accepted t q m) same = absurd (omega arith)
    one_answer (accepted s p l) (refused_tables j n) same = absurd (n ((accepts_sound es ns _ _ j).1 s))
    one_answer (accepted s p l) (too_many_products t m) same = absurd (omega arith)
    one_answer (accepted s p l) (too_few_cells t q m) same = absurd (omega arith)
    one_answer (accepted s p l) (accepted t q m) same = (refl, same refl refl)

-- Two checks, with kinds of their own.
module _ {K S L X : Type 0} (means : K → S → ℕ → Bool) (means' : L → X → ℕ → Bool) where
  -- Both accepted, they have the same products in the cell of the last entry and state 0.
  same_products : (F : Family) (es : List Expr) (ns : List Node) {places places' : ℕ} → 0 < F.states →
      {k k' : K} {xs xs' : List S} {l l' : L} {ys ys' : List X} {number value number' value' : ℕ}
      → CheckLaw means places F es ns k xs k' xs' number value → CheckLaw means' places' F es ns l ys l' ys'
      number' value' → number ≡ 0 → number' ≡ 0
      → how_many (count F) (in_cell (means k') xs' (last ns * F.states)) ≡ how_many (count F)
      (in_cell (means' l') ys' (last ns * F.states))
  same_products F es ns some {k'} {xs'} {l'} {ys'} a b e e' =
      how_many_same (count F) _ _ (λ p p<.
      let same = one_filling F es ns (answered_sound F es ns a.answer e).tree no_pairs (last ns)
      (rows (means k') F.states xs') (rows (means' l') F.states ys')
      (a.filled e) (b.filled e') (last ns) itself 0 p some p< in
      subst (λ (i : ℕ). in_cell (means k') xs' i p ≡ in_cell (means' l') ys' i p)
      (add-zero (last ns * F.states)) (same_test _ _ same))

  pub one_checked : (places places' : ℕ) → OneChecked means places means' places'
  one_checked places places' F es ns some k k' xs xs' l l' ys ys' number value number' value' a b = (
    λ e e'. accepted_value F es ns a.answer e ∙ same_products F es ns some a b e e' ∙ sym
        (accepted_value F es ns b.answer e'),
    λ alike long.
        let whole : ℕ → Bool = in_cell (means' l') ys' (last ns * F.states) in
        one_answer F es ns a.answer
        (subst (λ (n : ℕ). Answered F es ns n (length xs) whole number' value') (sym alike)
        (subst (λ (n : ℕ). Answered F es ns places' n whole number' value') (sym long) b.answer))
        (same_products F es ns some a b),
  )
