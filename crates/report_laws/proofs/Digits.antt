-- Products that are alike get the same digit.
use Rattle.std.proofs.Common.{ℕ, ◌<◌, Bool, false, ◌↔◌, List, get_or, sym, subst}
use mathlib.Core.Logic.Iff
use Rattle.families.specs.Families.{Family, count}
use Rattle.families.proofs.Tests.{same_test}
use Rattle.formulas.specs.Trees.{Formula}
use Rattle.semantics.specs.Entries.{no_pairs, no_states}
use Rattle.semantics.specs.Laws.{Like}
use Rattle.semantics.proofs.Projection.{projects}
use Rattle.semantics.proofs.Extension.{products_alike}
use Rattle.report.specs.Answers.{digits, Has, Digits, Derives, answered, Answer, read}
use Rattle.report_laws.specs.Laws.{SameDigit}
use Rattle.report_laws.proofs.Once.{one_formula}

has_alike : (F G : Family) (p q : ℕ) → p < count F → q < count G → 0 < F.states → Like F p G q → (φ : Formula) → Has F φ p ↔ Has G φ q
has_alike F G p q p< q< some like φ =
    Iff.trans (Iff.symm (projects F φ p p< no_pairs no_states (λ v t _. (λ x. x, λ x. x)) 0 some))
    (Iff.trans (products_alike F G p q p< q< like φ no_pairs no_pairs (λ v t _. (λ x. x, λ x. x)) 0 some)
    (projects G φ q q< no_pairs no_states (λ v t _. (λ x. x, λ x. x)) 0 (subst (λ (n : ℕ). 0 < n) like.0 some)))

-- The formula of a text that is answered by digits, and what they say of it.
record Said (F : Family) (actions features text : List ℕ) (ds : List Bool) : Type 0 where
  formula : Formula
  derives : Derives text actions features formula
  digit : Digits F formula ds

said : (F : Family) (actions features text : List ℕ) (ds : List Bool) → Answer F actions features text (digits ds) → Said F actions features text ds
said F actions features text ds (read φ t d (answered s c e)) = record { formula = φ; derives = d; digit = e }

pub same_digit : SameDigit
same_digit F G p q p< q< some like actions features text ds es a b =
    let x = said F actions features text ds a in
    let y = said G actions features text es b in
    let φ = x.formula in
    let e : Digits G φ es = subst (λ (ψ : Formula). Digits G ψ es) (sym (one_formula text actions features φ y.formula x.derives y.derives)) y.digit in
    same_test (get_or ds p false) (get_or es q false) (Iff.trans (x.digit.1 p p<) (Iff.trans (has_alike F G p q p< q< some like φ) (Iff.symm (e.1 q q<))))
