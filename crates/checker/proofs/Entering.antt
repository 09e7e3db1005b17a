-- The row of an entry, from what was written.
use Rattle.std.proofs.Common.{◌≡◌, ℕ, ◌<◌, Bool, false, not, ◌&&◌, ◌||◌, T, ◌⊎◌, ◌↔◌, List, length, get_or}
use Rattle.std.proofs.Common.{sym, subst, inl, inr}
use Rattle.families.specs.Families.{Family, count}
use Rattle.families.proofs.Tests.{and_split, and_both, or_split, or_left, or_right, not_iff}
use Rattle.formulas.specs.declared.Expr.{Expr}
use Rattle.semantics.specs.Meaning.{Pairs}
use Rattle.semantics.specs.Evaluation.{HoldsWhere, Chosen, SomeLeads, AllLead}
use Rattle.product_sets.specs.Cells.{in_cell}
use Rattle.product_sets.proofs.Cells.{cell_at}
use Rattle.checker.specs.Gathered.{Everyone, Collects}

module _ (F : Family) (V : Pairs) where
  pub none_where : ((s p : ℕ) → s < F.states → V s p ≡ false) → HoldsWhere F V (λ s p. ⊥)
  none_where e s p s< = (λ t. subst T (e s p s<) t, λ x. absurd x)

  pub all_where : (all : ℕ → Bool) → Everyone F all → ((s p : ℕ) → s < F.states → V s p ≡ all p) →
      HoldsWhere F V (λ s p. p < count F)
  all_where all every e s p s< = (
    λ t. (every p).0 (subst T (e s p s<) t),
    λ x. subst T (sym (e s p s<))
        ((every p).1 x),
  )

  pub not_where : (all : ℕ → Bool) (A : Pairs) → Everyone F all → ((s p : ℕ) → s < F.states → V s p ≡
      (all p && not (A s p)))
      → HoldsWhere F V (λ s p. (p < count F) × (¬ T (A s p)))
  not_where all A every e s p s< = (
    λ t. (let b = and_split (all p) (not (A s p)) (subst T (e s p s<) t) in
        ((every p).0 b.0, (not_iff (A s p)).0 b.1)),
    λ x. subst T (sym (e s p s<)) (and_both (all p) (not (A s p)) ((every p).1 x.0)
        ((not_iff (A s p)).1 x.1)),
  )

  pub or_where : (A B : Pairs) → ((s p : ℕ) → s < F.states → V s p ≡ (A s p || B s p)) → HoldsWhere F V
      (λ s p. T (A s p) ⊎ T (B s p))
  or_where A B e s p s< = (
    λ t. or_split (A s p) (B s p) (subst T (e s p s<) t),
    λ x. subst T (sym (e s p s<)) (elim x [
      | inl a ↦ or_left (A s p) (B s p) a
      | inr b ↦ or_right (A s p)
          (B s p) b
    ]),
  )

  pub and_where : (A B : Pairs) → ((s p : ℕ) → s < F.states → V s p ≡ (A s p && B s p)) → HoldsWhere F V
      (λ s p. T (A s p) × T (B s p))
  and_where A B e s p s< = (
    λ t. and_split (A s p) (B s p) (subst T (e s p s<) t),
    λ x. subst T (sym (e s p s<)) (and_both (A s p) (B s p) x.0 x.1),
  )

  -- For the products that satisfy an expression.
  module _ (es : List Expr) (e a : ℕ) (part : Pairs) (chosen : ℕ → Bool)
      (is : Collects F chosen (Chosen F es e)) where
    pub diamond_where : HoldsWhere F V (λ s p. (p < count F) × T (chosen p) × SomeLeads F a part s p)
        → HoldsWhere F V (λ s p. (p < count F) × Chosen F es e p × SomeLeads F a part s p)
    diamond_where h s p s< = (
      λ t. (let x = (h s p s<).0 t in (x.0, ((is p).0 x.1).1, x.2)),
      λ x. (h s p s<).1 (x.0, (is p).1 (x.0, x.1), x.2),
    )

    pub box_where : HoldsWhere F V (λ s p. (p < count F) × (T (chosen p) → AllLead F a part s p))
        → HoldsWhere F V (λ s p. (p < count F) × (Chosen F es e p → AllLead F a part s p))
    box_where h s p s< = (
      λ t. (let x = (h s p s<).0 t in (x.0, λ c. x.1 ((is p).1 (x.0, c)))),
      λ x. (h s p s<).1 (x.0, λ c. x.1 ((is p).0 c).1),
    )

-- The set of an expression, read at any default.
pub chosen_at : {X : Type 0} (mean : X → ℕ → Bool) (F : Family) (sets : List X) (e : ℕ) (d : X)
    (P : ℕ → Type 0) → e < length sets
    → Collects F (in_cell mean sets e) P → Collects F (mean (get_or sets e d)) P
chosen_at mean F sets e d P low h p = subst (λ (b : Bool). T b ↔ ((p < count F) × P p))
    (cell_at mean sets e d p low) (h p)
