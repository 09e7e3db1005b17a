-- The rounds of a least or of a greatest fixpoint: how it begins, what lasts, that each round that changes
-- something brings it nearer to its end, and what it ends with.
use Rattle.std.proofs.Common.{◌≡◌, ℕ, ◌-◌, ◌*◌, ◌<◌, Bool, true, false, T, List, sym, subst, refl}
use Rattle.std.proofs.Common.{inl, inr, arith}
use Rattle.families.specs.Families.{Family, count}
use Rattle.formulas.specs.Trees.{Formula, Odd, occurs}
use Rattle.formulas.specs.Tables.{as_formula, expression_at, Names, Binds}
use Rattle.formulas.specs.declared.Expr.{Expr}
use Rattle.formulas.specs.declared.Node.{Node}
use Rattle.formulas.specs.declared.Node.TheVariants as nd
use Rattle.semantics.specs.Plain.{Env, put}
use Rattle.semantics.specs.Meaning.{Pairs, Means, Same}
use Rattle.semantics.specs.Evaluation.{SameRow, Begins}
use Rattle.semantics.proofs.Finite.{total, total_le, total_mono}
use Rattle.semantics.proofs.Iteration.{Low, High, Backed, Closed}
use Rattle.semantics.proofs.Rounds.{rising_first, rising_next, rising_within, rising_more, rising_last}
use Rattle.semantics.proofs.Rounds.{falling_first, falling_next, falling_within, falling_more, falling_last}

bool_false : (b : Bool) → (T b → ⊥) → b ≡ false
bool_false true h = absurd (h tt)
bool_false false h = refl

bool_true : (b : Bool) → T b → b ≡ true
bool_true true h = refl
bool_true false h = absurd h

-- How many pairs are left to come in, or to fall out.
abbrev pub rank : Family → Node → Pairs → ℕ
rank F (nd.Least v c) V = F.states * count F - total F.states (count F) V
rank F (nd.Greatest v c) V = total F.states (count F) V
rank F x V = 0

total_same : (n m : ℕ) (V W : Pairs) → ((t q : ℕ) → t < n → V t q ≡ W t q) → total n m V ≡ total n m W
total_same n m V W e =
    let up = total_mono n m V W (λ t q t< q< h. subst T (e t q t<) h) in
    let down = total_mono n m W V (λ t q t< q< h. subst T (sym (e t q t<)) h) in
    omega arith

-- The rank goes by what the row holds.
pub rank_same : (F : Family) (x : Node) (V W : Pairs) → SameRow F V W → rank F x V ≡ rank F x W
rank_same F (nd.Least v c) V W e =
    let same = total_same F.states (count F) V W e in
    omega arith
rank_same F (nd.Greatest v c) V W e = total_same F.states (count F) V W e
rank_same F x V W e = refl

module _ (F : Family) (φ : Formula) (η : Env Pairs) where
  -- What lasts from round to round of a fixpoint whose part is φ.
  abbrev pub Lasts : Node → Pairs → Type 0
  Lasts (nd.Least v c) V = Low F φ v η V × Backed F φ v η V
  Lasts (nd.Greatest v c) V = High F φ v η V × Closed F φ v η V
  Lasts x V = ⊥

  -- The variable is under no odd number of negations, and a round takes V to W.
  abbrev pub Even : Node → Type 0
  Even x = (v : ℕ) → Binds v x → ¬ T (occurs Odd v φ)

  abbrev pub Turns : Node → Pairs → Pairs → Type 0
  Turns x V W = (v : ℕ) → Binds v x → Means F W φ (put η v V)

  pub lasts_first : (x : Node) (V : Pairs) → Even x → Begins F x V → Lasts x V
  lasts_first (nd.Least v c) V even b = rising_first F φ v (even v refl) η V
      (λ t q t< q<. bool_false (V t q) (b t q t<).0)
  lasts_first (nd.Greatest v c) V even b =
      falling_first F φ v (even v refl) η V (λ t q t< q<. bool_true (V t q) ((b t q t<).1 q<))
  lasts_first x V even b = absurd b

  module _ (V W : Pairs) where
    pub lasts_next : (x : Node) → Even x → Turns x V W → Lasts x V → Lasts x W
    lasts_next (nd.Least v c) even m i = rising_next F φ v (even v refl) η V W (m v refl) i
    lasts_next (nd.Greatest v c) even m i = falling_next F φ v (even v refl) η V W (m v refl) i
    lasts_next x even m i = absurd i

    pub lasts_fewer : (x : Node) → Even x → Turns x V W → Lasts x V → ¬ Same F V W → rank F x W < rank F x V
    lasts_fewer (nd.Least v c) even m i out =
        elim (rising_more F φ v (even v refl) η V W (m v refl) i) [
          | inl back ↦ absurd (out (λ t q t< q<. (
            rising_within F φ v (even v refl) η V W
                (m v refl) i t q t< q<,
            back t q t< q<,
          )))
          | inr lt ↦ omega (arith, total_le F.states (count F) W)
        ]
    lasts_fewer (nd.Greatest v c) even m i out =
        elim (falling_more F φ v (even v refl) η V W (m v refl) i) [
          | inl on ↦ absurd (out (λ t q t< q<. (
            on t q t< q<,
            falling_within F φ v (even v refl) η V W
                (m v refl) i t q t< q<,
          )))
          | inr lt ↦ lt
        ]
    lasts_fewer x even m i out = absurd i

-- At rest it is the meaning of the fixpoint.
pub lasts_last : (F : Family) (es : List Expr) (part : ℕ → Formula) (η : Env Pairs) (V W : Pairs) (x : Node)
    (c : ℕ) → Names c x
    → Even F (part c) η x → Turns F (part c) η x V W → Lasts F (part c) η x V → Same F V W
    → Means F V (as_formula (expression_at es) part x) η
lasts_last F es part η V W (nd.Least v d) c nc even m i same =
    subst (λ (z : ℕ). Means F V (Formula.Least v (part z)) η) nc
    (rising_last F (part c) v (even v refl) η V W (m v refl) i (λ t q t< q<. (same t q t< q<).1))
lasts_last F es part η V W (nd.Greatest v d) c nc even m i same =
    subst (λ (z : ℕ). Means F V (Formula.Greatest v (part z)) η) nc
    (falling_last F (part c) v (even v refl) η V W (m v refl) i (λ t q t< q<. (same t q t< q<).0))
lasts_last F es part η V W x c nc even m i same = absurd i
