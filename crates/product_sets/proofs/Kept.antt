-- Kinds that follow one another.
use Rattle.std.proofs.Common.{ℕ, Bool, refl, ◌∙◌}
use Rattle.product_sets.specs.Kinds.{SetsKept}

module _ {K S : Type 0} (holds : K → S → Type 0) (means : K → S → ℕ → Bool) where
  pub sets_kept_same : (k : K) → SetsKept holds means k k
  sets_kept_same k s h = (h, λ p. refl)

  pub sets_kept_then : (a b c : K) → SetsKept holds means a b → SetsKept holds means b c → SetsKept holds
      means a c
  sets_kept_then a b c k l s h = let x = k s h in let y = l s x.0 in (y.0, λ p. y.1 p ∙ x.1 p)
