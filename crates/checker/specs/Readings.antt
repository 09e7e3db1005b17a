-- Readings of sets, which serve a whole run of calls that make sets.
use Rattle.std.specs.Prelude.{◌≡◌, ℕ, Bool}
use Rattle.product_sets.specs.Kinds.{SetsKept}

-- A reading says which places are in a set. It agrees with a kind if it reads the sets that the kind holds
-- as they mean there. So a reading that
-- agrees with a kind agrees with each earlier one.
abbrev pub Agrees : {K S : Type 0} → (K → S → Type 0) → (K → S → ℕ → Bool) → K → (S → ℕ → Bool) → Type 0
Agrees {K} {S} holds means kind m = (s : S) → holds kind s → (p : ℕ) → m s p ≡ means kind s p

-- Something is so by every reading that agrees with a kind.
abbrev pub Reads : {K S : Type 0} → (K → S → Type 0) → (K → S → ℕ → Bool) → K → ((S → ℕ → Bool) → Type 0) →
    Type 0
Reads {K} {S} holds means kind P = (m : S → ℕ → Bool) → Agrees holds means kind m → P m

-- A call made a set of others by a rule, which says of a reading which places are to be in the set.
-- `parts` says that the others were held.
pub record Builds {K S : Type 0} (holds : K → S → Type 0) (means : K → S → ℕ → Bool) (old new : K)
    (parts : Type 0)
    (rule : (S → ℕ → Bool) → ℕ → Bool) (set : S) : Type 0 where
  pub held : holds new set
  pub value : parts → Reads holds means new (λ m. (p : ℕ) → m set p ≡ rule m p)
  pub kept : SetsKept holds means old new
