-- What a step does, a function that is handed in and makes a set of two.
use Rattle.std.specs.Prelude.{◌≡◌, ℕ, Bool}
use Rattle.std.specs.Borrow.{MutBor}
use Rattle.product_sets.specs.Kinds.{SetsKept}
use Rattle.checker.specs.Readings.{Agrees}

-- Each call of a step keeps the sets, and makes of two that are held one that is held. `called k l r set
-- k'` says that the step may make the set
-- of l and r with the kind k, and leave k'.
pub record Steps {K S : Type 0} (holds : K → S → Type 0) (means : K → S → ℕ → Bool)
    (called : MutBor K → S → S → S → MutBor K → Type 0) : Type 0 where
  pub kept : (k k' : MutBor K) (l r set : S) → called k l r set k' → SetsKept holds means k.now k'.now
  pub held : (k k' : MutBor K) (l r set : S) → called k l r set k' → holds k.now l → holds k.now r → holds
      k'.now set

-- From a kind on, a step makes of two sets that are held, place by place, what a rule says.
abbrev pub Follows : {K S : Type 0} → (K → S → Type 0) → (K → S → ℕ → Bool) →
    (MutBor K → S → S → S → MutBor K → Type 0)
    → K → (S → ℕ → Bool) → (ℕ → Bool → Bool → Bool) → Type 0
Follows {K} {S} holds means called from m rule =
    (k k' : MutBor K) (l r set : S) → SetsKept holds means from k.now → holds k.now l → holds k.now r →
    called k l r set k'
    → Agrees holds means k'.now m → (p : ℕ) → m set p ≡ rule p (m l p) (m r p)
