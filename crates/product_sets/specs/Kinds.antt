-- What calls that make sets do to a kind and its sets.
use Rattle.std.specs.Prelude.{◌≡◌, ℕ, Bool}

-- From an old kind to a new one: every set that was held is held, and keeps its meaning.
abbrev pub SetsKept : {K S : Type 0} → (K → S → Type 0) → (K → S → ℕ → Bool) → K → K → Type 0
SetsKept {K} {S} holds means old new = (s : S) → holds old s → holds new s ×
    ((p : ℕ) → means new s p ≡ means old s p)

-- A call that found a kind old and left it new made a set of the places for which f says true.
pub record Makes {K S : Type 0} (holds : K → S → Type 0) (means : K → S → ℕ → Bool) (old new : K)
    (f : ℕ → Bool) (set : S) : Type 0 where
  -- the new kind holds the set,
  pub held : holds new set
  -- in it the set means what it should,
  pub value : (p : ℕ) → means new set p ≡ f p
  -- and the sets made before are kept
  pub kept : SetsKept holds means old new
