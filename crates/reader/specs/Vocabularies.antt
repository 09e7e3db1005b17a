-- What is known of the names that texts are read with.
use Rattle.std.specs.Prelude.{◌≡◌, List, ℕ, Option, MatchOption}
use Rattle.words.specs.Words.{InForm}
use Rattle.reader.specs.declared.vocabulary.Vocabulary.{Vocabulary}

-- Both word lists keep their form.
abbrev pub Worded : List ℕ → List ℕ → Type 0
Worded actions features = InForm 64 actions × InForm 16 features

-- The names are those of two word lists that keep their form; where one breaks it, there are none.
abbrev pub Knows : List ℕ → List ℕ → Option Vocabulary → Type 0
Knows actions features names =
    MatchOption names (Worded actions features → ⊥)
    (λ v. Worded actions features × (v.actions.list.now ≡ actions) × (v.features.list.now ≡ features))

-- Whoever is asked for the names gives those of two word lists, or none.
abbrev pub Gives : List ℕ → List ℕ → (Option Vocabulary → Type 0) → Type 0
Gives actions features given = (names : Option Vocabulary) → given names → Knows actions features names
