-- The grammar of a family's text: what a line may say, and what it says.
use Rattle.std.specs.Prelude.{◌≡◌, ◌≢◌, ℕ, ◌^◌, ◌<◌, ◌⊎◌, List, [], ◌∷◌, ◌++◌, codes}
use Rattle.std.specs.Prelude.{Option, Some, None, IsSome, bit_or, map, fold}
use Rattle.std.specs.Fmt.{decimal}
use Rattle.book.specs.declared.records.Record.{Record}
use Rattle.book.specs.declared.records.Record.TheVariants.{AddProduct, AddTransition}
use Rattle.words.specs.Words.{number, InForm}
use Rattle.words.specs.Cut.{cut}
use Rattle.family_text.specs.declared.vocabulary.Vocabulary.{Vocabulary}
use Rattle.family_text.specs.declared.vocabulary.ListError.{ListError}
use Rattle.family_text.specs.declared.vocabulary.ListError.TheVariants.{Actions, Features, Reserved}
use Rattle.family_text.specs.Words.{Word, words_of, lines_of}

-- The names of actions and of features; name k of a list is that of number k.
pub record Lists : Type 0 where
  pub actions : List Word
  pub features : List Word

-- Why two lists are no vocabulary.
abbrev pub IsRefused : List ℕ → List ℕ → ListError → Type 0
IsRefused actions features Actions = InForm 64 actions → ⊥
IsRefused actions features Features = InForm 64 actions × (InForm 16 features → ⊥)
IsRefused actions features Reserved =
    InForm 64 actions × InForm 16 features
    × (IsSome (number (cut features) (codes "needs")) ⊎ IsSome (number (cut features) (codes "bars")))

abbrev pub vocabulary : Vocabulary → Lists
vocabulary v = record { actions = cut v.actions.list.now; features = cut v.features.list.now }

-- The set of features as a number: bit k is that of feature k.
abbrev pub union : ℕ → List ℕ → ℕ
union set features = fold (λ s k. bit_or s (2 ^ k)) set features

-- Words name the features of a set.
abbrev pub NameSet : Lists → List Word → ℕ → Type 0
NameSet names ws set =
    (features : List ℕ) × (map (number names.features) ws ≡ map Some features) × (set ≡ union 0 features)

-- A part of a condition is nothing at all, or its key word and the names of one feature or more.
abbrev pub IsPart : Lists → Word → List Word → ℕ → Type 0
IsPart names key ws set =
    ((ws ≡ []) × (set ≡ 0))
    ⊎ ((features : List Word) × (ws ≡ key ∷ features) × (features ≢ []) × NameSet names features set)

-- A condition: what a product needs, and then what bars it.
abbrev pub IsCondition : Lists → List Word → ℕ → ℕ → Type 0
IsCondition names ws required excluded =
    (needs : List Word) × (bars : List Word) × (ws ≡ needs ++ bars)
    × IsPart names (codes "needs") needs required × IsPart names (codes "bars") bars excluded

-- A state is written in decimal digits.
abbrev pub IsState : Word → ℕ → Type 0
IsState w state = (w ≡ decimal state) × (state < 64)

-- The words of a line spell a record.
abbrev pub Spells : Lists → List Word → Record → Type 0
Spells names ws (AddProduct configuration) =
    (features : List Word) × (ws ≡ codes "vat" ∷ features) × NameSet names features configuration
Spells names ws (AddTransition t) =
    (source : Word) × (action : Word) × (target : Word) × (condition : List Word)
    × (ws ≡ codes "step" ∷ source ∷ action ∷ target ∷ condition)
    × IsState source t.source × (number names.actions action ≡ Some t.action) × IsState target t.target
    × IsCondition names condition t.required t.excluded

abbrev pub said_by : Option Record → List Record
said_by None = []
said_by (Some r) = r ∷ []

-- A line says a record, or nothing if it has no words.
abbrev pub Says : Lists → List ℕ → List Record → Type 0
Says names line records =
    ((words_of line ≡ []) × (records ≡ []))
    ⊎ ((r : Record) × Spells names (words_of line) r × (records ≡ r ∷ []))

-- Lines say their records in order.
abbrev pub Tell : Lists → List (List ℕ) → List Record → Type 0
Tell names [] records = records ≡ []
Tell names (line ∷ lines) records =
    (first : List Record) × (rest : List Record) × Says names line first × Tell names lines rest × (records ≡ first ++ rest)

-- A text says these records.
abbrev pub Describes : Lists → List ℕ → List Record → Type 0
Describes names text records = Tell names (lines_of text) records
