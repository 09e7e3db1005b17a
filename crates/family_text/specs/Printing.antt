-- Records as text: each has a line, and reading the lines gives the records again.
use Rattle.std.specs.Prelude.{◌≡◌, ◌≢◌, ℕ, zero, suc, ◌/◌, ◌%◌, ◌^◌, ◌<◌, ◌≤◌, ◌==◌, Bool, true, if◌then◌else◌, ◌⊎◌}
use Rattle.std.specs.Prelude.{List, [], ◌∷◌, ◌++◌, length, map, codes, Option, Some, None}
use Rattle.std.specs.List.{flat_map, AllByRecursion}
use Rattle.std.specs.Fmt.{decimal}
use Rattle.families.specs.Bits.{bit}
use Rattle.families.specs.declared.Transition.{Transition}
use Rattle.book.specs.declared.records.Record.{Record}
use Rattle.book.specs.declared.records.Record.TheVariants.{AddProduct, AddTransition}
use Rattle.book.specs.Records.{record_from}
use Rattle.family_text.specs.declared.errors.Lack.{Lack}
use Rattle.family_text.specs.declared.errors.Lack.TheVariants.{Kind, State, ActionName, FeatureName}
use Rattle.family_text.specs.declared.errors.PrintError.{PrintError}
use Rattle.family_text.specs.declared.errors.PrintError.TheVariants.{Length, Record as BadRecord, OutOfMemory}
use Rattle.family_text.specs.Records.{Begins, Holds}
use Rattle.family_text.specs.Words.{Word, word_at}
use Rattle.family_text.specs.Grammar.{Lists}

-- Words with a space before each.
abbrev pub spaced : List Word → List ℕ
spaced ws = flat_map (λ w. 32 ∷ w) ws

abbrev pub one_if : Bool → ℕ → List ℕ
one_if b k = if b then k ∷ [] else []

-- The features of a set that are below a number, in order.
unfoldable pub features_below : ℕ → ℕ → List ℕ
features_below set zero = []
features_below set (suc k) = features_below set k ++ one_if (bit set k) k

abbrev pub names_below : Lists → ℕ → ℕ → List Word
names_below names set k = map (word_at names.features) (features_below set k)

abbrev pub feature_words : Lists → ℕ → List Word
feature_words names set = names_below names set 16

abbrev pub part_words : Lists → Word → ℕ → List Word
part_words names key set = if set == 0 then [] else key ∷ feature_words names set

abbrev pub transition_words : Lists → Transition → List Word
transition_words names t =
    decimal t.source ∷ word_at names.actions t.action ∷ decimal t.target
    ∷ (part_words names (codes "needs") t.required ++ part_words names (codes "bars") t.excluded)

-- The line of a record: its words with a space between each two.
abbrev pub line_for : Lists → Record → List ℕ
line_for names (AddProduct configuration) = codes "vat" ++ spaced (feature_words names configuration)
line_for names (AddTransition t) = codes "step" ++ spaced (transition_words names t)

-- The text of records: each line is ended by byte 10.
abbrev pub text_for : Lists → List Record → List ℕ
text_for names records = flat_map (λ r. line_for names r ++ 10 ∷ []) records

-- Each feature of a set has a name.
abbrev pub Named : Lists → ℕ → Type 0
Named names set = (set < 2 ^ 16) × ((k : ℕ) → k < 16 → bit set k ≡ true → k < length names.features)

-- A feature of a set has none.
abbrev pub Unnamed : Lists → ℕ → Lack → Type 0
Unnamed names set e =
    (k : ℕ) × (e ≡ FeatureName k) × (k < 16) × (bit set k ≡ true) × (length names.features ≤ k)

-- A record can be printed: its states are below 64, and its action and its features have names.
abbrev pub IsPrintable : Lists → Record → Type 0
IsPrintable names (AddProduct configuration) = Named names configuration
IsPrintable names (AddTransition t) =
    (t.source < 64) × (t.action < length names.actions) × (t.target < 64)
    × Named names t.required × Named names t.excluded

-- What a record lacks to be printed.
abbrev pub Lacks : Lists → Record → Lack → Type 0
Lacks names (AddProduct configuration) e = Unnamed names configuration e
Lacks names (AddTransition t) e =
    ((e ≡ State t.source) × (64 ≤ t.source)) ⊎ ((e ≡ ActionName t.action) × (length names.actions ≤ t.action))
    ⊎ ((e ≡ State t.target) × (64 ≤ t.target)) ⊎ Unnamed names t.required e ⊎ Unnamed names t.excluded e

-- A text is that of the records of bytes, each of which can be printed.
abbrev pub Prints : Lists → List ℕ → List ℕ → Type 0
Prints names bytes text =
    (records : List Record) × Holds bytes records × AllByRecursion (IsPrintable names) records
    × (text ≡ text_for names records)

-- Why the record of a number has no text.
abbrev pub LacksText : Lists → Option Record → Lack → Type 0
LacksText names None e = e ≡ Kind
LacksText names (Some r) e = Lacks names r e

-- Why bytes are not printed: no whole records; or the first record that has no text; or memory ran out.
abbrev pub IsPrintFault : Lists → List ℕ → PrintError → Type 0
IsPrintFault names bytes Length = length bytes % 8 ≢ 0
IsPrintFault names bytes (BadRecord number lack) =
    (number < length bytes / 8) × LacksText names (record_from bytes number) lack
    × ((records : List Record) × (length records ≡ number) × Begins bytes records × AllByRecursion (IsPrintable names) records)
IsPrintFault names bytes OutOfMemory = Unit {0}
