-- A record as eight bytes: a product is of kind 80, a transition of kind 84.
use Rattle.std.specs.Prelude.{◌≡◌, ℕ, ◌*◌, ◌/◌, ◌%◌, ◌<◌, List, [], ◌∷◌, length, slice_get}
use Rattle.std.specs.List.{flat_map}
use Rattle.book.specs.declared.records.Record.{Record}
use Rattle.book.specs.declared.records.Record.TheVariants.{AddProduct, AddTransition}
use Rattle.book.specs.Records.{record_from}

abbrev pub record_bytes : Record → List ℕ
record_bytes (AddProduct configuration) =
    80 ∷ configuration % 256 ∷ configuration / 256 ∷ 0 ∷ 0 ∷ 0 ∷ 0 ∷ 0 ∷ []
record_bytes (AddTransition t) =
    84 ∷ t.source ∷ t.action ∷ t.target
    ∷ t.required % 256 ∷ t.required / 256 ∷ t.excluded % 256 ∷ t.excluded / 256 ∷ []

-- Records as bytes, one after the other.
abbrev pub encoding : List Record → List ℕ
encoding records = flat_map record_bytes records

-- The first records of bytes ask for these.
abbrev pub Begins : List ℕ → List Record → Type 0
Begins bytes records = (i : ℕ) → i < length records → record_from bytes i ≡ slice_get records i

-- The records of bytes ask for these, no more and no fewer.
abbrev pub Holds : List ℕ → List Record → Type 0
Holds bytes records = (length bytes ≡ 8 * length records) × Begins bytes records
