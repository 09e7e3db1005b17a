-- What a load does, without going through it: all records come in, at the ends of the lists, or none does.
use Rattle.std.specs.Prelude.{◌≡◌, ℕ, zero, suc, ◌/◌, ◌%◌, ◌<◌, ◌≤◌, ◌⊎◌, List, [], ◌∷◌, ◌++◌, length, take}
use Rattle.std.specs.Prelude.{Option, Some, Err, IsOk}
use Rattle.families.specs.declared.Transition.{Transition}
use Rattle.families.specs.Families.{Family}
use Rattle.book.specs.declared.records.Record.{Record}
use Rattle.book.specs.declared.records.Record.TheVariants.{AddProduct, AddTransition}
use Rattle.book.specs.Records.{record_from}
use Rattle.book.specs.declared.refusals.Refusal.{Refusal}
use Rattle.book.specs.declared.refusals.Refusal.TheVariants.{BadLength}
use Rattle.book.specs.Answers.{number_of}
use Rattle.book.specs.Loads.{record_result}

-- The product, and the transition, that a record brings.
abbrev pub product_of : Option Record → List ℕ
product_of (Some (AddProduct c)) = c ∷ []
product_of _ = []

abbrev pub transition_of : Option Record → List Transition
transition_of (Some (AddTransition t)) = t ∷ []
transition_of _ = []

-- Those of the first n records, in order.
abbrev pub products_of : List ℕ → ℕ → List ℕ
products_of bs zero = []
products_of bs (suc n) = products_of bs n ++ product_of (record_from bs n)

abbrev pub transitions_of : List ℕ → ℕ → List Transition
transitions_of bs zero = []
transitions_of bs (suc n) = transitions_of bs n ++ transition_of (record_from bs n)

-- A family with the first n records at the ends of its lists.
abbrev pub family_with : Family → List ℕ → ℕ → Family
family_with f bs n =
    record f { products = f.products ++ products_of bs n; transitions = f.transitions ++ transitions_of bs n }

-- The first products and transitions of a family.
abbrev pub beginning : Family → ℕ → ℕ → Family
beginning f products transitions =
    record f { products = take products f.products; transitions = take transitions f.transitions }

-- None of the first n records is refused after those before it.
abbrev pub Acceptable : Family → List ℕ → ℕ → Type 0
Acceptable f bs n = (i : ℕ) → i < n → IsOk (record_result (family_with f bs i) (record_from bs i))

pub data Loaded (f : Family) (bs : List ℕ) : ℕ → ℕ → Family → Type 0 where
  -- The length is no multiple of 8 or above 3,648.
  ill_sized : (¬ (length bs % 8 ≡ 0)) ⊎ (3648 < length bs) → Loaded f bs (number_of BadLength) 0 f
  -- Record i is the first bad one: it is refused, and nothing changes.
  first_bad : (r : Refusal) (i : ℕ) → length bs % 8 ≡ 0 → length bs ≤ 3648 → i < length bs / 8
      → Acceptable f bs i
      → record_result (family_with f bs i) (record_from bs i) ≡ Err r → Loaded f bs (number_of r) i f
  -- Every record comes in.
  all_good : length bs % 8 ≡ 0 → length bs ≤ 3648 → Acceptable f bs (length bs / 8)
      → Loaded f bs 0 (length bs / 8) (family_with f bs (length bs / 8))
