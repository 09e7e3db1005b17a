-- The records of a load: eight bytes each, two-byte numbers with the low byte first.
use Rattle.std.specs.Prelude.{ℕ, ◌+◌, ◌*◌, Bool, if◌then◌else◌, ◌&&◌, List, ◌==◌, Option, Some, None}
use Rattle.std.specs.Prelude.{slice_index, take, drop}
use Rattle.families.specs.declared.Transition.{Transition}
use Rattle.book.specs.declared.records.Record.{Record}
use Rattle.book.specs.declared.records.Record.TheVariants.{AddProduct, AddTransition}

-- A record that asks for this transition.
abbrev pub transition_record : ℕ → ℕ → ℕ → ℕ → ℕ → Option Record
transition_record source action target required excluded =
    let t : Transition =
    record { source = source; action = action; target = target; required = required; excluded = excluded } in
    Some (AddTransition t)

-- What eight bytes ask for, if anything. Kind 80 is a product, 84 a transition, 77 one for every product.
abbrev pub record_of : ℕ → ℕ → ℕ → ℕ → ℕ → ℕ → ℕ → ℕ → Option Record
record_of kind a b c d e f g =
    let no_condition : Bool = d == 0 && (e == 0 && (f == 0 && g == 0)) in
    if kind == 80 then (if c == 0 && no_condition then Some (AddProduct (a + 256 * b)) else None)
    else (if kind == 84 then transition_record a b c (d + 256 * e) (f + 256 * g)
    else (if kind == 77 && no_condition then transition_record a b c 0 0 else None))

-- What a list of eight bytes asks for.
abbrev pub record_in : List ℕ → Option Record
record_in bytes =
    record_of (slice_index bytes 0) (slice_index bytes 1) (slice_index bytes 2) (slice_index bytes 3)
    (slice_index bytes 4) (slice_index bytes 5) (slice_index bytes 6) (slice_index bytes 7)

-- The record of a number.
abbrev pub record_from : List ℕ → ℕ → Option Record
record_from bs n = record_in (take 8 (drop (8 * n) bs))
