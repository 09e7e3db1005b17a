-- Sets that stand in a list of cells.
use Rattle.std.specs.Prelude.{ℕ, Bool, false, List, slice_get}
use Rattle.std.specs.Option.{option_map_or}

-- Whether a place is in cell i, where `mean` says which places are in a set. A cell that is not there is
-- empty.
abbrev pub in_cell : {X : Type 0} → (X → ℕ → Bool) → List X → ℕ → ℕ → Bool
in_cell mean cells i p = option_map_or (λ set. mean set p) (slice_get cells i) false
