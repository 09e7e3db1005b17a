-- How a list is cut into lines.
use Rattle.std.specs.Prelude.{◌≡◌, ℕ, ◌-◌, ◌<◌, cond, length, slice_index, List, [], ◌∷◌, ◌==◌}
use Rattle.std.specs.List.{onto_first}
use Rattle.words.specs.declared.lines.Lines.{Lines}

-- What each byte 10 ends, and what is left after the last.
abbrev pub cut : List ℕ → List (List ℕ)
cut [] = []
cut (b ∷ bs) = cond (b == 10) ([] ∷ cut bs) (onto_first b (cut bs))

-- The last byte, if there is one, is 10.
abbrev pub Ends : List ℕ → Type 0
Ends bs = 0 < length bs → slice_index bs (length bs - 1) ≡ 10

-- The lines that an iterator has left.
abbrev pub left : Lines → List (List ℕ)
left l = cut l.rest.now
