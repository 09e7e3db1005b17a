-- The lines of a text, and the words of a line.
use Rattle.std.specs.Prelude.{ℕ, ◌==◌, nat_lt, List, [], length, map, filter, slice_index_or}
use Rattle.std.specs.List.{slice_split, before_first}
use Rattle.std.specs.Char.{is_ascii_whitespace}
use Rattle.std.specs.Borrow.{Bor}

abbrev pub Word : Type 0
Word = List ℕ

-- A text is cut into lines at each byte 10.
abbrev pub lines_of : List ℕ → List (List ℕ)
lines_of text = slice_split (λ b. b == 10) text

-- The words of a line: what stands between white space before the first `#`, the byte 35.
abbrev pub words_of : List ℕ → List Word
words_of line =
    filter (λ w. nat_lt 0 (length w))
    (slice_split is_ascii_whitespace (before_first (λ b. b == 35) line))

-- A word by its place, and no bytes where there is none.
abbrev pub word_at : List Word → ℕ → Word
word_at ws i = slice_index_or ws i []

-- Words without where they lie in memory.
abbrev pub texts : List (Bor (List ℕ)) → List Word
texts ws = map (λ w. w.now) ws
