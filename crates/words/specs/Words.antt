-- Word lists.
use Rattle.std.specs.Prelude.{◌≡◌, ℕ, ◌+◌, ◌<◌, ◌≤◌, Bool, true, cond, not, List, [], ◌∷◌, ◌++◌, length, Some, None, Option, ◌==◌, ◌≢◌, slice_index_or}
use Rattle.lexer.specs.Tokens.{Name}
use Rattle.std.specs.List.{AllByRecursion}
use Rattle.std.specs.Str.{bytes_eq}

-- A byte within a line: any but 10.
abbrev pub inside : ℕ → Bool
inside b = not (b == 10)

-- Lines, each ended by byte 10.
abbrev pub listed : List (List ℕ) → List ℕ
listed [] = []
listed (w ∷ ws) = w ++ 10 ∷ listed ws

-- The lines of a list.
pub record Lines (bs : List ℕ) (ws : List (List ℕ)) : Type 0 where
  pub ended : bs ≡ listed ws
  pub clean : AllByRecursion (λ w. AllByRecursion (λ b. inside b ≡ true) w) ws

-- None of the words stands twice.
abbrev pub Apart : List (List ℕ) → Type 0
Apart ws = (i j : ℕ) → i < j → j < length ws → slice_index_or ws i [] ≢ slice_index_or ws j []

-- The names of a word list: it is their bytes, each ended by byte 10; no name stands twice, and there are at most so many.
pub record WordList (limit : ℕ) (bs : List ℕ) (ws : List (List ℕ)) : Type 0 where
  pub ended : bs ≡ listed ws
  pub names : AllByRecursion Name ws
  pub apart : Apart ws
  pub few : length ws ≤ limit

-- A list keeps its form.
abbrev pub InForm : ℕ → List ℕ → Type 0
InForm limit bs = (ws : List (List ℕ)) × WordList limit bs ws

abbrev pub one_more : Option ℕ → Option ℕ
one_more (Some n) = Some (n + 1)
one_more None = None

-- The number of a name: how many stand before it.
abbrev pub number : List (List ℕ) → List ℕ → Option ℕ
number [] w = None
number (x ∷ ws) w = cond (bytes_eq x w) (Some 0) (one_more (number ws w))

-- What looking up a name gives: its number, or none in a list that does not keep its form.
pub record LookedUp (limit : ℕ) (bs w : List ℕ) (r : Option ℕ) : Type 0 where
  pub kept : (ws : List (List ℕ)) → WordList limit bs ws → r ≡ number ws w
  pub refused : (InForm limit bs → ⊥) → r ≡ None
