-- Tokens, and how each is spelled.
use Rattle.std.specs.Prelude.{◌≡◌, ℕ, ◌+◌, ◌<◌, ◌≤◌, Bool, true, ◌||◌, ◌⊎◌, List, [], ◌∷◌, length, take, drop, codes, ◌≢◌, slice_index}
use Rattle.std.specs.Char.{is_ascii_digit, is_ascii_lowercase}
use Rattle.std.specs.List.{AllByRecursion}
use Rattle.lexer.specs.declared.Sign.{Sign}
use Rattle.lexer.specs.declared.Sign.TheVariants.{Mu, Nu, True, False, Not, And, Or, Bar, Less, Greater, LeftBracket, RightBracket, Open, Close, Dot}

-- Small letters and digits.
abbrev pub in_name : ℕ → Bool
in_name b = is_ascii_lowercase b || is_ascii_digit b

-- A small letter and then small letters or digits.
pub record Run (w : List ℕ) : Type 0 where
  pub first : is_ascii_lowercase (slice_index w 0) ≡ true
  pub rest : AllByRecursion (λ b. in_name b ≡ true) w

-- None of the four words.
abbrev pub NoWord : List ℕ → Type 0
NoWord w = (w ≢ codes "mu") × (w ≢ codes "nu") × (w ≢ codes "true") × (w ≢ codes "false")

-- A name: at most 12 bytes, and none of the four words.
pub record Name (w : List ℕ) : Type 0 where
  pub run : Run w
  pub short : length w ≤ 12
  pub no_word : NoWord w

-- A token of the language: a name by its bytes, a variable by its number, or a sign.
pub data Sym : Type 0 where
  name : List ℕ → Sym
  variable : ℕ → Sym
  sign : Sign → Sym

-- A token with its place in the text.
pub data Tok : Type 0 where
  tok : Sym → ℕ → Tok

abbrev pub spelling : Sign → List ℕ
spelling Mu = codes "mu"
spelling Nu = codes "nu"
spelling True = codes "true"
spelling False = codes "false"
spelling Not = codes "!"
spelling And = codes "&&"
spelling Or = codes "||"
spelling Bar = codes "|"
spelling Less = codes "<"
spelling Greater = codes ">"
spelling LeftBracket = codes "["
spelling RightBracket = codes "]"
spelling Open = codes "("
spelling Close = codes ")"
spelling Dot = codes "."

-- The bytes of a token; A to Z are the bytes from 65 on.
abbrev pub spell : Sym → List ℕ
spell (name w) = w
spell (variable v) = (65 + v) ∷ []
spell (sign s) = spelling s

abbrev pub IsToken : Sym → Type 0
IsToken (name w) = Name w
IsToken (variable v) = v < 26
IsToken (sign s) = Unit {0}

-- The bytes w stand in the text from the place p on.
abbrev pub At : List ℕ → ℕ → List ℕ → Type 0
At bs p w = take (length w) (drop p bs) ≡ w

-- A name above 12 bytes begins at a place.
abbrev pub TooLong : List ℕ → ℕ → Type 0
TooLong bs p = (w : List ℕ) × (At bs p w × Run w × (12 < length w))

-- The longest token at a place where no name above 12 bytes begins.
pub record Longest (bs : List ℕ) (p : ℕ) (s : Sym) : Type 0 where
  pub token : IsToken s
  pub here : At bs p (spell s)
  pub longest : (t : Sym) → IsToken t → At bs p (spell t) → length (spell t) ≤ length (spell s)
  pub not_long : TooLong bs p → ⊥

-- No token begins at a place, or a name above 12 bytes does.
abbrev pub Bad : List ℕ → ℕ → Type 0
Bad bs p = TooLong bs p ⊎ ((t : Sym) → IsToken t → At bs p (spell t) → ⊥)

-- There is nothing but spaces from the place i up to the place p.
abbrev pub Spaces : List ℕ → ℕ → ℕ → Type 0
Spaces bs i p = (i ≤ p) × ((k : ℕ) → i ≤ k → k < p → slice_index bs k ≡ 32)
