-- The texts that are refused.
use Rattle.std.specs.Prelude.{◌≡◌, ℕ, ◌+◌, List, ◌∷◌, ◌++◌, length, Err}
use Rattle.book.specs.declared.records.Record.{Record}
use Rattle.family_text.specs.declared.errors.Expected.{Expected}
use Rattle.family_text.specs.declared.errors.ReadError.{ReadError}
use Rattle.family_text.specs.declared.errors.ReadError.TheVariants.{Line, OutOfMemory}
use Rattle.family_text.specs.Words.{words_of}
use Rattle.family_text.specs.Grammar.{Lists, Says, Tell}
use Rattle.family_text.specs.Reading.{record_of}

-- A line is the first that is wrong: each before it says a record or nothing, and it says neither.
pub record IsFirstWrong (names : Lists) (lines : List (List ℕ)) (number : ℕ) (expected : Expected) : Type 0 where
  pub before : List (List ℕ)
  pub line : List ℕ
  pub after : List (List ℕ)
  pub here : lines ≡ before ++ line ∷ after
  pub counted : number ≡ length before + 1
  pub right : (records : List Record) × Tell names before records
  pub wrong : (records : List Record) → Says names line records → ⊥
  pub missing : record_of names (words_of line) ≡ Err expected

-- Why a text with these lines is refused: at its first wrong line; or memory ran out, which any text may meet.
abbrev pub IsFault : Lists → List (List ℕ) → ReadError → Type 0
IsFault names lines (Line number expected) = IsFirstWrong names lines number expected
IsFault names lines OutOfMemory = Unit {0}
