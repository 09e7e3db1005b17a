-- The lines of an input, and what is written for them.
use Rattle.std.specs.Prelude.{◌≡◌, ℕ, ◌+◌, ◌-◌, ◌^◌, min, List, [], ◌∷◌, ◌++◌, take, Some, None, Option, ◌≢◌}
use Rattle.std.specs.List.{AllByRecursion}
use Rattle.families.specs.Families.{Family}
use Rattle.report.specs.Lines.{Line}
use Rattle.report.specs.Sessions.{family_of, actions_of, features_of}
use Rattle.report.specs.declared.session.Session.{Session}

-- What is kept of a line: its first 1,025 bytes, which suffice to refuse it if it is too long.
abbrev pub kept : List ℕ → List ℕ
kept text = take 1025 text

-- The number of the next line. Numbers stop at the largest one of 64 bits.
abbrev pub next : ℕ → ℕ
next n = min (n + 1) (2 ^ 64 - 1)

-- These bytes are the answer to line n, of which so much was kept, whatever it is.
abbrev pub Tells : Session → ℕ → List ℕ → List ℕ → Type 0
Tells s n seen bytes = (text : List ℕ) → seen ≡ kept text → Line (family_of s) (actions_of s) (features_of s) n text bytes

-- There is a line, of which this is said.
abbrev pub Told : {X : Type 0} → Option X → (X → Type 0) → Type 0
Told None P = ⊥
Told (Some x) P = P x

-- A line has no byte 10.
abbrev pub Unbroken : List ℕ → Type 0
Unbroken text = AllByRecursion (λ b. b ≢ 10) text

-- What is written for an input that begins with line n: the answers to its lines, in order. Each line ends with byte 10; a last line that is
-- not empty may lack it.
pub data Transcribed (F : Family) (actions features : List ℕ) : ℕ → List ℕ → List (List ℕ) → Type 0 where
  nothing : {n : ℕ} → Transcribed F actions features n [] []
  last_line : {n : ℕ} {text bytes : List ℕ} → Unbroken text → (text ≢ []) → Line F actions features n text bytes
      → Transcribed F actions features n text (bytes ∷ [])
  one_line : {n : ℕ} {text bytes rest : List ℕ} {more : List (List ℕ)} → Unbroken text → Line F actions features n text bytes
      → Transcribed F actions features (next n) rest more → Transcribed F actions features n (text ++ 10 ∷ rest) (bytes ∷ more)
