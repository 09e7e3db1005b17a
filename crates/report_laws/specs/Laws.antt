-- What holds of the answers to texts, lines and inputs.
use Rattle.std.specs.Prelude.{◌≡◌, ℕ, ◌<◌, Bool, false, List, [], ◌∷◌, slice_index_or}
use Rattle.std.specs.List.{ContainsAt as Has}
use Rattle.families.specs.Families.{Family, count}
use Rattle.semantics.specs.Laws.{Like}
use Rattle.report.specs.Answers.{Outcome, digits, refused, Answer}
use Rattle.report.specs.Lines.{Line}
use Rattle.report.specs.Sessions.{Worded}
use Rattle.report.specs.Transcripts.{Transcribed}

-- A text has one answer, a line is answered by one line of bytes, and for an input one list of lines is written.
abbrev pub OneOutcome : Type 0
OneOutcome = (F : Family) (actions features text : List ℕ) (o p : Outcome) → Answer F actions features text o → Answer F actions features text p → o ≡ p

abbrev pub OneLine : Type 0
OneLine = (F : Family) (actions features : List ℕ) (n : ℕ) (text xs ys : List ℕ)
    → Line F actions features n text xs → Line F actions features n text ys → xs ≡ ys

abbrev pub OneTranscript : Type 0
OneTranscript = (F : Family) (actions features : List ℕ) (n : ℕ) (input : List ℕ) (xs ys : List (List ℕ))
    → Transcribed F actions features n input xs → Transcribed F actions features n input ys → xs ≡ ys

-- The refusals that a text can meet once both word lists keep their form: what is read keeps the rules on sizes, parts and naming, so of the
-- tables' own refusals only those on variables are left.
abbrev pub text_refusals : List ℕ
text_refusals = 14 ∷ 15 ∷ 16 ∷ 17 ∷ 20 ∷ 22 ∷ 23 ∷ 24 ∷ 25 ∷ []

abbrev pub FewRefusals : Type 0
FewRefusals = (F : Family) (actions features text : List ℕ) → Worded actions features
    → (k v : ℕ) → Answer F actions features text (refused k v) → Has text_refusals k

-- Two products that are alike in configuration and own transitions get the same digit, in any two families, whatever the order, the numbering
-- and the neighbours.
abbrev pub SameDigit : Type 0
SameDigit = (F G : Family) (p q : ℕ) → p < count F → q < count G → 0 < F.states → Like F p G q
    → (actions features text : List ℕ) (ds es : List Bool)
    → Answer F actions features text (digits ds) → Answer G actions features text (digits es)
    → slice_index_or ds p false ≡ slice_index_or es q false
