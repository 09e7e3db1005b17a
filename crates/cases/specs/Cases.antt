-- Worked cases: what is answered to texts over a family of four products, from the bytes of its file on.
use Rattle.std.specs.Prelude.{◌≡◌, ℕ, List, [], ◌∷◌, map, codes, nat_eq}
use Prim.Native.String.{String}
use Rattle.std.specs.List.{AllByRecursion}
use Rattle.families.specs.Families.{Family}
use Rattle.book.specs.Rules.{opened, strike_after}
use Rattle.book.specs.Loads.{load_answer, load_after}
use Rattle.words.specs.Words.{listed, InForm}
use Rattle.report.specs.Answers.{Outcome, digits, refused, Answer}

-- ---- the files

-- Four products, with auto, with hand, with both and with neither, and six transitions: source, action, target, required features.
abbrev pub family_file : List ℕ
family_file =
    80 ∷ 1 ∷ 0 ∷ 0 ∷ 0 ∷ 0 ∷ 0 ∷ 0
    ∷ 80 ∷ 2 ∷ 0 ∷ 0 ∷ 0 ∷ 0 ∷ 0 ∷ 0
    ∷ 80 ∷ 3 ∷ 0 ∷ 0 ∷ 0 ∷ 0 ∷ 0 ∷ 0
    ∷ 80 ∷ 0 ∷ 0 ∷ 0 ∷ 0 ∷ 0 ∷ 0 ∷ 0
    ∷ 84 ∷ 0 ∷ 0 ∷ 1 ∷ 0 ∷ 0 ∷ 0 ∷ 0
    ∷ 84 ∷ 1 ∷ 1 ∷ 2 ∷ 1 ∷ 0 ∷ 0 ∷ 0
    ∷ 84 ∷ 1 ∷ 1 ∷ 2 ∷ 2 ∷ 0 ∷ 0 ∷ 0
    ∷ 84 ∷ 2 ∷ 2 ∷ 3 ∷ 1 ∷ 0 ∷ 0 ∷ 0
    ∷ 84 ∷ 2 ∷ 3 ∷ 0 ∷ 2 ∷ 0 ∷ 0 ∷ 0
    ∷ 84 ∷ 3 ∷ 3 ∷ 0 ∷ 0 ∷ 0 ∷ 0 ∷ 0
    ∷ []

-- The names, and the two word lists that have a name in each line.
abbrev pub action_names : List (List ℕ)
action_names = codes "fill" ∷ codes "rennet" ∷ codes "test" ∷ codes "cut" ∷ []

abbrev pub feature_names : List (List ℕ)
feature_names = codes "auto" ∷ codes "hand" ∷ []

abbrev pub actions : List ℕ
actions = listed action_names

abbrev pub features : List ℕ
features = listed feature_names

-- All ten records of the file come into a book of so many states, and both word lists keep their form.
abbrev pub FilesHold : ℕ → Type 0
FilesHold states = (load_answer (opened states) family_file ≡ (0, 10)) × InForm 64 actions × InForm 16 features

-- The family that the file makes of an empty book, and the same after the third transition is struck.
abbrev pub six_transitions : ℕ → Family
six_transitions states = load_after (opened states) family_file

abbrev pub five_transitions : ℕ → Family
five_transitions states = strike_after (six_transitions states) (record { source = 1; action = 1; target = 2; required = 2; excluded = 0 })

-- ---- the cases

-- A text over a family, and what is answered to it.
pub record Case : Type 0 where
  pub family : Family
  pub text : List ℕ
  pub outcome : Outcome

abbrev pub over : Family → String → Outcome → Case
over F text o = record { family = F; text = codes text; outcome = o }

-- Digits as they are written: byte 49 is a 1.
abbrev pub row : String → Outcome
row s = digits (map (nat_eq 49) (codes s))

-- Never a cut right after the rennet.
abbrev pub no_early_cut : String
no_early_cut = "nu X. [fill|true]X && [rennet|true]X && [test|true]X && [cut|true]X && [rennet|true][cut|true]false"

abbrev pub cases : ℕ → List Case
cases states =
    over (six_transitions states) "<fill|hand>true" (row "0110")
    ∷ over (six_transitions states) "[fill|hand]false" (row "1001")
    -- some run comes to a cut
    ∷ over (six_transitions states) "mu X. <cut|true>true || <fill|true>X || <rennet|true>X || <test|true>X" (row "1110")
    ∷ over (six_transitions states) no_early_cut (row "1001")
    ∷ over (five_transitions states) no_early_cut (row "1101")
    -- on every run without end there is a cut again and again
    ∷ over (six_transitions states) "nu X. mu Y. [fill|true]Y && [rennet|true]Y && [test|true]Y && [cut|true]X" (row "1111")
    ∷ over (six_transitions states) "!mu X. !!X" (row "1111")
    -- a variable under one negation, one that nothing binds, and one that is bound twice
    ∷ over (six_transitions states) "mu X. !X" (refused 16 0)
    ∷ over (six_transitions states) "X" (refused 15 0)
    ∷ over (six_transitions states) "mu X. X || mu X. X" (refused 14 4)
    ∷ []

-- What a case says: the outcome is the answer to the text.
abbrev pub Holds : Case → Type 0
Holds c = Answer c.family actions features c.text c.outcome

abbrev pub CasesHold : ℕ → Type 0
CasesHold states = AllByRecursion Holds (cases states)
