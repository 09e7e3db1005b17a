-- The lines that are written, byte by byte.
use Rattle.std.specs.Prelude.{◌≡◌, ℕ, Bool, cond, List, ◌++◌, map, codes, decimal}
use Rattle.families.specs.Families.{Family}
use Rattle.report.specs.Answers.{Outcome, digits, refused, Answer}

-- The byte of a digit.
abbrev pub digit : Bool → ℕ
digit b = cond b 49 48

-- Two numbers with a space between.
abbrev pub two_numbers : ℕ → ℕ → List ℕ
two_numbers k v = decimal k ++ (codes " " ++ decimal v)

-- The line with the answer to line n of the input.
abbrev pub written : ℕ → Outcome → List ℕ
written n (digits ds) = decimal n ++ (codes " " ++ map digit ds)
written n (refused k v) = decimal n ++ (codes " refused " ++ two_numbers k v)

-- These bytes are the line for line n of the input, which is this text.
abbrev pub Line : Family → List ℕ → List ℕ → ℕ → List ℕ → List ℕ → Type 0
Line F actions features n text bytes = (o : Outcome) × Answer F actions features text o × (bytes ≡ written n o)
