-- Which token of a list is the first that no formula could have there.
use Rattle.std.specs.Prelude.{◌≡◌, ◌⊎◌, List, [], ◌∷◌, ◌++◌}
use Rattle.lexer.specs.Tokens.{Tok}
use Rattle.grammar.specs.Grammar.{Tree, FormulaOf}

abbrev pub IsFormula : List Tok → Type 0
IsFormula ts = (f : Tree) × FormulaOf ts f

-- Some formula begins with these tokens.
abbrev pub Begins : List Tok → Type 0
Begins ts = (w : List Tok) × IsFormula (ts ++ w)

-- No formula begins with these tokens and then the first of rest; if rest is empty, they are no formula.
abbrev pub Refuses : List Tok → List Tok → Type 0
Refuses ts [] = IsFormula ts → ⊥
Refuses ts (t ∷ rest) = Begins (ts ++ t ∷ []) → ⊥

-- What is left of the tokens ts from the first token on that no formula could have there.
pub record Offends (ts rest : List Tok) : Type 0 where
  pub before : List Tok
  pub split : ts ≡ before ++ rest
  pub begins : Begins before
  pub refuses : Refuses before rest

-- Each list of tokens is a formula, or has a first token that no formula could have there, or ends too soon.
abbrev pub Decided : Type 0
Decided = (ts : List Tok) → IsFormula ts ⊎ ((rest : List Tok) × Offends ts rest)

-- A list of tokens has at most one tree.
abbrev pub Unambiguous : Type 0
Unambiguous = (ts : List Tok) (f g : Tree) → FormulaOf ts f → FormulaOf ts g → f ≡ g

-- A formula has no offending token, and other lists of tokens have one place where they offend.
abbrev pub OneOffence : Type 0
OneOffence = (ts : List Tok) → ((rest : List Tok) → IsFormula ts → Offends ts rest → ⊥) × ((r q : List Tok) → Offends ts r → Offends ts q → r ≡ q)
