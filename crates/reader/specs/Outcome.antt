-- What reading a text gives, and what both tables hold then.
use Rattle.std.specs.Prelude.{◌≡◌, ℕ, ◌-◌, ◌<◌, ◌≤◌, ◌⊎◌, List, [], ◌∷◌, ◌++◌, length, replicate, Ok, Err, Result}
use Rattle.lexer.specs.Tokens.{Tok}
use Rattle.words.specs.Words.{Lines, WordList, number}
use Rattle.formulas.specs.declared.Expr.{Expr}
use Rattle.formulas.specs.declared.Expr.TheVariants as ex
use Rattle.formulas.specs.declared.Node.{Node}
use Rattle.formulas.specs.declared.Node.TheVariants as nd
use Rattle.grammar.specs.Grammar.{Tree, FormulaOf}
use Rattle.grammar.specs.declared.Level.TheVariants.{Formula as formula}
use Rattle.grammar.specs.Viable.{Offends}
use Rattle.reader.specs.Numbering.{Tables, none_entered, enter}
use Rattle.reader.specs.Reading.{place_from, place_of, Source, entered, filled}
use Rattle.reader.specs.Vocabularies.{Worded}
use Rattle.reader.specs.declared.vocabulary.Vocabulary.{Vocabulary}
use Rattle.lexer.specs.Texts.{TokensOf, NoTokenAt}
use Rattle.reader.specs.declared.refusals.Refusal.{Refusal}
use Rattle.reader.specs.declared.refusals.Refusal.TheVariants as rf
pub use Rattle.reader.specs.Refusals.{refusal_number, refusal_value, answer_number, answer_value}

-- The entries of a formula, whose actions and features are named by two lists of names.
abbrev pub numbering : List (List ℕ) → List (List ℕ) → Tree → Tables
numbering av fv f = enter (number av) (number fv) formula f none_entered

-- A text of at most 1,024 bytes and two word lists in form, with their names.
pub record Fit (text actions features : List ℕ) (av fv : List (List ℕ)) : Type 0 where
  pub short : length text ≤ 1024
  pub action_list : WordList 64 actions av
  pub feature_list : WordList 16 features fv

-- A text whose tokens are a formula.
pub record Formed (text actions features : List ℕ) (av fv : List (List ℕ)) (f : Tree) : Type 0 where
  pub fit : Fit text actions features av fv
  pub tokens : List Tok
  pub lexed : TokensOf text 0 tokens
  pub derived : FormulaOf tokens f

-- The answer's number and value, and both tables after it, for tables of n and m entries.
pub data Tried (text actions features : List ℕ) (n m : ℕ) : ℕ → ℕ → List Expr → List Node → Type 0 where
  long_text : 1024 < length text → Tried text actions features n m 20 0 (replicate n ex.False) (replicate m nd.False)
  no_words : length text ≤ 1024 → (Worded actions features → ⊥) → Tried text actions features n m 21 0 (replicate n ex.False) (replicate m nd.False)
  no_token : (av fv : List (List ℕ)) (p : ℕ) → Fit text actions features av fv → NoTokenAt text 0 p → Tried text actions features n m 22 p (replicate n ex.False) (replicate m nd.False)
  no_formula : (av fv : List (List ℕ)) (ts rest : List Tok) → Fit text actions features av fv → TokensOf text 0 ts → Offends ts rest → Tried text actions features n m 23 (place_of text rest) (replicate n ex.False) (replicate m nd.False)
  unknown_name : (av fv : List (List ℕ)) (f : Tree) (p : ℕ) (ps : List ℕ) → Formed text actions features av fv f → (numbering av fv f).unknown ≡ p ∷ ps → Tried text actions features n m 24 p (replicate n ex.False) (replicate m nd.False)
  too_many : (av fv : List (List ℕ)) (f : Tree) → Formed text actions features av fv f → (numbering av fv f).unknown ≡ [] → (64 < length (numbering av fv f).nodes) ⊎ (64 < length (numbering av fv f).exprs) → Tried text actions features n m 25 0 (replicate n ex.False) (replicate m nd.False)
  accepted : (av fv : List (List ℕ)) (f : Tree) → Formed text actions features av fv f → (numbering av fv f).unknown ≡ [] → length (numbering av fv f).nodes ≤ 64 → length (numbering av fv f).exprs ≤ 64
      → Tried text actions features n m 0 (length (numbering av fv f).nodes) ((numbering av fv f).exprs ++ replicate (n - length (numbering av fv f).exprs) ex.False) ((numbering av fv f).nodes ++ replicate (m - length (numbering av fv f).nodes) nd.False)

-- Reading: it is tried if both tables have 64 entries; else it is refused with 19, and both tables stay as they were.
pub data Reading (text actions features : List ℕ) (es : List Expr) (ns : List Node) : ℕ → ℕ → List Expr → List Node → Type 0 where
  short_table : (length es < 64) ⊎ (length ns < 64) → Reading text actions features es ns 19 0 es ns
  tried : {k v : ℕ} {fs : List Expr} {ms : List Node} → 64 ≤ length es → 64 ≤ length ns → Tried text actions features (length es) (length ns) k v fs ms → Reading text actions features es ns k v fs ms

-- ---- what the parts of the reader say

abbrev pub Attempted : List ℕ → List ℕ → List ℕ → ℕ → ℕ → List Expr → List Node → Result ℕ Refusal → Type 0
Attempted text actions features n m es ns (Ok k) = Tried text actions features n m 0 k es ns
Attempted text actions features n m es ns (Err r) = Tried text actions features n m (refusal_number r) (refusal_value r) (replicate n ex.False) (replicate m nd.False)

-- What the parser is given.
pub record Ready (x : Source) (names : Vocabulary) (es : List Expr) (ns : List Node) : Type 0 where
  pub actions : Lines names.actions.list.now x.action_names
  pub features : Lines names.features.list.now x.feature_names
  pub exprs : es ≡ replicate x.exprs ex.False
  pub nodes : ns ≡ replicate x.nodes nd.False

-- What is said of tables that have been entered.
abbrev pub Judged : Tables → Result ℕ Refusal → Type 0
Judged t (Ok n) = (t.unknown ≡ []) × (length t.nodes ≤ 64) × (length t.exprs ≤ 64) × (n ≡ length t.nodes)
Judged t (Err rf.ShortTable) = ⊥
Judged t (Err rf.LongText) = ⊥
Judged t (Err rf.WordList) = ⊥
Judged t (Err (rf.NoToken p)) = ⊥
Judged t (Err (rf.NoFormula p)) = ⊥
Judged t (Err (rf.UnknownName p)) = (ps : List ℕ) × (t.unknown ≡ p ∷ ps)
Judged t (Err rf.TooManyEntries) = (t.unknown ≡ []) × ((64 < length t.nodes) ⊎ (64 < length t.exprs))

-- The tokens, whose text has this length, offend at a place, or are a formula of which something is said, and whose
-- entries are in the tables as far as they fit.
pub data Parsed (x : Source) (end : ℕ) (ts : List Tok) (es : List Expr) (ns : List Node) : Result ℕ Refusal → Type 0 where
  offends : (rest : List Tok) → Offends ts rest → Parsed x end ts es ns (Err (rf.NoFormula (place_from end rest)))
  parsed : {r : Result ℕ Refusal} (f : Tree) → FormulaOf ts f → es ≡ filled x.exprs ex.False (entered x formula f none_entered).exprs → ns ≡ filled x.nodes nd.False (entered x formula f none_entered).nodes → Judged (entered x formula f none_entered) r → Parsed x end ts es ns r
