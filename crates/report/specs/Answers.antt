-- What is answered to a formula text over a family.
use Rattle.std.specs.Prelude.{◌≡◌, ℕ, ◌<◌, ◌≤◌, Bool, false, T, ◌↔◌, List, length, take, slice_index_or}
use Rattle.families.specs.Families.{Family, count, config}
use Rattle.formulas.specs.Trees.{Formula}
use Rattle.formulas.specs.Sound.{Sound}
use Rattle.formulas.specs.Judge.{Judged}
use Rattle.formulas.specs.declared.Expr.{Expr}
use Rattle.formulas.specs.declared.Node.{Node}
use Rattle.semantics.specs.Plain.{Holds}
use Rattle.semantics.specs.Meaning.{projection, translated}
use Rattle.semantics.specs.Entries.{no_states}
use Rattle.words.specs.Words.{number}
use Rattle.grammar.specs.Grammar.{Tree}
use Rattle.reader.specs.Outcome.{Formed, Tried}
use Rattle.reader_laws.specs.Results.{formula_of}

-- An answer: a digit for each product, or a refusal with its value.
pub data Outcome : Type 0 where
  digits : List Bool → Outcome
  refused : ℕ → ℕ → Outcome

-- The formula that a text derives by the grammar; the names in it have the numbers that two word lists give them.
pub record Derives (text actions features : List ℕ) (φ : Formula) : Type 0 where
  pub action_names : List (List ℕ)
  pub feature_names : List (List ℕ)
  pub tree : Tree
  pub formed : Formed text actions features action_names feature_names tree
  pub is : φ ≡ formula_of (number action_names) (number feature_names) tree

-- Product p has a formula in state 0, by plain checking: its translation for the product's configuration holds there in the system of the
-- product's own transitions.
abbrev pub Has : Family → Formula → ℕ → Type 0
Has F φ p = Holds (projection F p) (translated φ (config F p)) no_states 0

-- A digit for each product says whether it has the formula in state 0.
abbrev pub Digits : Family → Formula → List Bool → Type 0
Digits F φ ds = (length ds ≡ count F) × ((p : ℕ) → p < count F → T (slice_index_or ds p false) ↔ Has F φ p)

-- What is answered to tables that stand for the formula φ, over a family: they are judged, then 64 places have to suffice for the products.
pub data Checked (F : Family) (es : List Expr) (ns : List Node) (φ : Formula) : Outcome → Type 0 where
  unsound : {k v : ℕ} → Judged es ns k v → ¬ (k ≡ 0) → Checked F es ns φ (refused k v)
  crowded : Sound es ns → 64 < count F → Checked F es ns φ (refused 17 0)
  answered : {ds : List Bool} → Sound es ns → count F ≤ 64 → Digits F φ ds → Checked F es ns φ (digits ds)

-- What is answered to a text: it is read into two tables of 64 entries, of which its formula has the first n, and these are checked.
pub data Answer (F : Family) (actions features text : List ℕ) : Outcome → Type 0 where
  unread : {k v : ℕ} {es : List Expr} {ns : List Node} → Tried text actions features 64 64 k v es ns → ¬ (k ≡ 0)
      → Answer F actions features text (refused k v)
  read : {n : ℕ} {es : List Expr} {ns : List Node} {o : Outcome} (φ : Formula) → Tried text actions features 64 64 0 n es ns
      → Derives text actions features φ → Checked F es (take n ns) φ o → Answer F actions features text o
