-- All that a check promises.
use Rattle.std.specs.Prelude.{◌≡◌, ◌≢◌, ℕ, ◌*◌, ◌<◌, ◌≤◌, Bool, List, length, slice_get}
use Rattle.families.specs.Families.{Family}
use Rattle.formulas.specs.Tables.{last}
use Rattle.formulas.specs.declared.Expr.{Expr}
use Rattle.formulas.specs.declared.Node.{Node}
use Rattle.semantics.specs.Entries.{Filled, no_pairs}
use Rattle.product_sets.specs.Cells.{in_cell}
use Rattle.semantics.specs.Evaluation.{OnlyProducts}
use Rattle.checker.specs.Walks.{rows}
use Rattle.checker.specs.Checks.{Answered}

-- The law of a check of a formula table over a family: which number and value it answers, and what it
-- leaves of a kind and of cells, from what it
-- found. `means` says of a kind which places are in a set, and `places` how many it has.
pub record CheckLaw {K S : Type 0} (means : K → S → ℕ → Bool) (places : ℕ) (F : Family) (es : List Expr)
    (ns : List Node)
    (kind : K) (cells : List S) (kind' : K) (cells' : List S) (number value : ℕ) : Type 0 where
  -- the value counts the products in the cell of the last entry and state 0
  pub answer : Answered F es ns places (length cells) (in_cell (means kind') cells' (last ns * F.states))
      number value
  -- accepted, there is a cell for each entry and state,
  pub room : number ≡ 0 → length ns * F.states ≤ length cells
  -- the rows of the entries hold their meanings,
  pub filled : number ≡ 0 → Filled F es ns (rows (means kind') F.states cells') no_pairs (last ns)
  -- and products alone,
  pub products : number ≡ 0 → (n : ℕ) → n < length ns → OnlyProducts F (rows (means kind') F.states cells' n)
  -- and the cells past them are as they were
  pub beyond : number ≡ 0 → (i : ℕ) → length ns * F.states ≤ i → slice_get cells' i ≡ slice_get cells i
  -- refused, all is as it was
  pub refused : number ≢ 0 → (kind' ≡ kind) × (cells' ≡ cells)

-- The answer of a check is one: two checks of the same tables over the same family, with kinds and cells
-- of their own, answer the same value if
-- both accept, and the same number and value if the kinds have equally many places and there are equally
-- many cells.
abbrev pub OneChecked : {K S L X : Type 0} → (K → S → ℕ → Bool) → ℕ → (L → X → ℕ → Bool) → ℕ → Type 0
OneChecked {K} {S} {L} {X} means places means' places' =
    (F : Family) (es : List Expr) (ns : List Node) → 0 < F.states
    → (k k' : K) (xs xs' : List S) (l l' : L) (ys ys' : List X) (number value number' value' : ℕ)
    → CheckLaw means places F es ns k xs k' xs' number value → CheckLaw means' places' F es ns l ys l' ys'
    number' value'
    → (number ≡ 0 → number' ≡ 0 → value ≡ value')
    × (places ≡ places' → length xs ≡ length ys → (number ≡ number') × (value ≡ value'))
