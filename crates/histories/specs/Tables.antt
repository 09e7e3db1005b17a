-- What a table says.
use Rattle.std.specs.Prelude.{◌≡◌, ℕ, ◌+◌, ◌*◌, ◌<◌, Bool, false, ◌&&◌, ◌↔◌, IsTrue, List, length, nat_lt}
use Rattle.std.specs.Prelude.{map, take}
use Rattle.std.specs.Prelude.{Option, Some, slice_get, option_map, unwrap_or, option_and_then}
use Rattle.families.specs.Families.{Family, count, config}
use Rattle.formulas.specs.Sound.{Sound}
use Rattle.formulas.specs.declared.Expr.{Expr}
use Rattle.formulas.specs.declared.Node.{Node}
use Rattle.semantics.specs.Meaning.{projection}
use Rattle.semantics.specs.Entries.{EntryHolds}
use Rattle.histories.specs.declared.table.Table.{Table}

-- The column of a product: its answers, entry after entry and state after state. A number that is no
-- product's has none.
abbrev pub column : Table → ℕ → Option (List Bool)
column table p = option_map (λ answers. answers.items) (slice_get table.columns.items p)

-- Whether product p is in the table at entry n and state s; where one of them is out of range it is not.
abbrev pub holds : Table → ℕ → ℕ → ℕ → Bool
holds table n s p =
    let answer = option_and_then (λ answers. slice_get answers (n * table.states + s)) (column table p) in
    nat_lt n table.entries && (nat_lt s table.states && unwrap_or answer false)

-- A table of the ledger F and of sound formula tables: for every entry, state and product, the product is in
-- it exactly if the entry holds there by plain checking of the product's configuration and own transitions.
pub record IsPlainTable (F : Family) (es : List Expr) (ns : List Node) (table : Table) : Type 0 where
  pub sound : Sound es ns
  pub entries : table.entries ≡ length ns
  pub states : table.states ≡ F.states
  pub products : length table.columns.items ≡ count F
  pub sized : (p : ℕ) → p < count F → option_map length (column table p) ≡ Some (length ns * F.states)
  pub plain : (n s p : ℕ) → n < length ns → s < F.states
      → IsTrue (holds table n s p) ↔ ((p < count F) × EntryHolds (projection F p) (config F p) es ns n s)

-- What is read from the cells of a check of n entries over the family F: a column for each product, in which
-- each of the first cells, one for each entry and state, says whether the product is in it.
pub record Reads {X : Type 0} (F : Family) (n : ℕ) (mean : X → ℕ → Bool) (cells : List X) (table : Table)
    : Type 0 where
  pub entries : table.entries ≡ n
  pub states : table.states ≡ F.states
  pub products : length table.columns.items ≡ count F
  pub columns : (p : ℕ) → p < count F
      → column table p ≡ Some (map (λ set. mean set p) (take (n * F.states) cells))
