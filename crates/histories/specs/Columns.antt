-- The column law: products that are alike get equal columns.
use Rattle.std.specs.Prelude.{◌≡◌, ◌<◌, Bool, ◌↔◌, IsTrue, IsSome, List, length}
use Rattle.std.specs.Prelude.{Option, None, Some, slice_get, option_and_then}
use Rattle.std.specs.Borrow.{Bor}
use Rattle.families.specs.Families.{Family, count}
use Rattle.formulas.specs.declared.Expr.{Expr}
use Rattle.formulas.specs.declared.Node.{Node}
use Rattle.semantics.specs.Laws.{Like}
use Rattle.histories.specs.declared.calls.Call.TheVariants.{Check}
use Rattle.histories.specs.declared.table.Table.{Table}
use Rattle.histories.specs.declared.columns.Column.{Column}
use Rattle.histories.specs.Ledger.{ledger_at}
use Rattle.histories.specs.Tables.{column}
use Rattle.histories.specs.Logs.{table_at}

-- The table that a column is in, the answers there, and the ledger of its check.
abbrev pub table_of_column : Column → Option Table
table_of_column c = table_at c.log.now.replies.items c.position

abbrev pub answers : Column → Option (List Bool)
answers c = option_and_then (λ table. column table c.product) (table_of_column c)

abbrev pub ledger_of : Column → Family
ledger_of c = ledger_at c.log.now.history.states c.log.now.history.calls.now c.position

-- Two columns can be compared: they are in tables with equally many entries and states, and of products
-- there.
pub record AreComparable (one other : Column) : Type 0 where
  pub table : Table
  pub other_table : Table
  pub is_table : table_of_column one ≡ Some table
  pub is_other : table_of_column other ≡ Some other_table
  pub entries : table.entries ≡ other_table.entries
  pub states : table.states ≡ other_table.states
  pub product : one.product < length table.columns.items
  pub other_product : other.product < length other_table.columns.items

-- A comparison answers none where there is nothing to compare, and else whether the two have the same
-- answers.
abbrev pub Compares : Column → Column → Option Bool → Type 0
Compares one other None = ¬ AreComparable one other
Compares one other (Some same) = AreComparable one other × (IsTrue same ↔ (answers one ≡ answers other))

-- The column is that of a product in an accepted check of these tables.
pub record IsColumnOf (c : Column) (es : List Expr) (ns : List Node) : Type 0 where
  pub exprs : Bor (List Expr)
  pub nodes : Bor (List Node)
  pub call : slice_get c.log.now.history.calls.now c.position ≡ Some (Check exprs nodes)
  pub same_exprs : exprs.now ≡ es
  pub same_nodes : nodes.now ≡ ns
  pub accepted : IsSome (table_of_column c)
  pub product : c.product < count (ledger_of c)

-- The column law. Two products that are alike, in configuration and in own transitions as the ledgers of two
-- accepted checks then have them, have the same answers in these checks of the same tables: of one run or of
-- two, whatever the order, the numbering, the neighbours and the kinds.
abbrev pub ColumnLaw : Column → Column → Type 0
ColumnLaw one other =
    (es : List Expr) (ns : List Node) → IsColumnOf one es ns → IsColumnOf other es ns
    → Like (ledger_of one) one.product (ledger_of other) other.product → answers one ≡ answers other
