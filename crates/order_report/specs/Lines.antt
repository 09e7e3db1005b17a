-- The lines that tell of a check, and those that compare two.
use Rattle.std.specs.Prelude.{◌≡◌, ℕ, zero, suc, ◌+◌, ◌-◌, max, Bool, true, false, if◌then◌else◌}
use Rattle.std.specs.Prelude.{List, [], ◌++◌, length, Option, None, Some, slice_get, option_map, unwrap_or}
use Rattle.std.specs.Prelude.{codes, decimal}
use Rattle.histories.specs.declared.columns.Column.{Column}
use Rattle.histories.specs.declared.log.Log.{Log}
use Rattle.histories.specs.declared.log.Reply.{Reply}
use Rattle.histories.specs.declared.log.Reply.TheVariants.{NotAdmitted, Done, Answer, Checked}
use Rattle.histories.specs.declared.table.Table.{Table}
use Rattle.histories.specs.Columns.{Compares}
use Rattle.histories.specs.Logs.{table_at}
use Rattle.histories.specs.Tables.{holds}

-- The texts of the numbers below n, in order.
abbrev pub texts_below : ℕ → (ℕ → List ℕ) → List ℕ
texts_below zero text = []
texts_below (suc n) text = texts_below n text ++ text n

-- How many products a table has columns for.
abbrev pub products : Table → ℕ
products table = length table.columns.items

-- The digit of a product in a state: 1 exactly if the whole formula, which is the last entry, holds there.
abbrev pub digit : Table → ℕ → ℕ → List ℕ
digit table state product =
    if holds table (table.entries - 1) state product then codes "1" else codes "0"

-- The line of a state.
abbrev pub state_line : Table → ℕ → List ℕ
state_line table state =
    (codes "  state " ++ (decimal state ++ codes ": "))
    ++ (texts_below (products table) (digit table state) ++ codes "\n")

-- The lines of an accepted check: its value, and then the states.
abbrev pub table_lines : ℕ → Table → List ℕ
table_lines value table =
    (codes "  " ++ (decimal value ++ codes " products keep the rule in state 0\n"))
    ++ texts_below table.states (state_line table)

-- The lines of a reply: of an accepted check, or of a refusal. A call that answers nothing has none.
abbrev pub reply_lines : Reply → List ℕ
reply_lines NotAdmitted = []
reply_lines Done = []
reply_lines (Answer number value) =
    codes "  refused " ++ (decimal number ++ (codes " " ++ (decimal value ++ codes "\n")))
reply_lines (Checked value table) = table_lines value table

-- The lines of the reply at a position of a log; beyond its end there are none.
abbrev pub check_lines : Log → ℕ → List ℕ
check_lines log k = unwrap_or (option_map reply_lines (slice_get log.replies.items k)) []

-- What a comparison found, in words.
abbrev pub finding : Option Bool → List ℕ
finding (Some true) = codes "the same column"
finding (Some false) = codes "another column"
finding None = codes "not comparable"

-- The line of a product.
abbrev pub product_line : ℕ → Option Bool → List ℕ
product_line p same = codes "  product " ++ (decimal p ++ (codes ": " ++ (finding same ++ codes "\n")))

-- How many products the check at a position has columns for; none where it is no accepted check.
abbrev pub product_count : Log → ℕ → ℕ
product_count log k = unwrap_or (option_map products (table_at log.replies.items k)) 0

-- This is the column of product p in the check at position k of a log.
pub record IsColumn (log : Log) (k p : ℕ) (column : Column) : Type 0 where
  pub in_log : column.log.now ≡ log
  pub at_position : column.position ≡ k
  pub of_product : column.product ≡ p

-- The lines of the first products: each tells what the comparison of its columns in the two logs answers.
pub data Compared (log given : Log) (k : ℕ) : ℕ → List ℕ → Type 0 where
  none : Compared log given k 0 []
  more : {p : ℕ} {before : List ℕ} (one other : Column) (same : Option Bool)
      → Compared log given k p before
      → IsColumn log k p one → IsColumn given k p other → Compares one other same
      → Compared log given k (p + 1) (before ++ product_line p same)

-- The lines of every product that the check has in one log or in the other.
abbrev pub Comparison : Log → Log → ℕ → List ℕ → Type 0
Comparison log given k bytes =
    Compared log given k (max (product_count log k) (product_count given k)) bytes
